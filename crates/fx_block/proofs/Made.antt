-- What is made of a candidate that passes passes.
use Rattle.std.proofs.Common.{◌≡◌, ℕ, zero, suc, ◌+◌, ◌-◌, ◌*◌, ◌^◌, ◌<◌, ◌≤◌, arith, refl, ap, ap₂, sym, ◌∙◌, subst}
use Rattle.std.proofs.Common.{inl, inr, cond, min, Bool, true, false, List, length}
use Rattle.std.proofs.Math.IntN.{ℤ, pos, ◌+ℤ◌, ◌*ℤ◌}
use Rattle.std.specs.Int.Signed.{◌≤ℤ◌}
use Rattle.std.specs.Prelude.{Option, Some, None, int_le}
use Rattle.std.specs.Option.{option_map}
use Rattle.std.proofs.lemmas.Bool.{cases_lt, cond-true, cond-false, lt-ltb, le-ltb}
use Rattle.std.proofs.lemmas.Int.{ints}
use Rattle.std.proofs.lemmas.Nat.{pow-add, pow_pos}
use Rattle.std.proofs.Math.Nat.{mul-le-mul_left}
use Rattle.std.proofs.lemmas.List.{length-map}
use mathlib.Core.Path.{fun_ext}
use Rattle.fx_math.proofs.Faults.{or_none}
use Rattle.fx_files.specs.Filter.{Filter}
use Rattle.fx_eqs.specs.Expanded.{expanded, row_place}
use Rattle.fx_net.specs.Net.{empty_net}
use Rattle.fx_net.specs.Rows.{put_rows}
use Rattle.fx_code.proofs.Placing.{bare_is}
use Rattle.fx_code.specs.Code.{BareRow, Code, bare, row_at}
use Rattle.fx_code.specs.Fits.{CodeFits, RowFits}
use Rattle.fx_code.specs.NetRows.{bare_at, bare_rows, put_bare_rows}
use Rattle.fx_cert.specs.Certificate.{Certificate}
use Rattle.fx_sweep.specs.Range.{first_range_in}
use Rattle.fx_sweep.specs.Target.{start_of}
use Rattle.fx_sweep.specs.declared.target.RangeAt.{RangeAt}
use Rattle.fx_sweep.specs.declared.target.Target.{Target}
use Rattle.fx_sweep.specs.declared.target.Target.TheVariants.{Pair, Row}
use Rattle.fx_totals.specs.Totals.{target_total}
use Rattle.fx_block.specs.Candidate.{Trial, candidate_count, candidate_net, candidate_pair, candidate_range}
use Rattle.fx_block.specs.Candidate.{candidate_total, cap_of, first_above, first_target, inner_count, most_width}
use Rattle.fx_block.specs.Candidate.{trial, with_bounds, with_errors, with_range}
use Rattle.fx_block.specs.Candidate.Trial.{AboveTarget, OutOfRange, OverCap, Passed, TooSlow}
use Rattle.fx_block.specs.Formats.{bound_of, output_at, shift_of}
use Rattle.fx_block.specs.Ideal.{WidthsHold}
use Rattle.fx_block.specs.Least.{AreLeastBounds}
use Rattle.fx_block.specs.Made.{CandidatesPass, IsCertificateOf, IsProgramOf, PassedBoundsAreLeast}
use Rattle.fx_block.specs.Passes.{IsOfForm, Passes, bound_at, error_at, judged_net, pair_of, row_count}
use Rattle.fx_block.specs.Raising.{Raises, RestIsLeast, least_by_raises}
use Rattle.fx_block.specs.Raising.Raises.{Over, Rest, Slow}
use Rattle.fx_block.proofs.Raising.{rest_within}

-- ---- none of so many

none_first : (n from : ℕ) (range : ℕ → Option RangeAt) → first_target n from range ≡ None →
    (t : ℕ) → t < n → range t ≡ None
none_first zero from range e t l = absurd (omega arith)
none_first (suc n) from range e t l =
    let parts = or_none (first_target n from range) (option_map {U = ℕ × RangeAt} (λ at. (from + n, at)) (range n)) e in
    elim (cases_lt t n) [
      | inl below ↦ none_first n from range parts.0 t below
      | inr at ↦ subst (λ i. range i ≡ None) (let same : n ≡ t = omega arith in same) (mapped (range n) parts.1)
    ]
  where
    mapped : (o : Option RangeAt) → option_map {U = ℕ × RangeAt} (λ at. (from + n, at)) o ≡ None → o ≡ None
    mapped None e = refl
    mapped (Some at) e = cc

none_above : (n : ℕ) (total target : ℕ → ℤ) → first_above n total target ≡ None →
    (o : ℕ) → o < n → total o ≤ℤ target o
none_above zero total target e o l = absurd (omega arith)
none_above (suc n) total target e o l =
    let parts = or_none (first_above n total target) (cond (int_le (total n) (target n)) None (Some n)) e in
    elim (cases_lt o n) [
      | inl below ↦ none_above n total target parts.0 o below
      | inr at ↦ subst (λ i. total i ≤ℤ target i) (let same : n ≡ o = omega arith in same)
          (tested (int_le (total n) (target n)) refl parts.1)
    ]
  where
    tested : (b : Bool) → int_le (total n) (target n) ≡ b → cond b None (Some n) ≡ None → total n ≤ℤ target n
    tested true f g = omega (arith, ints, f)
    tested false f g = cc

-- ---- what a trial that passes says

-- no sweep reaches its limit, the bounds are the least, and each total is at most its target
pub record PassesTrial (filter : Filter) (rows : List BareRow) (moments : ℕ) (x : ℕ → ℕ) : Type 0 where
  pub ranges : candidate_range filter rows moments ≡ None
  pub rests : least_by_raises (candidate_net filter rows) (candidate_count filter rows) (λ j. moments)
      (bound_of filter) (cap_of filter rows) ≡ Rest x
  pub totals : (o : ℕ) → o < length filter.outputs →
      candidate_total filter rows moments x o ≤ℤ (output_at filter o).target

module _ (filter : Filter) (rows : List BareRow) (moments : ℕ) (x : ℕ → ℕ) where
  vector_of : Trial → ℕ → ℕ
  vector_of (Passed y) = y
  vector_of (OutOfRange t at) = λ i. 0
  vector_of (OverCap row value cap) = λ i. 0
  vector_of (TooSlow row before after) = λ i. 0
  vector_of (AboveTarget o total target) = λ i. 0

  with_targets : (y : ℕ → ℕ) (o : Option ℕ) →
      first_above (length filter.outputs) (candidate_total filter rows moments y)
      (λ o. (output_at filter o).target) ≡ o →
      with_errors filter y (candidate_total filter rows moments y) o ≡ Passed x →
      (y ≡ x) × ((o : ℕ) → o < length filter.outputs →
      candidate_total filter rows moments y o ≤ℤ (output_at filter o).target)
  unfolding vector_of
  with_targets y None e f = (
    ap vector_of f,
    none_above (length filter.outputs) (candidate_total filter rows moments y)
        (λ o. (output_at filter o).target) e,
  )
  with_targets y (Some o) e f = cc

  with_rest : candidate_range filter rows moments ≡ None → (raises : Raises) →
      least_by_raises (candidate_net filter rows) (candidate_count filter rows) (λ j. moments) (bound_of filter)
      (cap_of filter rows) ≡ raises → with_bounds filter rows moments raises ≡ Passed x →
      PassesTrial filter rows moments x
  with_rest none (Rest y) e f =
      let at = with_targets y (first_above (length filter.outputs) (candidate_total filter rows moments y)
      (λ o. (output_at filter o).target)) refl f in
      record {
        ranges = none;
        rests = e ∙ ap Rest at.0;
        totals = subst (λ (z : ℕ → ℕ). (o : ℕ) → o < length filter.outputs →
            candidate_total filter rows moments z o ≤ℤ (output_at filter o).target) at.0 at.1;
      }
  with_rest none (Over row value cap) e f = cc
  with_rest none (Slow row before after) e f = cc

  passed : trial filter rows moments ≡ Passed x → PassesTrial filter rows moments x
  passed e = by (candidate_range filter rows moments) refl e
    where
      by : (o : Option (ℕ × RangeAt)) → candidate_range filter rows moments ≡ o →
          with_range filter rows moments o ≡ Passed x → PassesTrial filter rows moments x
      by None f g = with_rest f _ refl g
      by (Some found) f g = cc

-- ---- words and accumulators of a row within its cap

-- a sum whose floor by a shift is at most x fits where x is below the shifted limit
sum_fits : (x shift bits : ℕ) → shift < bits → x ≤ 2 ^ (bits - 1 - shift) - 1 →
    (pos (2 ^ shift) *ℤ (pos x +ℤ pos 1)) ≤ℤ pos (2 ^ (bits - 1))
sum_fits x shift bits l h =
    let parts : shift + (bits - 1 - shift) ≡ bits - 1 = omega (arith, l) in
    let split : 2 ^ (bits - 1) ≡ 2 ^ shift * 2 ^ (bits - 1 - shift) =
    ap (λ n. 2 ^ n) (sym parts) ∙ pow-add 2 shift (bits - 1 - shift) in
    let some : 0 < 2 ^ (bits - 1 - shift) = pow_pos (bits - 1 - shift) in
    let below : 2 ^ shift * (x + 1) ≤ 2 ^ shift * 2 ^ (bits - 1 - shift) =
    mul-le-mul_left (2 ^ shift) (let m : x + 1 ≤ 2 ^ (bits - 1 - shift) = omega (arith, h, some) in m) in
    omega (arith, ints, below, split)

-- ---- its bounds

module _ (filter : Filter) (rows : List BareRow) (moments : ℕ) (x : ℕ → ℕ) (of : PassesTrial filter rows moments x)
  where
    kept_rows : candidate_count filter rows ≤ (candidate_net filter rows).rows
    unfolding put_rows
    kept_rows = omega arith

    least_bounds : RestIsLeast → 0 < moments → AreLeastBounds (candidate_net filter rows) (candidate_count filter rows)
        (λ j. moments) (bound_of filter) x
    least_bounds law some =
        law (candidate_net filter rows) (candidate_count filter rows) (λ j. moments) (bound_of filter)
        (cap_of filter rows) x kept_rows (λ j l. some) of.rests

pub bounds_are_least : RestIsLeast → PassedBoundsAreLeast
bounds_are_least law filter rows moments x some passes =
    least_bounds filter rows moments x (passed filter rows moments x passes) law some

-- ---- programs and certificates of a candidate that passes

module _ (filter : Filter) (rows : List BareRow) (moments : ℕ) (x : ℕ → ℕ) (p : Code) (c : Certificate)
    (of : PassesTrial filter rows moments x) (program : IsProgramOf filter rows x p) (fits : CodeFits p)
    (certificate : IsCertificateOf filter rows moments x c) where
  count : length p.rows ≡ length rows
  count = sym (length-map p.rows bare) ∙ ap length program.rows_are

  total_count : row_count filter p ≡ candidate_count filter rows
  total_count = ap (λ n. n + length (expanded filter.equations)) count

  same_net : judged_net filter p ≡ candidate_net filter rows
  same_net =
      let net = λ (n : ℕ) (bare : List BareRow). put_rows (expanded filter.equations) n
      (put_bare_rows bare 0 (empty_net (n + length (expanded filter.equations)))) in
      ap (λ n. net n (bare_rows p)) count ∙ ap (net (length rows)) program.rows_are

  same_pair : (o : ℕ) → o < length filter.outputs → pair_of filter p o ≡ candidate_pair filter rows o
  same_pair o l =
      ap₂ (λ code n. Pair code (n + row_place filter.equations (output_at filter o).row) (shift_of filter o))
      (program.places o l) count

  same_bounds : bound_at c ≡ x
  same_bounds = fun_ext certificate.bounds

  same_range : (target : Target) → first_range_in (judged_net filter p) (start_of target) c.length
      ≡ first_range_in (candidate_net filter rows) (start_of target) moments
  same_range target =
      ap₂ (λ net m. first_range_in net (start_of target) m) same_net certificate.length_is

  same_total : (target : Target) →
      target_total (judged_net filter p) (start_of target) c.length (bound_of filter) (bound_at c)
      ≡ target_total (candidate_net filter rows) (start_of target) moments (bound_of filter) x
  same_total target =
      ap₂ (λ net m. target_total net (start_of target) m (bound_of filter) (bound_at c)) same_net
      certificate.length_is
      ∙ ap (λ y. target_total (candidate_net filter rows) (start_of target) moments (bound_of filter) y) same_bounds

  same_pair_total : (o : ℕ) → o < length filter.outputs →
      target_total (judged_net filter p) (start_of (pair_of filter p o)) c.length (bound_of filter) (bound_at c)
      ≡ candidate_total filter rows moments x o
  same_pair_total o l =
      same_total (pair_of filter p o)
      ∙ ap (λ target. target_total (candidate_net filter rows) (start_of target) moments (bound_of filter) x)
      (same_pair o l)

  row_below : (i : ℕ) → i < length p.rows → RowFits p.accumulator (row_at p i)
  row_below i l = fits.rows i _ l

  same_shift : (i : ℕ) → i < length p.rows → (row_at p i).own.shift ≡ (bare_at rows i).shift
  same_shift i l = ap (λ (row : BareRow). row.shift) (sym (bare_is p.rows i)
      ∙ ap (λ bare. bare_at bare i) program.rows_are)

  within_cap : (i : ℕ) → i < length p.rows →
      (x i ≤ 2 ^ (most_width filter rows i - 1) - 1) ×
      (x i ≤ 2 ^ (filter.settings.accumulator - 1 - (bare_at rows i).shift) - 1)
  within_cap i l =
      let inside : i < length rows = omega (arith, l, count) in
      let below : x i ≤ cap_of filter rows i =
      rest_within (candidate_net filter rows) (candidate_count filter rows) (λ j. moments) (bound_of filter)
      (cap_of filter rows) 63 (λ j. 0) x of.rests i (omega (arith, inside)) in
      let cap : cap_of filter rows i ≡ min (2 ^ (most_width filter rows i - 1) - 1)
      (2 ^ (filter.settings.accumulator - 1 - (bare_at rows i).shift) - 1) =
      cond-true _ _ _ (lt-ltb i (length rows) inside) in
      (omega (arith, below, cap), omega (arith, below, cap))

  word_fits : (i : ℕ) → i < length p.rows → pos (x i) ≤ℤ pos (2 ^ ((row_at p i).width - 1) - 1)
  word_fits i l = elim (cases_lt i (inner_count filter rows)) [
    | inl inner ↦ (program.inner_widths i inner).fits
    | inr outer ↦ put_out outer
  ]
    where
      put_out : inner_count filter rows ≤ i → pos (x i) ≤ℤ pos (2 ^ ((row_at p i).width - 1) - 1)
      put_out outer =
          let o = i - inner_count filter rows in
          let few : o < length filter.outputs = omega (arith, outer, l, count) in
          let there : inner_count filter rows + o ≡ i = omega (arith, outer) in
          let width : (row_at p i).width ≡ (output_at filter o).width =
          subst (λ n. (row_at p n).width ≡ (output_at filter o).width) there (program.output_widths o few) in
          let most : most_width filter rows i ≡ (output_at filter o).width =
          cond-false _ _ _ (le-ltb i (inner_count filter rows) outer) in
          let same : most_width filter rows i ≡ (row_at p i).width = most ∙ sym width in
          subst (λ w. pos (x i) ≤ℤ pos (2 ^ (w - 1) - 1)) same (omega (arith, ints, (within_cap i l).0))

  sum_holds : (i : ℕ) → i < length p.rows →
      (pos (2 ^ (row_at p i).own.shift) *ℤ (pos (x i) +ℤ pos 1)) ≤ℤ pos (2 ^ (p.accumulator - 1))
  sum_holds i l =
      sum_fits (x i) (row_at p i).own.shift p.accumulator (row_below i l).shift_kept
      (subst (λ a. x i ≤ 2 ^ (a - 1 - (row_at p i).own.shift) - 1) (sym program.accumulator)
      (subst (λ r. x i ≤ 2 ^ (filter.settings.accumulator - 1 - r) - 1) (sym (same_shift i l)) (within_cap i l).1))

  widths_hold : (i : ℕ) → i < length p.rows → WidthsHold p i (bound_at c i)
  widths_hold i l =
      subst (WidthsHold p i) (sym (certificate.bounds i)) (record { word = word_fits i l; sum = sum_holds i l })

  of_form : IsOfForm filter p c
  of_form = record {
    inputs = program.inputs;
    outputs = program.outputs;
    accumulator = program.accumulator;
    input_widths = program.input_widths;
    output_widths = λ o l. ap (λ i. (row_at p i).width) (program.places o l) ∙ program.output_widths o l;
    rows = certificate.bound_count ∙ sym total_count;
    errors = certificate.error_count;
  }

  no_ranges : (first_target (candidate_count filter rows) 0 (λ j.
      first_range_in (candidate_net filter rows) (start_of (Row j)) moments) ≡ None)
      × (first_target (length filter.outputs) (candidate_count filter rows) (λ o.
      first_range_in (candidate_net filter rows) (start_of (candidate_pair filter rows o)) moments) ≡ None)
  no_ranges = or_none _ _ of.ranges

  pub made_passes : RestIsLeast → 0 < moments → Passes filter p c
  made_passes law some = record {
    form = of_form;
    row_ranges = λ j l. (let here : j < candidate_count filter rows = omega (arith, l, total_count) in
        same_range (Row j) ∙ none_first _ 0 _ no_ranges.0 j here);
    pair_ranges = λ o l. same_range (pair_of filter p o)
        ∙ ap (λ target. first_range_in (candidate_net filter rows) (start_of target) moments) (same_pair o l)
        ∙ none_first _ (candidate_count filter rows) _ no_ranges.1 o l;
    bounds = λ j l. (let here : j < candidate_count filter rows = omega (arith, l, total_count) in
        rw (same_total (Row j), certificate.bounds j)
        ((least_bounds filter rows moments x of law some).serve j here).total);
    widths = widths_hold;
    errors = λ o l. subst (λ total. total ≤ℤ error_at c o) (certificate.errors o l ∙ sym (same_pair_total o l))
        (omega (arith, ints));
    wanted = λ o l. rw (certificate.errors o l) (of.totals o l);
  }

pub candidates_pass : RestIsLeast → CandidatesPass
candidates_pass law filter rows moments x p c some passes fits program certificate =
    made_passes filter rows moments x p c (passed filter rows moments x passes) program fits certificate law some
