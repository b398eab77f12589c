-- Over a length that does not fail, the ends enclose how far the outputs go, and the words reach the low end.
use Rattle.std.proofs.Common.{◌≡◌, ℕ, suc, ◌+◌, ◌-◌, ◌*◌, ◌^◌, ◌<◌, ◌≤◌, List, length, get_or, arith, refl}
use Rattle.std.proofs.Common.{ap, ap₂, sym, ◌∙◌, subst, inl, inr, cond, true, false, Bool, None}
use Rattle.std.proofs.Math.IntN.{ℤ, pos, neg_ℤ, ◌+ℤ◌, ◌-ℤ◌, ◌*ℤ◌}
use Rattle.std.proofs.Math.Nat.{one-le-pow}
use Rattle.std.specs.Int.Signed.{◌≤ℤ◌}
use Rattle.std.specs.Prelude.{int_lt, unsigned_abs}
use Rattle.std.proofs.lemmas.Bool.{cases_lt, cond-true, lt-ltb, ne_eqb}
use Rattle.std.proofs.lemmas.Int.{ints}
use Rattle.std.proofs.lemmas.List.{get_or-map, length-map}
use Rattle.std.proofs.lemmas.List.Elements.{All-from_get_or, All-map}
use Rattle.fx_math.specs.Sums.{total}
use Rattle.fx_eqs.specs.Denominator.{DividesEach, common}
use Rattle.fx_eqs.specs.Equations.{Equations}
use Rattle.fx_eqs.specs.ExactRun.{exact_value, row_value}
use Rattle.fx_eqs.specs.Expanded.{expanded}
use Rattle.fx_eqs.specs.Fits.{EquationsFit}
use Rattle.fx_eqs.specs.Laws.{CommonDividesEach}
use Rattle.fx_eqs.specs.declared.limits.TheConstants.{NET_ROWS, PORTS}
use Rattle.fx_eqs.proofs.Expanding.{length-expanded}
use Rattle.fx_math.specs.Ratio.{SameValue}
use Rattle.fx_files.specs.Filter.{Filter}
use Rattle.fx_files.specs.Fits.{FilterFits}
use Rattle.fx_files.specs.declared.formats.OutputFormat.{OutputFormat}
use Rattle.fx_code.specs.Inputs.{word_at}
use Rattle.fx_msb.specs.declared.widths.TheConstants.{GREATEST_BOUND}
use Rattle.fx_nums.specs.Interval.{Interval}
use Rattle.fx_nums.specs.declared.limits.TheConstants.{SCALE_BITS}
use Rattle.fx_net.specs.Blocks.{block_den, raise, raised}
use Rattle.fx_net.specs.Laws.{ExactInRuns, ExpandedRowsAreDivided, NewNetsAreDivided, NewRowsAreEmpty}
use Rattle.fx_net.specs.Laws.{OtherRowsStayEmpty, PutRowsAreDivided, RowsStand}
use Rattle.fx_net.specs.Net.{Net, empty_net}
use Rattle.fx_net.specs.Rows.{AreEmpty, HoldsRows, is_within, put_rows}
use Rattle.fx_net.specs.Run.{IsDenominator, net_value, row_time}
use Rattle.fx_net.specs.Running.{EachNetHasARun, run_of}
use Rattle.fx_net.proofs.Blocked.{to_den}
use Rattle.fx_net.proofs.Carried.{extend}
use Rattle.fx_net.proofs.Positions.{row_inside as place_inside}
use Rattle.fx_sweep.specs.Gains.{row_gain}
use Rattle.fx_sweep.specs.declared.target.Target.TheVariants.{Row}
use Rattle.fx_totals.specs.AllTime.{BoundsHoldForAllTime, BoundsServe, BoundsSuffice, WordsWithin}
use Rattle.fx_totals.specs.Bounds.{least_sum, slack, target_value}
use Rattle.fx_totals.specs.Laws.{RowTargets, TargetsLieBetween}
use Rattle.fx_totals.specs.Totals.{rounding, width_part}
use Rattle.fx_block.specs.Admissible.{IsAdmissibleMoment}
use Rattle.fx_block.specs.Formats.{bound_of, input_at, output_at}
use Rattle.fx_block.specs.Laws.{TotalsServeForAllTime}
use Rattle.fx_block.specs.Least.{AreLeastBounds}
use Rattle.fx_block.specs.Raising.{RestIsLeast}
use Rattle.fx_block.specs.Raising.Raises.{Rest}
use Rattle.fx_gain.specs.Enclosing.{high_end, low_end, output_row, output_start, rows_alone, weight}
use Rattle.fx_gain.specs.Enclosing.{worst_word, worst_words}
use Rattle.fx_gain.specs.Laws.{EnclosuresHold}
use Rattle.fx_gain.specs.Lengths.{bound_alone, bounds_failure, length_failure, original_count, original_net}
use Rattle.fx_gain.specs.Lengths.{raises_alone, raises_up, range_failure, unrest}
use Rattle.fx_gain.specs.Peak.{IsAtLeast, IsAtMost, LiesOn, alone, exact_output, moment_of}
use Rattle.fx_gain.proofs.Alone.{length_singles, lies_within, moment_admissible, single_at, word_alone}
use Rattle.fx_gain.proofs.Firsts.{none_of, none_right, rests}
use Rattle.fx_gain.proofs.LeastSums.{total_none, worst_sum}
use Rattle.fx_gain.proofs.Scaling.{at_least, at_most}

-- ---- the net

pub net_rows : (filter : Filter) → (original_net filter).rows ≡ NET_ROWS
unfolding original_net put_rows
net_rows filter = refl

pub made_so : (filter : Filter) (eqs : Equations) (n : ℕ) (before net : Net) → n ≡ NET_ROWS → eqs ≡ filter.equations →
    before ≡ empty_net n → net ≡ put_rows (expanded eqs) 0 before → net ≡ original_net filter
unfolding original_net
made_so filter eqs n before net size same empty put =
    put ∙ ap₂ (λ (e : Equations) (b : Net). put_rows (expanded e) 0 b) same (empty ∙ ap empty_net size)

class_is_zero : (filter : Filter) (i : ℕ) → (original_net filter).class i ≡ 0
unfolding original_net put_rows
class_is_zero filter i = either (is_within 0 (length (expanded filter.equations)) i) 0
  where
    either : (b : Bool) (n : ℕ) → cond b n n ≡ n
    either true n = refl
    either false n = refl

no_rounding : (filter : Filter) (start : ℕ → Interval) (m : ℕ) → rounding (original_net filter) start m ≡ pos 0
no_rounding filter start m =
    let none : total (original_net filter).rows (λ i.
    pos (row_gain (original_net filter) start m i * (original_net filter).class i)) ≡ pos 0 =
    total_none (original_net filter).rows (λ i.
    pos (row_gain (original_net filter) start m i * (original_net filter).class i)) (λ i l.
    ap pos (let e : (original_net filter).class i ≡ 0 = class_is_zero filter i in
    ap (λ c. row_gain (original_net filter) start m i * c) e ∙ omega arith)) in
    rw none refl

pub count_inside : (filter : Filter) → EquationsFit filter.equations → original_count filter ≤ NET_ROWS
count_inside filter system =
    let e = length-expanded filter.equations in let h = system.net_high in omega (arith, e, h)

net_holds : (filter : Filter) → EquationsFit filter.equations → RowsStand →
    HoldsRows (original_net filter) 0 (expanded filter.equations)
unfolding original_net
net_holds filter system stand =
    stand (expanded filter.equations) 0 (empty_net NET_ROWS)
    (let h = count_inside filter system in omega (arith, h))

empty_behind : (filter : Filter) → OtherRowsStayEmpty → NewRowsAreEmpty → (i : ℕ) → original_count filter ≤ i →
    AreEmpty i 1 (original_net filter)
unfolding original_net
empty_behind filter stay new i l =
    stay (expanded filter.equations) 0 i 1 (empty_net NET_ROWS) (inr (omega (arith, l))) (new i 1 NET_ROWS)

divided : (eqs : Equations) → CommonDividesEach → DividesEach (common eqs) eqs.terms
divided eqs divides =
    let once : common eqs * 1 ≡ common eqs = omega arith in
    subst (λ g. DividesEach g eqs.terms) once ((divides eqs).1 1)

net_denominator : (filter : Filter) → CommonDividesEach → NewNetsAreDivided → PutRowsAreDivided →
    ExpandedRowsAreDivided → IsDenominator (original_net filter) (common filter.equations)
unfolding original_net
net_denominator filter divides new put each =
    put (expanded filter.equations) 0 (common filter.equations) (empty_net NET_ROWS)
    (new NET_ROWS (common filter.equations) (divides filter.equations).0)
    (each filter.equations (common filter.equations) (divided filter.equations divides))

-- ---- an output's row

pub equation_row : (filter : Filter) → FilterFits filter → EquationsFit filter.equations → (o : ℕ) →
    o < length filter.outputs → (output_at filter o).row < filter.equations.rows
equation_row filter kept system o l =
    let same : get_or filter.equations.outputs o 0 ≡ (output_at filter o).row =
    ap (λ (rows : List ℕ). get_or rows o 0) kept.equation_outputs
    ∙ get_or-map (λ (f : OutputFormat). f.row) filter.outputs o _ 0 l in
    let count : length filter.equations.outputs ≡ length filter.outputs =
    ap (λ (rows : List ℕ). length rows) kept.equation_outputs
    ∙ length-map filter.outputs (λ (f : OutputFormat). f.row) in
    subst (λ row. row < filter.equations.rows) same (system.outputs o 0 (omega (arith, count, l)))

pub row_inside : (filter : Filter) → FilterFits filter → EquationsFit filter.equations → (o : ℕ) →
    o < length filter.outputs → output_row filter o < original_count filter
row_inside filter kept system o l =
    place_inside filter.equations (output_at filter o).row (equation_row filter kept system o l)

-- ---- words with the signs of weights

bound_positive : (filter : Filter) → FilterFits filter → (i : ℕ) → i < length filter.inputs →
    pos 0 ≤ℤ (input_at filter i).bound
bound_positive filter kept i l = (kept.inputs i (record { width = 0; bound = pos 0 }) l).bound.0

worst_small : (bound : ℕ) (v : Interval) → unsigned_abs (worst_word (pos bound) v) ≤ bound
worst_small bound v = elim (int_lt (pos 0) v.lo) as (λ a.
    unsigned_abs (cond a (pos bound) (cond (int_lt v.hi (pos 0)) (neg_ℤ (pos bound)) (pos 0))) ≤ bound) [
      | true ↦ omega arith
      | false ↦ elim (int_lt v.hi (pos 0)) as (λ b. unsigned_abs (cond b (neg_ℤ (pos bound)) (pos 0)) ≤ bound) [
        | true ↦ omega (arith, ints)
        | false ↦ omega arith
      ]
    ]

worst_lies : (filter : Filter) → FilterFits filter → (net : Net) (m o j : ℕ) → j < length filter.inputs →
    LiesOn filter j (alone filter j (worst_words net filter m o j))
worst_lies filter kept net m o j inside = record {
  admissible = All-map (IsAdmissibleMoment filter) (moment_of (length filter.inputs) j)
      (worst_words net filter m o j)
      (All-from_get_or (λ w. IsAdmissibleMoment filter (moment_of (length filter.inputs) j w))
      (worst_words net filter m o j) (pos 0) (λ i l.
      moment_admissible filter j (get_or (worst_words net filter m o j) i (pos 0)) inside
      (bound_positive filter kept) (small i l)));
  others_are_zero = λ k i other.
      word_alone filter j (worst_words net filter m o j) inside k i ∙ rw (ne_eqb i j other) refl;
}
  where
    small : (i : ℕ) → i < length (worst_words net filter m o j) →
        pos (unsigned_abs (get_or (worst_words net filter m o j) i (pos 0))) ≤ℤ (input_at filter j).bound
    small i l =
        let long = length_singles m (λ k.
        worst_word (pos (bound_of filter j)) (weight net filter o j (m - (k + 1)))) in
        let e = single_at m i (λ k.
        worst_word (pos (bound_of filter j)) (weight net filter o j (m - (k + 1)))) (pos 0) (omega (arith, l, long)) in
        let s = worst_small (bound_of filter j) (weight net filter o j (m - (i + 1))) in
        let p = bound_positive filter kept j inside in
        subst (λ w. pos (unsigned_abs w) ≤ℤ (input_at filter j).bound) (sym e) (omega (arith, ints, s, p))

-- ---- bounds of the rows

rests_least : (filter : Filter) → RestIsLeast → (n : ℕ) (lengths bounds rows : ℕ → ℕ) →
    n ≤ (original_net filter).rows →
    ((j : ℕ) → j < n → 0 < lengths j) → raises_up (original_net filter) n lengths bounds ≡ Rest rows →
    AreLeastBounds (original_net filter) n lengths bounds rows
unfolding raises_up
rests_least filter rest n lengths bounds rows inside some e =
    rest (original_net filter) n lengths bounds (λ i. GREATEST_BOUND) rows inside some e

-- raises that do not fail rest
pub rests_alone : (net : Net) (filter : Filter) (m j : ℕ) → j < length filter.inputs →
    length_failure net filter m ≡ None → raises_alone net filter m j ≡ Rest (rows_alone net filter m j)
rests_alone net filter m j inside serves =
    rests m j (raises_alone net filter m j)
    (none_of (length filter.inputs) (λ j. unrest m j (raises_alone net filter m j))
    (none_right (range_failure net filter m) (bounds_failure net filter m) serves) j inside)

-- bounds that serve for words of input j alone
pub least_alone : (filter : Filter) → EquationsFit filter.equations → RestIsLeast → (m j : ℕ) → 0 < m →
    j < length filter.inputs → length_failure (original_net filter) filter m ≡ None →
    AreLeastBounds (original_net filter) (original_count filter) (λ i. m) (bound_alone filter j)
    (rows_alone (original_net filter) filter m j)
least_alone filter system rest m j some inside serves =
    let within : original_count filter ≤ (original_net filter).rows =
    (let h = count_inside filter system in let e = net_rows filter in omega (arith, h, e)) in
    rests_least filter rest (original_count filter) (λ i. m) (bound_alone filter j)
    (rows_alone (original_net filter) filter m j) within (λ i l. some)
    (rests_alone (original_net filter) filter m j inside serves)

-- ---- the law

module _ (filter : Filter) (kept : FilterFits filter) (system : EquationsFit filter.equations)
    (divides : CommonDividesEach) (stand : RowsStand) (stay_empty : OtherRowsStayEmpty)
    (new_empty : NewRowsAreEmpty) (new_divided : NewNetsAreDivided) (put_divided : PutRowsAreDivided)
    (each_divided : ExpandedRowsAreDivided) (has_run : EachNetHasARun) (exact : ExactInRuns)
    (rest : RestIsLeast) (serve_all : TotalsServeForAllTime) (hold : BoundsHoldForAllTime)
    (suffice : BoundsSuffice) (between : TargetsLieBetween) (value_of : RowTargets) where
  serve_alone : (m j : ℕ) → 0 < m → j < length filter.inputs →
      length_failure (original_net filter) filter m ≡ None →
      BoundsServe (original_net filter) (λ i. m) (bound_alone filter j) (rows_alone (original_net filter) filter m j)
  serve_alone m j some inside serves i l = elim (cases_lt i (original_count filter)) [
    | inl below ↦ inr ((least_alone filter system rest m j some inside serves).serve i below)
    | inr behind ↦ inl (empty_behind filter stay_empty new_empty i behind)
  ]

  -- the value of an output's row at the denominator of its block is the exact value
  module _ (o : ℕ) (port : o < length filter.outputs) (u : ℕ → ℕ → ℤ) (k : ℕ) where
    in_net : output_row filter o < (original_net filter).rows
    in_net = let h = row_inside filter kept system o port in let c = count_inside filter system in let e =
        net_rows filter in omega (arith, h, c, e)

    meets : raised (original_net filter) (common filter.equations)
        (run_of (original_net filter) (common filter.equations) u) k 0 (output_row filter o)
        *ℤ pos (common filter.equations ^ (k * filter.equations.rows + (output_at filter o).row + 1))
        ≡ exact_value filter.equations (common filter.equations) u k (output_at filter o).row
        *ℤ pos (block_den (original_net filter) (common filter.equations) k)
    meets =
        let q : ℕ = common filter.equations in
        let net : Net = original_net filter in
        let r : ℕ = output_row filter o in
        let z : ℕ → ℕ → ℤ = run_of (original_net filter) (common filter.equations) u in
        let g : ℕ = common filter.equations ^ (k * filter.equations.rows + (output_at filter o).row + 1) in
        let x : ℤ = exact_value filter.equations (common filter.equations) u k (output_at filter o).row in
        let first : 0 + r ≡ r = omega arith in
        let value : SameValue (net_value net q z k r) (row_value filter.equations q u k (output_at filter o).row) =
        subst (λ p. SameValue (net_value net q z k p) (row_value filter.equations q u k (output_at filter o).row)) first
        ((exact filter.equations net 0 q q u z (λ k i. pos 0) system (net_holds filter system stand)
        (net_denominator filter divides new_divided put_divided each_divided) (divided filter.equations divides)
        (has_run net q u) (λ k r l. refl)).rows k (output_at filter o).row (equation_row filter kept system o port)) in
        let swap : raise net q 0 r * g ≡ g * raise net q 0 r = omega arith in
        extend (z k r) x g (q ^ (row_time net k r + 1)) (raise net q 0 r) (raise net q 0 r) g (block_den net q k) value
        swap (to_den net q k k 0 r (omega arith) in_net)

    den_positive : 0 < block_den (original_net filter) (common filter.equations) k
    den_positive = one-le-pow (suc k * (original_net filter).rows) (common filter.equations)
        (divides filter.equations).0

  -- no list on input j alone goes above the high end
  pub never_above : (m o j : ℕ) → 0 < m → o < length filter.outputs → j < length filter.inputs →
      length_failure (original_net filter) filter m ≡ None → (list : List (List ℤ)) → LiesOn filter j list → (k : ℕ) →
      IsAtMost (exact_output filter list k o) (high_end (original_net filter) filter m o j)
  never_above m o j some port inside serves list lies k =
      let q : ℕ = common filter.equations in
      let net : Net = original_net filter in
      let r : ℕ = output_row filter o in
      let u : ℕ → ℕ → ℤ = word_at list in
      let z : ℕ → ℕ → ℤ = run_of (original_net filter) (common filter.equations) (word_at list) in
      let high : pos (unsigned_abs (target_value net (Row r) q z k)) ≤ℤ (pos (block_den net q k) *ℤ high_end net filter
      m o j) =
      serve_all net (Row r) q m u z (λ k i. pos 0) (λ i. m) (bound_alone filter j) (rows_alone net filter m j)
      (in_net o port u k)
      (net_denominator filter divides new_divided put_divided each_divided) (has_run net q u)
      (lies_within filter j list lies) (serve_alone m j some inside serves) some k in
      at_most (2 ^ SCALE_BITS) (block_den net q k)
      (q ^ (k * filter.equations.rows + (output_at filter o).row + 1)) (raised net q z k 0 r)
      (exact_value filter.equations q u k (output_at filter o).row) (den_positive o port u k) (meets o port u k)
      (high_end net filter m o j)
      (subst (λ y. pos (unsigned_abs y) ≤ℤ (pos (block_den net q k) *ℤ high_end net filter m o j))
      (value_of net q z k r (in_net o port u k)) high)

  -- and on the worst words the low end is reached at the last moment
  pub reached : (m o j : ℕ) → 0 < m → o < length filter.outputs → j < length filter.inputs →
      length_failure (original_net filter) filter m ≡ None →
      IsAtLeast (exact_output filter (alone filter j (worst_words (original_net filter) filter m o j)) (m - 1) o)
      (low_end (original_net filter) filter m o j)
  reached m o j some port inside serves =
      let q : ℕ = common filter.equations in
      let net : Net = original_net filter in
      let r : ℕ = output_row filter o in
      let u : ℕ → ℕ → ℤ = word_at (alone filter j (worst_words (original_net filter) filter m o j)) in
      let k : ℕ = m - 1 in
      let z : ℕ → ℕ → ℤ = run_of (original_net filter) (common filter.equations)
      (word_at (alone filter j (worst_words (original_net filter) filter m o j))) in
      let rows : ℕ → ℕ = rows_alone (original_net filter) filter m j in
      let den = net_denominator filter divides new_divided put_divided each_divided in
      let within : WordsWithin (bound_alone filter j) u =
      lies_within filter j (alone filter j (worst_words (original_net filter) filter m o j))
      (worst_lies filter kept net m o j inside) in
      let values = hold net q u z (λ k i. pos 0) (λ i. m) (bound_alone filter j) rows den (has_run net q u) within
      (serve_alone m j some inside serves) in
      let least = (between net (Row r) q m k u z (λ k i. pos 0) (bound_alone filter j) rows (in_net o port u k) den
      (has_run net q u) some (suffice net (Row r) q m k u z (bound_alone filter j) rows within values)).least in
      let port_j : j < PORTS = (let h = kept.inputs_high in omega (arith, h, inside)) in
      let before : slack net (output_start filter o) m k rows
      ≡ rounding net (output_start filter o) m +ℤ width_part net (output_start filter o) m rows +ℤ pos 0 =
      ap (λ y. rounding net (output_start filter o) m +ℤ width_part net (output_start filter o) m rows +ℤ y)
      (cond-true _ _ _ (lt-ltb k m (omega (arith, some)))) in
      let none = no_rounding filter (output_start filter o) m in
      let sum = worst_sum net filter m o j inside port_j in
      let ends : least_sum net (output_start filter o) m k u -ℤ slack net (output_start filter o) m k rows
      ≡ low_end net filter m o j = omega (arith, ints, before, none, sum) in
      at_least (2 ^ SCALE_BITS) (block_den net q k)
      (q ^ (k * filter.equations.rows + (output_at filter o).row + 1)) (raised net q z k 0 r)
      (exact_value filter.equations q u k (output_at filter o).row) (den_positive o port u k) (meets o port u k)
      (low_end net filter m o j)
      (subst (λ y. (pos (block_den net q k) *ℤ low_end net filter m o j) ≤ℤ y)
      (value_of net q z k r (in_net o port u k))
      (subst (λ y. (pos (block_den net q k) *ℤ y) ≤ℤ target_value net (Row r) q z k) ends least))

  pub enclosures_hold : EnclosuresHold filter
  enclosures_hold m o j some port inside serves =
      let long : length (worst_words (original_net filter) filter m o j) ≡ m =
      length_singles m (λ k. worst_word (pos (bound_of filter j)) (weight (original_net filter) filter o j
      (m - (k + 1)))) in
      record {
        never_above = λ list lies k l. never_above m o j some port inside serves list lies k;
        some = omega (arith, some, long);
        lies_on = worst_lies filter kept (original_net filter) m o j inside;
        reached = subst (λ n. IsAtLeast (exact_output filter
            (alone filter j (worst_words (original_net filter) filter m o j)) (n - 1) o)
            (low_end (original_net filter) filter m o j)) (sym long) (reached m o j some port inside serves);
      }
