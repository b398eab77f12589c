-- What sweeps of the padded net tell of a candidate's rows.
use Rattle.std.proofs.Common.{◌≡◌, ℕ, zero, suc, ◌+◌, ◌<◌, ◌≤◌, length, arith, refl, ap, ap₂, sym, ◌∙◌, subst}
use Rattle.std.proofs.Common.{inl, inr, replicate, get_or}
use Rattle.std.proofs.Math.IntN.{pos}
use Rattle.std.specs.Int.Signed.{◌≤ℤ◌}
use Rattle.std.proofs.lemmas.Int.{ints}
use Rattle.std.specs.Prelude.{Option, Some, None, option_map, unsigned_abs, ◌^◌}
use Rattle.std.specs.Option.{option_or}
use mathlib.Core.Path.{fun_ext}
use Rattle.std.proofs.lemmas.Bool.{cases_eq, cases_lt, cond-true, cond-false, lt-ltb, le-ltb}
use Rattle.std.proofs.lemmas.List.{get_or-replicate}
use Rattle.fx_math.specs.Division.{ceil_div}
use Rattle.fx_nums.specs.declared.limits.TheConstants.{SCALE_BITS}
use Rattle.fx_eqs.specs.Fits.{EquationsFit}
use Rattle.fx_keys.specs.Keys.{IsWithin, range_of}
use Rattle.fx_keys.specs.declared.key.Key.TheVariants as key
use Rattle.fx_files.specs.Filter.{Filter}
use Rattle.fx_files.specs.Fits.{FilterFits}
use Rattle.fx_net.specs.Rows.{put_rows}
use Rattle.fx_sweep.specs.Range.{first_range_in}
use Rattle.fx_sweep.specs.Target.{TargetFits, start_of}
use Rattle.fx_sweep.specs.declared.target.RangeAt.{RangeAt}
use Rattle.fx_sweep.specs.declared.target.Target.{Target}
use Rattle.fx_sweep.specs.declared.target.Target.TheVariants.{Row, Pair}
use Rattle.fx_totals.specs.Filled.{Filled, first_target_range, length_in, target_in}
use Rattle.fx_totals.specs.Kept.{Kept, kept_total}
use Rattle.fx_totals.specs.Padding.{EmptyRowsChangeNothing, HasSameNumbers}
use Rattle.fx_totals.specs.Series.{CanBeSeries}
use Rattle.fx_totals.specs.Totals.{target_total}
use Rattle.fx_totals.specs.declared.target_range.TargetRange.{TargetRange}
use Rattle.fx_totals.proofs.Kept.{held_total}
use Rattle.fx_block.specs.Candidate.{candidate_count, candidate_net, candidate_pair, candidate_range}
use Rattle.fx_block.specs.Candidate.{candidate_total, cap_of, first_target}
use Rattle.fx_block.specs.Formats.{bound_of}
use Rattle.fx_block.specs.Raising.{least_by_raises, raise, raised_bound, raises_by}
use Rattle.fx_quant.specs.Design.{Quantised}
use Rattle.fx_make.specs.Designs.{AreRowsOf}
use Rattle.fx_make.specs.Lengths.{raises_of}
use Rattle.fx_make.specs.Targets.{padded_net, target_at, target_count, targets_of}
use Rattle.fx_make.proofs.Outputs.{target_fits, target_listed, target_pair, target_row, targets_long}
use Rattle.fx_make.proofs.Padding.{is_padded}
use Rattle.fx_make.proofs.SameRaises.{caps_same}

-- ---- the first target that meets a range

-- as a sweep tells it
abbrev pub told_range : Option (ℕ × RangeAt) → Option TargetRange
told_range None = None
told_range (Some found) = Some (record { target = found.0; at = found.1 })

range_told : (t s : ℕ) (range : Option RangeAt) → t ≡ s →
    option_map (λ (at : RangeAt). (let r : TargetRange = record { target = t; at = at } in r)) range
    ≡ told_range (option_map (λ (at : RangeAt). (s, at)) range)
range_told t s None e = refl
range_told t s (Some at) e = ap (λ (k : ℕ). Some (let r : TargetRange = record { target = k; at = at } in r)) e

either_told : (a b : Option (ℕ × RangeAt)) → told_range (option_or a b) ≡ option_or (told_range a) (told_range b)
either_told None b = refl
either_told (Some found) b = refl

or_grouped : {A : Type 0} (a b c : Option A) → option_or (option_or a b) c ≡ option_or a (option_or b c)
or_grouped None b c = refl
or_grouped (Some x) b c = refl

or_none : {A : Type 0} (a : Option A) → option_or a None ≡ a
or_none None = refl
or_none (Some x) = refl

first_same : (n from : ℕ) (f g : ℕ → Option RangeAt) → ((j : ℕ) → j < n → f j ≡ g j) →
    first_target n from f ≡ first_target n from g
first_same zero from f g same = refl
first_same (suc n) from f g same =
    ap₂ (λ a b. option_or a b) (first_same n from f g (λ j l. same j (omega arith)))
    (ap (option_map (λ (at : RangeAt). (from + n, at))) (same n (omega arith)))

-- the first of so many, else the first of those behind them
first_parts : (a b : ℕ) (f : ℕ → Option RangeAt) →
    first_target (a + b) 0 f ≡ option_or (first_target a 0 f) (first_target b a (λ i. f (a + i)))
first_parts a zero f = (let same : a + 0 ≡ a = omega arith in rw same (sym (or_none (first_target a 0 f))))
first_parts a (suc b) f =
    (let same : a + suc b ≡ suc (a + b) = omega arith in
    let place : 0 + (a + b) ≡ a + b = omega arith in
    rw same (ap (λ x. option_or x (option_map (λ (at : RangeAt). (0 + (a + b), at)) (f (a + b)))) (first_parts a b f)
    ∙ ap (λ (k : ℕ). option_or (option_or (first_target a 0 f) (first_target b a (λ i. f (a + i))))
    (option_map (λ (at : RangeAt). (k, at)) (f (a + b)))) place
    ∙ or_grouped (first_target a 0 f) (first_target b a (λ i. f (a + i)))
    (option_map (λ (at : RangeAt). (a + b, at)) (f (a + b)))))

module _ (f : Filter) (d : Quantised) (kept : FilterFits f) (system : EquationsFit f.equations) (own : AreRowsOf f d)
    (law : EmptyRowsChangeNothing) (n : ℕ) (room : candidate_count f d.rows ≤ n) where
  net_rows : (candidate_net f d.rows).rows ≡ candidate_count f d.rows
  unfolding put_rows
  net_rows = refl

  pub same_numbers : (t m : ℕ) → t < target_count f d.rows →
      HasSameNumbers (candidate_net f d.rows) (padded_net n f d.rows) (start_of (target_at f d.rows t)) m
  same_numbers t m l =
      law (candidate_net f d.rows) (padded_net n f d.rows) (target_at f d.rows t) m
      (is_padded f d n own.fits system room)
      (subst (λ rows. TargetFits rows (target_at f d.rows t)) (sym net_rows)
      (target_fits f d.rows kept system own.outputs t l))

  each_length : (m t : ℕ) → t < target_count f d.rows →
      length_in (replicate (length (targets_of f d.rows)) m) t ≡ m
  each_length m t l =
      get_or-replicate (length (targets_of f d.rows)) t m 0
      (let count = targets_long f d.rows in omega (arith, l, count))

  in_larger : (target : Target) → TargetFits (candidate_count f d.rows) target → TargetFits n target
  in_larger (Row t) h = omega (arith, room, h)
  in_larger (Pair code original shift) h = (omega (arith, room, h.0), omega (arith, room, h.1), h.2, h.3)

  -- all targets can be swept for all lengths
  pub can_be_series : CanBeSeries n (targets_of f d.rows) f.settings.lengths
  can_be_series =
      let count = targets_long f d.rows in
      let outputs = kept.outputs_high in
      let few : length f.settings.lengths ≤ 8 = kept.settings.lengths.few in
      record {
        few = omega (arith, count, outputs, room);
        targets_fit = λ t l.
            (let inside : t < target_count f d.rows = omega (arith, count, l) in
            rw (target_listed f d.rows t inside) (in_larger (target_at f d.rows t)
            (target_fits f d.rows kept system own.outputs t inside)));
        few_lengths = few;
        some = λ l h. (let within : IsWithin (range_of key.Lengths) (pos (get_or f.settings.lengths l 0)) =
            kept.settings.lengths.each l 0 h in
            let low : pos 1 ≤ℤ pos (get_or f.settings.lengths l 0) = within.0 in omega (arith, ints, low));
        short = λ l h. (let within : IsWithin (range_of key.Lengths) (pos (get_or f.settings.lengths l 0)) =
            kept.settings.lengths.each l 0 h in
            let high : pos (get_or f.settings.lengths l 0) ≤ℤ pos 4096 = within.1 in omega (arith, ints, high));
      }

  -- ---- ranges

  abbrev swept : ℕ → ℕ → Option RangeAt
  swept m t = first_range_in (candidate_net f d.rows) (start_of (target_at f d.rows t)) m

  ranges_told : (m k : ℕ) → k ≤ target_count f d.rows →
      first_target_range (padded_net n f d.rows) (targets_of f d.rows)
      (replicate (length (targets_of f d.rows)) m) k
      ≡ told_range (first_target k 0 (swept m))
  ranges_told m zero h = refl
  ranges_told m (suc t) h =
      let l : t < target_count f d.rows = omega (arith, h) in
      ap₂ (λ a b. option_or a b) (ranges_told m t (omega (arith, h)))
      (rw (target_listed f d.rows t l, each_length m t l)
      (ap (option_map (λ (at : RangeAt). (let r : TargetRange = record { target = t; at = at } in r)))
      (sym (same_numbers t m l).first_ranges)
      ∙ range_told t (0 + t) (swept m t) (omega arith)))
      ∙ sym (either_told (first_target t 0 (swept m)) (option_map (λ (at : RangeAt). (0 + t, at)) (swept m t)))

  -- the first target that meets a range within m moments
  pub range_is_told : (m : ℕ) → first_target_range (padded_net n f d.rows) (targets_of f d.rows)
      (replicate (length (targets_of f d.rows)) m) (length (targets_of f d.rows))
      ≡ told_range (candidate_range f d.rows m)
  range_is_told m =
      ap (first_target_range (padded_net n f d.rows) (targets_of f d.rows)
      (replicate (length (targets_of f d.rows)) m)) (targets_long f d.rows)
      ∙ ranges_told m (target_count f d.rows) (omega arith)
      ∙ ap told_range (first_parts (candidate_count f d.rows) (length f.outputs) (swept m)
      ∙ ap₂ (λ a b. option_or a b)
      (first_same (candidate_count f d.rows) 0 (swept m) (λ j.
      first_range_in (candidate_net f d.rows) (start_of (Row j)) m) (λ j l.
      ap (λ target. first_range_in (candidate_net f d.rows) (start_of target) m) (target_row f d.rows j l)))
      (first_same (length f.outputs) (candidate_count f d.rows) (λ o. swept m (candidate_count f d.rows + o)) (λ o.
      first_range_in (candidate_net f d.rows) (start_of (candidate_pair f d.rows o)) m) (λ o l.
      ap (λ target. first_range_in (candidate_net f d.rows) (start_of target) m)
      (target_pair f d.rows (candidate_count f d.rows + o) o refl))))

  -- ---- totals that are filled

  module _ (k : Kept) (m : ℕ)
      (filled : Filled k (padded_net n f d.rows) (targets_of f d.rows)
      (replicate (length (targets_of f d.rows)) m)) where
    -- the leading targets are all rows
    pub leading_is : k.leading ≡ candidate_count f d.rows
    leading_is = elim (cases_eq k.leading (candidate_count f d.rows)) [
      | inl e ↦ e
      | inr ne ↦ elim (cases_lt k.leading (candidate_count f d.rows)) [
        | inl less ↦ absurd (
            let count = targets_long f d.rows in
            let inside : k.leading < target_count f d.rows = omega (arith, less) in
            filled.leading.no_more (omega (arith, inside, count))
            (target_listed f d.rows k.leading inside ∙ target_row f d.rows k.leading less))
        | inr more ↦ absurd (
            let above : candidate_count f d.rows < k.leading = omega (arith, ne, more) in
            let count = targets_long f d.rows in
            let within = filled.leading.inside in
            let inside : candidate_count f d.rows < target_count f d.rows = omega (arith, above, count, within) in
            let pair : candidate_pair f d.rows 0 ≡ Row (candidate_count f d.rows) =
            sym (target_listed f d.rows (candidate_count f d.rows) inside
            ∙ target_pair f d.rows (candidate_count f d.rows) 0 (omega arith))
            ∙ filled.leading.rows (candidate_count f d.rows) above in
            cc)
      ]
    ]

    total_is : (t : ℕ) (bounds rows : ℕ → ℕ) → t < target_count f d.rows →
        target_total (padded_net n f d.rows) (start_of (target_in (targets_of f d.rows) t))
        (length_in (replicate (length (targets_of f d.rows)) m) t) bounds rows
        ≡ target_total (candidate_net f d.rows) (start_of (target_at f d.rows t)) m bounds rows
    total_is t bounds rows l =
        rw (target_listed f d.rows t l, each_length m t l) (sym ((same_numbers t m l).totals_are bounds rows))

    pub pair_total_is : (o : ℕ) (x : ℕ → ℕ) → o < length f.outputs →
        kept_total k (candidate_count f d.rows + o) (bound_of f) x ≡ candidate_total f d.rows m x o
    pair_total_is o x l =
        let inside : candidate_count f d.rows + o < target_count f d.rows = omega (arith, l) in
        held_total k (candidate_count f d.rows + o) (padded_net n f d.rows)
        (start_of (target_in (targets_of f d.rows) (candidate_count f d.rows + o)))
        (length_in (replicate (length (targets_of f d.rows)) m) (candidate_count f d.rows + o)) (bound_of f) x
        filled.size (filled.numbers (candidate_count f d.rows + o)
        (let count = targets_long f d.rows in omega (arith, inside, count)))
        ∙ total_is (candidate_count f d.rows + o) (bound_of f) x inside
        ∙ ap (λ target. target_total (candidate_net f d.rows) (start_of target) m (bound_of f) x)
        (target_pair f d.rows (candidate_count f d.rows + o) o refl)

    raise_at : (rows : ℕ → ℕ) (j : ℕ) → j < candidate_count f d.rows →
        raised_bound (padded_net n f d.rows) (length_in (replicate (length (targets_of f d.rows)) m)) (bound_of f)
        rows j ≡ raised_bound (candidate_net f d.rows) (λ i. m) (bound_of f) rows j
    raise_at rows j l =
        let inside : j < target_count f d.rows = omega (arith, l) in
        let same : target_total (padded_net n f d.rows) (start_of (Row j))
        (length_in (replicate (length (targets_of f d.rows)) m) j) (bound_of f) rows
        ≡ target_total (candidate_net f d.rows) (start_of (Row j)) m (bound_of f) rows =
        ap (λ k. target_total (padded_net n f d.rows) (start_of (Row j)) k (bound_of f) rows) (each_length m j inside)
        ∙ ap (λ target. target_total (padded_net n f d.rows) (start_of target) m (bound_of f) rows)
        (sym (target_row f d.rows j l))
        ∙ sym ((same_numbers j m inside).totals_are (bound_of f) rows)
        ∙ ap (λ target. target_total (candidate_net f d.rows) (start_of target) m (bound_of f) rows)
        (target_row f d.rows j l) in
        ap (λ t. unsigned_abs (ceil_div t (2 ^ SCALE_BITS))) same

    raise_is : raise (padded_net n f d.rows) (candidate_count f d.rows)
        (length_in (replicate (length (targets_of f d.rows)) m)) (bound_of f)
        ≡ raise (candidate_net f d.rows) (candidate_count f d.rows) (λ i. m) (bound_of f)
    raise_is = fun_ext (λ rows. fun_ext (λ j. elim (cases_lt j (candidate_count f d.rows)) [
      | inl l ↦ cond-true _ _ _ (lt-ltb j (candidate_count f d.rows) l) ∙ raise_at rows j l
          ∙ sym (cond-true _ _ _ (lt-ltb j (candidate_count f d.rows) l))
      | inr r ↦ cond-false _ _ _ (le-ltb j (candidate_count f d.rows) r)
          ∙ sym (cond-false _ _ _ (le-ltb j (candidate_count f d.rows) r))
    ]))

    -- the raises by these totals are those of the candidate
    pub raises_are : (caps : ℕ → ℕ) → ((j : ℕ) → j < candidate_count f d.rows → caps j ≡ cap_of f d.rows j) →
        least_by_raises (padded_net n f d.rows) k.leading
        (length_in (replicate (length (targets_of f d.rows)) m)) (bound_of f) caps
        ≡ raises_of f d.rows m
    raises_are caps same =
        ap (λ c. least_by_raises (padded_net n f d.rows) c
        (length_in (replicate (length (targets_of f d.rows)) m)) (bound_of f) caps) leading_is
        ∙ ap (λ r. raises_by r (candidate_count f d.rows) caps 63 (λ j. 0)) raise_is
        ∙ caps_same (candidate_count f d.rows) caps (cap_of f d.rows) same
        (raise (candidate_net f d.rows) (candidate_count f d.rows) (λ i. m) (bound_of f)) 63 (λ j. 0)
