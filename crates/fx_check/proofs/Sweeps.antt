-- What sweeps of the padded net tell of the net of a program and a filter.
use Rattle.std.proofs.Common.{◌≡◌, ℕ, zero, suc, ◌+◌, ◌-◌, ◌<◌, ◌≤◌, length, arith, refl, ap, ap₂, sym, ◌∙◌, subst}
use Rattle.std.proofs.Common.{inl, inr}
use Rattle.std.specs.Prelude.{Option, Some, None, option_map, pos, ◌^◌, ℤ, List}
use Rattle.std.specs.Option.{option_or}
use Rattle.std.proofs.lemmas.Bool.{cases_lt}
use Rattle.fx_nums.specs.declared.limits.TheConstants.{OPERAND_BITS}
use Rattle.fx_eqs.specs.Fits.{EquationsFit}
use Rattle.fx_files.specs.Filter.{Filter}
use Rattle.fx_files.specs.Fits.{FilterFits}
use Rattle.fx_net.specs.Net.{Net}
use Rattle.fx_net.specs.Rows.{put_rows}
use Rattle.fx_code.specs.Code.{Code, IsWhole}
use Rattle.fx_code.specs.Fits.{CodeFits}
use Rattle.fx_cert.specs.Certificate.{Certificate, CertificateFits, output_length}
use Rattle.fx_sweep.specs.Range.{first_range_in}
use Rattle.fx_sweep.specs.Swept.{whole_in}
use Rattle.fx_sweep.specs.Target.{TargetFits, start_of}
use Rattle.fx_sweep.specs.declared.target.RangeAt.{RangeAt}
use Rattle.fx_sweep.specs.declared.target.Target.{Target}
use Rattle.fx_sweep.specs.declared.target.Target.TheVariants.{Row, Pair}
use Rattle.fx_totals.specs.Filled.{CanBeFilled, first_target_range, length_in, target_in}
use Rattle.fx_totals.specs.Padding.{EmptyRowsChangeNothing, HasSameNumbers}
use Rattle.fx_totals.specs.Totals.{target_total}
use Rattle.fx_totals.specs.declared.target_range.TargetRange.{TargetRange}
use Rattle.fx_error.specs.PartsOf.{ArePartsOf}
use Rattle.fx_error.specs.declared.parts.Parts.{Parts}
use Rattle.fx_block.specs.Failure.{Failure, first_of, out_of_range, range_failure}
use Rattle.fx_block.specs.Formats.{bound_of}
use Rattle.fx_block.specs.Passes.{bound_at, judged_net, pair_of, pair_range, pair_total, row_count, row_range}
use Rattle.fx_block.specs.Passes.{row_total}
use Rattle.fx_block.specs.declared.inequality.Inequality.TheVariants.{Sweep}
use Rattle.fx_check.specs.Report.{parts_at}
use Rattle.fx_check.specs.Targets.{HasTotals, length_at, lengths_of, padded_net, target_at, target_count, targets_of}
use Rattle.fx_check.proofs.FirstFailures.{first_parts, first_same}
use Rattle.fx_check.proofs.Outputs.{length_listed, length_pair, length_row, target_fits, target_listed, target_pair}
use Rattle.fx_check.proofs.Outputs.{target_row, targets_long}
use Rattle.fx_check.proofs.Padding.{is_padded}
use Rattle.fx_check.proofs.Parting.{parts_are}
use Rattle.fx_block.proofs.Places.{listed_length}

-- ---- what a range tells

abbrev pub failure_of_range : Option TargetRange → Option Failure
failure_of_range None = None
failure_of_range (Some range) = Some (record {
  which = Sweep range.target range.at.place;
  left = range.at.value;
  right = pos (2 ^ OPERAND_BITS);
})

range_told : (t : ℕ) (range : Option RangeAt) → failure_of_range (option_map (λ (at : RangeAt).
    (let r : TargetRange = record { target = t; at = at } in r)) range) ≡ out_of_range t range
range_told t None = refl
range_told t (Some at) = refl

either_told : (a b : Option TargetRange) →
    failure_of_range (option_or a b) ≡ option_or (failure_of_range a) (failure_of_range b)
either_told None b = refl
either_told (Some range) b = refl

-- ---- a larger net

fits_larger : (m n : ℕ) (target : Target) → m ≤ n → TargetFits m target → TargetFits n target
fits_larger m n (Row t) room h = omega (arith, room, h)
fits_larger m n (Pair code original shift) room h =
    (omega (arith, room, h.0), omega (arith, room, h.1), h.2, h.3)

-- ---- lengths

length_is : (filter : Filter) (p : Code) (c : Certificate) (t : ℕ) → length_at filter p c t ≡ c.length
length_is filter p c t = elim (cases_lt t (row_count filter p)) [
  | inl row ↦ length_row filter p c t row
  | inr behind ↦ length_pair filter p c t (t - row_count filter p) (omega (arith, behind))
]

-- the total of target t in the padded net
abbrev pub padded_total : ℕ → Filter → Code → Certificate → ℕ → ℤ
padded_total n filter p c t =
    target_total (padded_net n filter p) (start_of (target_in (targets_of filter p) t))
    (length_in (lengths_of filter p c) t) (bound_of filter) (bound_at c)

module _ (filter : Filter) (p : Code) (c : Certificate) (kept : FilterFits filter)
    (system : EquationsFit filter.equations) (fits : CodeFits p)
    (same : length p.outputs ≡ length filter.outputs) (n : ℕ) (room : row_count filter p ≤ n) where
  -- all targets can be filled
  pub can_be_filled : CertificateFits c → CanBeFilled n (targets_of filter p) (lengths_of filter p c)
  can_be_filled ranges =
      let count = targets_long filter p in
      let outputs = kept.outputs_high in
      record {
        few = omega (arith, count, outputs, room);
        a_length_each = listed_length (target_count filter p) (length_at filter p c) ∙ sym count;
        targets_fit = λ t l.
            (let inside : t < target_count filter p = omega (arith, count, l) in
            rw (target_listed filter p t inside) (in_larger (target_at filter p t)
            (target_fits filter p kept system fits same t inside)));
        some = λ t l.
            (let inside : t < target_count filter p = omega (arith, count, l) in
            let low = ranges.length_low in
            let e : length_in (lengths_of filter p c) t ≡ c.length =
            length_listed filter p c t inside ∙ length_is filter p c t in
            omega (arith, e, low));
        short = λ t l.
            (let inside : t < target_count filter p = omega (arith, count, l) in
            let high = ranges.length_high in
            let e : length_in (lengths_of filter p c) t ≡ c.length =
            length_listed filter p c t inside ∙ length_is filter p c t in
            omega (arith, e, high));
      }
    where
      in_larger : (target : Target) → TargetFits (row_count filter p) target → TargetFits n target
      in_larger target h = fits_larger (row_count filter p) n target room h

  -- ---- the same numbers as without the empty rows

  module _ (law : EmptyRowsChangeNothing) (whole : IsWhole p) where
    rows_are : (judged_net filter p).rows ≡ row_count filter p
    unfolding put_rows
    rows_are = refl

    same_numbers : (t m : ℕ) → t < target_count filter p →
        HasSameNumbers (judged_net filter p) (padded_net n filter p) (start_of (target_at filter p t)) m
    same_numbers t m l =
        law (judged_net filter p) (padded_net n filter p) (target_at filter p t) m
        (is_padded p filter.equations (row_count filter p) n whole system refl room)
        (subst (λ rows. TargetFits rows (target_at filter p t)) (sym rows_are)
        (target_fits filter p kept system fits same t l))

    -- what is told of target t
    abbrev swept : ℕ → Option Failure
    swept t =
        out_of_range t
        (first_range_in (judged_net filter p) (start_of (target_at filter p t)) (length_at filter p c t))

    ranges_told : (m : ℕ) → m ≤ target_count filter p →
        failure_of_range (first_target_range (padded_net n filter p) (targets_of filter p)
        (lengths_of filter p c) m) ≡ first_of m swept
    ranges_told zero h = refl
    ranges_told (suc t) h =
        let l : t < target_count filter p = omega (arith, h) in
        either_told (first_target_range (padded_net n filter p) (targets_of filter p) (lengths_of filter p c) t) _
        ∙ ap₂ (λ a b. option_or a b) (ranges_told t (omega (arith, h)))
        (range_told t _ ∙ ap (out_of_range t)
        (rw (target_listed filter p t l, length_listed filter p c t l)
        (sym (same_numbers t (length_at filter p c t) l).first_ranges)))

    row_told : (j : ℕ) → j < row_count filter p → swept j ≡ out_of_range j (row_range filter p c j)
    row_told j l = rw (target_row filter p j l, length_row filter p c j l) refl

    pair_told : (o : ℕ) → swept (row_count filter p + o)
        ≡ out_of_range (row_count filter p + o) (pair_range filter p c o)
    pair_told o =
        rw (
          target_pair filter p (row_count filter p + o) o refl,
          length_pair filter p c (row_count filter p + o) o refl,
        ) refl

    -- the first target that meets a range is the first failure of a range
    range_is_told : failure_of_range (first_target_range (padded_net n filter p) (targets_of filter p)
        (lengths_of filter p c) (length (targets_of filter p))) ≡ range_failure filter p c
    range_is_told =
        ap (λ m. failure_of_range (first_target_range (padded_net n filter p) (targets_of filter p)
        (lengths_of filter p c) m)) (targets_long filter p)
        ∙ ranges_told (target_count filter p) (omega arith)
        ∙ first_parts (row_count filter p) (length filter.outputs) swept
        ∙ ap₂ (λ a b. option_or a b)
        (first_same (row_count filter p) swept (λ j. out_of_range j (row_range filter p c j)) row_told)
        (first_same (length filter.outputs) (λ o. swept (row_count filter p + o)) (λ o.
        out_of_range (row_count filter p + o) (pair_range filter p c o)) (λ o l. pair_told o))

    pub range_told_of : (net : Net) (targets : List Target) (lengths : List ℕ) → net ≡ padded_net n filter p →
        targets ≡ targets_of filter p → lengths ≡ lengths_of filter p c →
        failure_of_range (first_target_range net targets lengths (length targets)) ≡ range_failure filter p c
    range_told_of net targets lengths a b d = rw (a, b, d) range_is_told

    -- ---- totals

    -- that of target t
    abbrev swept_total : ℕ → ℤ
    swept_total t =
        target_total (judged_net filter p) (start_of (target_at filter p t)) (length_at filter p c t)
        (bound_of filter) (bound_at c)

    total_is : (t : ℕ) → t < target_count filter p → padded_total n filter p c t ≡ swept_total t
    total_is t l =
        rw (target_listed filter p t l, length_listed filter p c t l)
        (sym ((same_numbers t (length_at filter p c t) l).totals_are (bound_of filter) (bound_at c)))

    row_total_is : (j : ℕ) → j < row_count filter p → swept_total j ≡ row_total filter p c j
    row_total_is j l = rw (target_row filter p j l, length_row filter p c j l) refl

    pair_total_is : (o : ℕ) → swept_total (row_count filter p + o) ≡ pair_total filter p c o
    pair_total_is o =
        rw (
          target_pair filter p (row_count filter p + o) o refl,
          length_pair filter p c (row_count filter p + o) o refl,
        ) refl

    -- the totals in the padded net are those of rows and pairs
    pub has_totals : (totals : List ℤ) → ((t : ℕ) → t < target_count filter p →
        whole_in totals t ≡ padded_total n filter p c t) → HasTotals filter p c totals
    has_totals totals first = record {
      rows = λ j l.
          (let inside : j < target_count filter p = omega (arith, l) in
          first j inside ∙ total_is j inside ∙ row_total_is j l);
      pairs = λ o l.
          (let inside : row_count filter p + o < target_count filter p = omega (arith, l) in
          first (row_count filter p + o) inside ∙ total_is (row_count filter p + o) inside ∙ pair_total_is o);
    }

    -- ---- parts

    -- the parts in the padded net are those in the net of program and filter
    pub parts_told : (o : ℕ) → o < length filter.outputs → (parts : Parts) →
        ArePartsOf (padded_net n filter p)
        (start_of (target_in (targets_of filter p) (row_count filter p + o)))
        (length_in (lengths_of filter p c) (row_count filter p + o)) (bound_of filter) (bound_at c) parts →
        parts ≡ parts_at filter p c o
    parts_told o l parts h =
        let t = row_count filter p + o in
        let inside : t < target_count filter p = omega (arith, l) in
        let target : target_in (targets_of filter p) t ≡ pair_of filter p o =
        target_listed filter p t inside ∙ target_pair filter p t o refl in
        let moments : length_in (lengths_of filter p c) t ≡ output_length c o =
        length_listed filter p c t inside ∙ length_pair filter p c t o refl in
        let same : HasSameNumbers (judged_net filter p) (padded_net n filter p) (start_of (pair_of filter p o))
        (output_length c o) =
        subst (λ (target : Target). HasSameNumbers (judged_net filter p) (padded_net n filter p) (start_of target)
        (output_length c o)) (target_pair filter p t o refl) (same_numbers t (output_length c o) inside) in
        parts_are (judged_net filter p) (padded_net n filter p) (start_of (pair_of filter p o)) (output_length c o)
        (bound_of filter) (bound_at c) same parts (rw (target, moments) at h)
