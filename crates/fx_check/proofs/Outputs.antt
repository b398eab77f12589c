-- The targets fit into the net.
use Rattle.std.proofs.Common.{◌≡◌, ℕ, ◌+◌, ◌-◌, ◌<◌, ◌≤◌, List, length, get_or, arith, ap, ◌∙◌, subst}
use Rattle.std.proofs.Common.{inl, inr}
use Rattle.std.specs.Prelude.{unsigned_abs}
use Rattle.std.proofs.lemmas.Int.{ints}
use Rattle.std.proofs.lemmas.Bool.{cases_lt, cond-true, cond-false, lt-ltb, le-ltb}
use Rattle.std.proofs.lemmas.List.{get_or-map, length-map}
use Rattle.fx_eqs.specs.Fits.{EquationsFit}
use Rattle.fx_files.specs.Filter.{Filter}
use Rattle.fx_files.specs.Fits.{FilterFits, OutputFits}
use Rattle.fx_files.specs.declared.formats.OutputFormat.{OutputFormat}
use Rattle.fx_net.proofs.Positions.{row_inside}
use Rattle.fx_code.specs.Code.{Code}
use Rattle.fx_code.specs.Fits.{CodeFits}
use Rattle.fx_cert.specs.Certificate.{Certificate, output_length, row_length}
use Rattle.fx_sweep.specs.Target.{TargetFits}
use Rattle.fx_sweep.specs.declared.target.Target.TheVariants.{Row}
use Rattle.fx_totals.specs.Filled.{length_in, target_in}
use Rattle.fx_block.specs.Formats.{output_at, shift_of}
use Rattle.fx_block.specs.Joint.{original_row}
use Rattle.fx_block.specs.Passes.{pair_of, row_count}
use Rattle.fx_check.specs.Targets.{length_at, lengths_of, target_at, target_count, targets_of}
use Rattle.fx_block.proofs.Places.{listed_at, listed_length}

-- ---- what a target is

module _ (filter : Filter) (p : Code) where
  pub target_row : (j : ℕ) → j < row_count filter p → target_at filter p j ≡ Row j
  unfolding target_at
  target_row j l = cond-true _ _ _ (lt-ltb j (row_count filter p) l)

  pub target_pair : (t o : ℕ) → t ≡ row_count filter p + o → target_at filter p t ≡ pair_of filter p o
  unfolding target_at
  target_pair t o e =
      cond-false _ _ _ (le-ltb t (row_count filter p) (omega (arith, e)))
      ∙ ap (pair_of filter p) (let behind : t - row_count filter p ≡ o = omega (arith, e) in behind)

  pub length_row : (c : Certificate) (j : ℕ) → j < row_count filter p → length_at filter p c j ≡ row_length c j
  unfolding length_at
  length_row c j l = cond-true _ _ _ (lt-ltb j (row_count filter p) l)

  pub length_pair : (c : Certificate) (t o : ℕ) → t ≡ row_count filter p + o →
      length_at filter p c t ≡ output_length c o
  unfolding length_at
  length_pair c t o e =
      cond-false _ _ _ (le-ltb t (row_count filter p) (omega (arith, e)))
      ∙ ap (output_length c) (let behind : t - row_count filter p ≡ o = omega (arith, e) in behind)

  pub target_listed : (t : ℕ) → t < target_count filter p → target_in (targets_of filter p) t ≡ target_at filter p t
  target_listed t l = listed_at (target_count filter p) (target_at filter p) t (Row 0) l

  pub length_listed : (c : Certificate) (t : ℕ) → t < target_count filter p →
      length_in (lengths_of filter p c) t ≡ length_at filter p c t
  length_listed c t l = listed_at (target_count filter p) (length_at filter p c) t 0 l

  pub targets_long : length (targets_of filter p) ≡ target_count filter p
  targets_long = listed_length (target_count filter p) (target_at filter p)

-- ---- its rows are rows of the net

module _ (filter : Filter) (p : Code) (kept : FilterFits filter) (system : EquationsFit filter.equations) where
  equation_row : (o : ℕ) → o < length filter.outputs → (output_at filter o).row < filter.equations.rows
  equation_row o l =
      let same : get_or filter.equations.outputs o 0 ≡ (output_at filter o).row =
      ap (λ (rows : List ℕ). get_or rows o 0) kept.equation_outputs
      ∙ get_or-map (λ (f : OutputFormat). f.row) filter.outputs o _ 0 l in
      let count : length filter.equations.outputs ≡ length filter.outputs =
      ap (λ (rows : List ℕ). length rows) kept.equation_outputs
      ∙ length-map filter.outputs (λ (f : OutputFormat). f.row) in
      subst (λ row. row < filter.equations.rows) same (system.outputs o 0 (omega (arith, count, l)))

  pub original_inside : (o : ℕ) → o < length filter.outputs →
      original_row p filter.equations (output_at filter o).row < row_count filter p
  original_inside o l =
      let inside = row_inside filter.equations (output_at filter o).row (equation_row o l) in omega (arith, inside)

  small_shift : (o : ℕ) → o < length filter.outputs → unsigned_abs (shift_of filter o) ≤ 16
  small_shift o l =
      let output : OutputFits filter.input_low filter.settings.accumulator (output_at filter o) = kept.outputs o _ l in
      let low = output.difference.0 in
      let high = output.difference.1 in
      omega (arith, ints, low, high)

  module _ (fits : CodeFits p) (same : length p.outputs ≡ length filter.outputs) where
    pair_fits : (o : ℕ) → o < length filter.outputs → TargetFits (row_count filter p) (pair_of filter p o)
    pair_fits o l =
        let row : get_or p.outputs o 0 < length p.rows = fits.outputs o 0 (omega (arith, same, l)) in
        let original = original_inside o l in
        (omega (arith, row), original, (λ e. omega (arith, row, e)), small_shift o l)

    pub target_fits : (t : ℕ) → t < target_count filter p → TargetFits (row_count filter p) (target_at filter p t)
    target_fits t l =
        elim (cases_lt t (row_count filter p)) [
          | inl row ↦ rw (target_row filter p t row) row
          | inr behind ↦
              let e : t ≡ row_count filter p + (t - row_count filter p) = omega (arith, behind) in
              let inside : t - row_count filter p < length filter.outputs = omega (arith, l, behind) in
              rw (target_pair filter p t (t - row_count filter p) e) (pair_fits (t - row_count filter p) inside)
        ]
