-- The targets fit into the net.
use Rattle.std.proofs.Common.{◌≡◌, ℕ, ◌+◌, ◌-◌, ◌<◌, ◌≤◌, List, length, get_or, arith, ap, ◌∙◌, subst}
use Rattle.std.proofs.Common.{inl, inr}
use Rattle.std.specs.Prelude.{unsigned_abs}
use Rattle.std.proofs.lemmas.Int.{ints}
use Rattle.std.proofs.lemmas.Bool.{cases_lt, cond-true, cond-false, lt-ltb, le-ltb}
use Rattle.std.proofs.lemmas.List.{get_or-map, length-map}
use Rattle.fx_eqs.specs.Expanded.{row_place}
use Rattle.fx_eqs.specs.Fits.{EquationsFit}
use Rattle.fx_files.specs.Filter.{Filter}
use Rattle.fx_files.specs.Fits.{FilterFits, OutputFits}
use Rattle.fx_files.specs.declared.formats.OutputFormat.{OutputFormat}
use Rattle.fx_net.proofs.Positions.{row_inside}
use Rattle.fx_code.specs.Code.{BareRow}
use Rattle.fx_sweep.specs.Target.{TargetFits}
use Rattle.fx_sweep.specs.declared.target.Target.TheVariants.{Row}
use Rattle.fx_totals.specs.Filled.{target_in}
use Rattle.fx_block.specs.Candidate.{candidate_count, candidate_pair, inner_count}
use Rattle.fx_block.specs.Formats.{output_at, shift_of}
use Rattle.fx_make.specs.Targets.{target_at, target_count, targets_of}
use Rattle.fx_block.proofs.Places.{listed_at, listed_length}

-- ---- what a target is

module _ (f : Filter) (rows : List BareRow) where
  pub target_row : (j : ℕ) → j < candidate_count f rows → target_at f rows j ≡ Row j
  unfolding target_at
  target_row j l = cond-true _ _ _ (lt-ltb j (candidate_count f rows) l)

  pub target_pair : (t o : ℕ) → t ≡ candidate_count f rows + o → target_at f rows t ≡ candidate_pair f rows o
  unfolding target_at
  target_pair t o e =
      cond-false _ _ _ (le-ltb t (candidate_count f rows) (omega (arith, e)))
      ∙ ap (candidate_pair f rows) (let behind : t - candidate_count f rows ≡ o = omega (arith, e) in behind)

  pub target_listed : (t : ℕ) → t < target_count f rows → target_in (targets_of f rows) t ≡ target_at f rows t
  target_listed t l = listed_at (target_count f rows) (target_at f rows) t (Row 0) l

  pub targets_long : length (targets_of f rows) ≡ target_count f rows
  targets_long = listed_length (target_count f rows) (target_at f rows)

-- ---- its rows are rows of the net

module _ (f : Filter) (rows : List BareRow) (kept : FilterFits f) (system : EquationsFit f.equations) where
  equation_row : (o : ℕ) → o < length f.outputs → (output_at f o).row < f.equations.rows
  equation_row o l =
      let same : get_or f.equations.outputs o 0 ≡ (output_at f o).row =
      ap (λ (rows : List ℕ). get_or rows o 0) kept.equation_outputs
      ∙ get_or-map (λ (format : OutputFormat). format.row) f.outputs o _ 0 l in
      let count : length f.equations.outputs ≡ length f.outputs =
      ap (λ (rows : List ℕ). length rows) kept.equation_outputs
      ∙ length-map f.outputs (λ (format : OutputFormat). format.row) in
      subst (λ row. row < f.equations.rows) same (system.outputs o 0 (omega (arith, count, l)))

  pub original_inside : (o : ℕ) → o < length f.outputs →
      length rows + row_place f.equations (output_at f o).row < candidate_count f rows
  original_inside o l =
      let inside = row_inside f.equations (output_at f o).row (equation_row o l) in omega (arith, inside)

  small_shift : (o : ℕ) → o < length f.outputs → unsigned_abs (shift_of f o) ≤ 16
  small_shift o l =
      let output : OutputFits f.input_low f.settings.accumulator (output_at f o) = kept.outputs o _ l in
      let low = output.difference.0 in
      let high = output.difference.1 in
      omega (arith, ints, low, high)

  module _ (there : length f.outputs ≤ length rows) where
    pair_fits : (o : ℕ) → o < length f.outputs → TargetFits (candidate_count f rows) (candidate_pair f rows o)
    pair_fits o l =
        let row : inner_count f rows + o < length rows = omega (arith, there, l) in
        let original = original_inside o l in
        (omega (arith, row), original, (λ e. omega (arith, row, e)), small_shift o l)

    pub target_fits : (t : ℕ) → t < target_count f rows → TargetFits (candidate_count f rows) (target_at f rows t)
    target_fits t l =
        elim (cases_lt t (candidate_count f rows)) [
          | inl row ↦ rw (target_row f rows t row) row
          | inr behind ↦
              let e : t ≡ candidate_count f rows + (t - candidate_count f rows) = omega (arith, behind) in
              let inside : t - candidate_count f rows < length f.outputs = omega (arith, l, behind) in
              rw (target_pair f rows t (t - candidate_count f rows) e) (pair_fits (t - candidate_count f rows) inside)
        ]
