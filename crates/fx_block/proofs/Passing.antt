-- What passes is sound.
use Rattle.std.proofs.Common.{◌≡◌, ℕ, ◌<◌, ◌≤◌, List, [], length, map, get_or, arith, refl, ap, sym, ◌∙◌, subst}
use Rattle.std.proofs.Common.{inl, inr}
use Rattle.std.proofs.Math.IntN.{ℤ, pos}
use Rattle.std.specs.Int.Signed.{◌≤ℤ◌}
use Rattle.std.specs.Prelude.{unsigned_abs}
use Rattle.std.proofs.lemmas.Int.{ints}
use Rattle.std.proofs.lemmas.Bool.{cases_lt}
use Rattle.std.proofs.lemmas.List.{get_or_default, get_or_past, get_or-map, length-map, same_lists}
use Rattle.fx_eqs.specs.Fits.{EquationsFit}
use Rattle.fx_files.specs.Filter.{Filter}
use Rattle.fx_files.specs.Fits.{FilterFits, OutputFits}
use Rattle.fx_files.specs.declared.formats.InputFormat.{InputFormat}
use Rattle.fx_files.specs.declared.formats.OutputFormat.{OutputFormat}
use Rattle.fx_net.specs.Rows.{put_rows}
use Rattle.fx_code.specs.Code.{Code, IsWhole}
use Rattle.fx_code.specs.Fits.{CodeFits}
use Rattle.fx_code.specs.Inputs.{word_at}
use Rattle.fx_cert.specs.Certificate.{Certificate, CertificateFits, output_length, row_length}
use Rattle.fx_totals.specs.AllTime.{WordsWithin}
use Rattle.fx_block.specs.Admissible.{IsAdmissible, IsAdmissibleMoment}
use Rattle.fx_block.specs.Certified.{PassingIsSound, OriginalStaysWithin}
use Rattle.fx_block.specs.Formats.{bound_of, input_at, output_at, shift_of}
use Rattle.fx_block.specs.Joint.{count_of, net_of}
use Rattle.fx_block.specs.Laws.{AreBounded, ExpandedRowsAreWithin, PairsAreNear, RowsAreExact}
use Rattle.fx_block.specs.Passes.{bound_at, error_at, Passes}
use Rattle.fx_block.specs.Sound.{IsSound}

-- ---- admissible words

word_within : (filter : Filter) (moment : List ℤ) (j : ℕ) → IsAdmissibleMoment filter moment →
    unsigned_abs (get_or moment j (pos 0)) ≤ bound_of filter j
word_within filter moment j admissible = elim (cases_lt j (length moment)) [
  | inl here ↦ (let within : pos (unsigned_abs (get_or moment j (pos 0))) ≤ℤ (input_at filter j).bound =
      admissible.within j here in omega (arith, ints, within))
  | inr past ↦ (let none : get_or moment j (pos 0) ≡ pos 0 = get_or_past moment j (pos 0) past in rw none (omega arith))
]

pub words_within : (filter : Filter) (list : List (List ℤ)) → IsAdmissible filter list →
    WordsWithin (bound_of filter) (word_at list)
words_within filter list admissible k j port = elim (cases_lt k (length list)) [
  | inl here ↦ word_within filter (get_or list k []) j (admissible k [] here)
  | inr past ↦ (let none : get_or list k [] ≡ [] = get_or_past list k [] past in rw none (omega arith))
]

-- ---- inputs of the same widths

same_widths : (widths : List ℕ) (formats : List InputFormat) (d : InputFormat) → length widths ≡ length formats →
    ((j : ℕ) → j < length formats → get_or widths j 0 ≡ (get_or formats j d).width) →
    widths ≡ map (λ (f : InputFormat). f.width) formats
same_widths widths formats d count same =
    same_lists widths (map (λ (f : InputFormat). f.width) formats) (count
    ∙ sym (length-map formats (λ (f : InputFormat). f.width)))
    (λ k e l.
    (let inside : k < length formats = omega (arith, count, l) in
    get_or_default widths k e 0 l ∙ same k inside
    ∙ sym (get_or-map (λ (f : InputFormat). f.width) formats k d e inside)))

-- ---- an output

module _ (filter : Filter) (p : Code) (c : Certificate) (kept : FilterFits filter)
    (system : EquationsFit filter.equations)
    (fits : CodeFits p) (ranges : CertificateFits c) (whole : IsWhole p) (passes : Passes filter p c) where
  code_row : (o : ℕ) → o < length filter.outputs → get_or p.outputs o 0 < length p.rows
  code_row o l = let same : length p.outputs ≡ length filter.outputs =
      passes.form.outputs in fits.outputs o 0 (omega (arith, same, l))

  equation_row : (o : ℕ) → o < length filter.outputs → (output_at filter o).row < filter.equations.rows
  equation_row o l =
      let same : get_or filter.equations.outputs o 0 ≡ (output_at filter o).row =
      ap (λ (rows : List ℕ). get_or rows o 0) kept.equation_outputs
      ∙ get_or-map (λ (f : OutputFormat). f.row) filter.outputs o _ 0 l in
      let count : length filter.equations.outputs ≡ length filter.outputs =
      ap (λ (rows : List ℕ). length rows) kept.equation_outputs
      ∙ length-map filter.outputs (λ (f : OutputFormat). f.row) in
      subst (λ row. row < filter.equations.rows) same (system.outputs o 0 (omega (arith, count, l)))

  small_shift : (o : ℕ) → o < length filter.outputs → unsigned_abs (shift_of filter o) ≤ 16
  small_shift o l =
      let output : OutputFits filter.input_low filter.settings.accumulator (output_at filter o) = kept.outputs o _ l in
      let low = output.difference.0 in
      let high = output.difference.1 in
      omega (arith, ints, low, high)

  -- the net has just the rows that are counted
  rows_are : (net_of p filter.equations).rows ≡ count_of p filter.equations
  unfolding put_rows
  rows_are = refl

  bounded : (list : List (List ℤ)) → IsAdmissible filter list →
      AreBounded p filter.equations (word_at list) (row_length c) (bound_of filter) (bound_at c)
  bounded list admissible = record {
    words_within = words_within filter list admissible;
    serve = λ j l. inr (record { some = ranges.length_low; total = passes.bounds j (subst (λ n. j < n) rows_are l) });
    widths = passes.widths;
  }

  sound : RowsAreExact p → PairsAreNear p → IsSound filter p c.errors
  sound exact near = record {
    same_inputs = same_widths p.inputs filter.inputs (record { width = 0; bound = pos 0 }) passes.form.inputs
        passes.form.input_widths;
    same_outputs = passes.form.outputs;
    error_each = passes.form.errors;
    exact = λ list admissible k i h l.
        exact filter.equations (word_at list) (row_length c) (bound_of filter) (bound_at c) whole system
        (bounded list admissible) k i l;
    near = λ list admissible k o h l.
        near filter.equations (word_at list) (row_length c) (bound_of filter) (bound_at c) whole system
        (bounded list admissible)
        (output_length c o) (get_or p.outputs o 0) (output_at filter o).row (shift_of filter o) (error_at c o)
        ranges.length_low (code_row o l) (equation_row o l) (small_shift o l) (passes.errors o l) k;
  }

pub passing_is_sound : (filter : Filter) (p : Code) (c : Certificate) → FilterFits filter →
    EquationsFit filter.equations → CodeFits p → CertificateFits c →
    RowsAreExact p → PairsAreNear p → PassingIsSound filter p c
passing_is_sound filter p c kept system fits ranges exact near whole passes =
    sound filter p c kept system fits ranges whole passes exact near

pub original_stays_within : (filter : Filter) (p : Code) (c : Certificate) → FilterFits filter →
    EquationsFit filter.equations → CodeFits p → CertificateFits c →
    ExpandedRowsAreWithin p → OriginalStaysWithin filter p c
original_stays_within filter p c kept system fits ranges within whole passes list admissible net at q z runs k r l =
    within filter.equations (word_at list) (row_length c) (bound_of filter) (bound_at c) whole system
    (bounded filter p c kept system fits ranges whole passes list admissible) net at q z runs k r l
