-- The program of a candidate that passes.
use Rattle.std.proofs.Common.{◌≡◌, ℕ, ◌+◌, ◌-◌, ◌^◌, ◌<◌, ◌≤◌, List, map, length, All, min, arith}
use Rattle.std.proofs.Common.{sym, ap, subst, ◌∙◌, slice_index_or, inl, inr}
use Rattle.std.proofs.Math.IntN.{ℤ, pos}
use Rattle.std.specs.Int.Signed.{◌≤ℤ◌}
use Rattle.std.proofs.lemmas.Bool.{cases_lt, cond-true, lt-ltb}
use Rattle.std.proofs.lemmas.Int.{ints}
use Rattle.std.proofs.lemmas.List.{length-map, get_or-map, get_or-drop}
use Rattle.std.proofs.lemmas.List.Elements.{All-map, All-weaker, All-get_or, All-from_get_or}
use Rattle.std.specs.Prelude.{IsTrue, Result, Ok, Err, IfOk}
use Rattle.std.proofs.lemmas.Bool.Decides.{nat_tests}
use Rattle.fx_math.specs.Words.{WidthFits, is_accumulator}
use Rattle.fx_math.specs.declared.words.TheConstants.{LEAST_WIDTH}
use Rattle.fx_msb.specs.Widths.{IsBound, IsLeastWidth}
use Rattle.fx_files.specs.Filter.{Filter}
use Rattle.fx_files.specs.Fits.{FilterFits, InputFits, OutputFits}
use Rattle.fx_files.specs.declared.formats.InputFormat.{InputFormat}
use Rattle.fx_files.specs.declared.formats.OutputFormat.{OutputFormat}
use Rattle.fx_code.specs.Code.{Code}
use Rattle.fx_totals.specs.Kept.{AreBounds, bound_in}
use Rattle.fx_code.specs.NetRows.{bare_at}
use Rattle.fx_block.specs.Candidate.{cap_of, inner_count, most_width}
use Rattle.fx_block.specs.Formats.{output_at}
use Rattle.fx_block.specs.Made.{IsProgramOf}
use Rattle.fx_quant.specs.Design.{Quantised, WidthsFit, HasShape, as_program}
use Rattle.fx_quant.specs.Widths.{AreRowWidths}
use Rattle.fx_make.specs.Designs.{AreRowsOf}

-- ---- widths

sixteen : (bits : ℕ) → IsTrue (is_accumulator bits) → 16 ≤ bits
sixteen bits h = grind (arith, nat_tests, h)

-- a bound of a list
bound_is : (x : List ℤ) (i : ℕ) → AreBounds x → slice_index_or x i (pos 0) ≡ pos (bound_in x i)
bound_is x i h = let here = h i in omega (arith, ints, here.0)

pub are_bounds : (x : List ℤ) → AreBounds x → All IsBound x
are_bounds x h = All-from_get_or IsBound x (pos 0) (λ i l. let here = h i in
    record { low = here.0; high = omega (arith, ints, here.1) })

-- the width of a row that is put out
put_out_at : (rows : ℕ) (x : List ℤ) (outputs widths : List ℕ) (o : ℕ) → AreRowWidths rows x outputs widths →
    slice_index_or widths (rows - length outputs + o) 0 ≡ slice_index_or outputs o 0
put_out_at rows x outputs widths o h =
    sym (get_or-drop (rows - length outputs) widths o 0) ∙ ap (λ xs. slice_index_or xs o 0) h.put_out

-- a cap of an inner row is one of its word
inner_cap : (f : Filter) (d : Quantised) (i : ℕ) → i < length d.rows → i < inner_count f d.rows →
    cap_of f d.rows i ≤ 2 ^ (min f.settings.word f.settings.accumulator - 1) - 1
inner_cap f d i h l =
    let bits : ℕ = min f.settings.word f.settings.accumulator in
    let cap : cap_of f d.rows i ≡ min (2 ^ (most_width f d.rows i - 1) - 1)
    (2 ^ (f.settings.accumulator - 1 - (bare_at d.rows i).shift) - 1) =
    cond-true _ _ _ (lt-ltb i (length d.rows) h) in
    let word : most_width f d.rows i ≡ bits = cond-true _ _ _ (lt-ltb i (inner_count f d.rows) l) in
    let same : 2 ^ (most_width f d.rows i - 1) - 1 ≡ 2 ^ (bits - 1) - 1 = ap (λ w. 2 ^ (w - 1) - 1) word in
    omega (arith, cap, same)

output_width : (f : Filter) (o : ℕ) → FilterFits f → o < length f.outputs →
    OutputFits f.input_low f.settings.accumulator (output_at f o)
output_width f o fits h = All-get_or (OutputFits f.input_low f.settings.accumulator) f.outputs o _ h fits.outputs

abbrev pub widths_out : Filter → List ℕ
widths_out f = map (λ (o : OutputFormat). o.width) f.outputs

abbrev pub widths_in : Filter → List ℕ
widths_in f = map (λ (i : InputFormat). i.width) f.inputs

width_kept : (f : Filter) (d : Quantised) (x : List ℤ) (widths : List ℕ) (i : ℕ) → FilterFits f → AreRowsOf f d →
    AreBounds x → ((i : ℕ) → i < length d.rows → bound_in x i ≤ cap_of f d.rows i) →
    AreRowWidths (length d.rows) x (widths_out f) widths → i < length d.rows →
    slice_index_or widths i 0 ≤ f.settings.accumulator
width_kept f d x widths i fits rows bounds caps are h =
    let n = length d.rows in
    let k = length (widths_out f) in
    let count : k ≡ length f.outputs = length-map f.outputs (λ (o : OutputFormat). o.width) in
    elim (cases_lt i (n - k)) [
      | inl below ↦ (let least = are.inner i below in
          let inner : i < inner_count f d.rows = omega (arith, below, count) in
          let some : LEAST_WIDTH ≤ min f.settings.word f.settings.accumulator =
          omega (arith, fits.settings.word.low, sixteen f.settings.accumulator fits.settings.accumulator.listed) in
          let takes : slice_index_or x i (pos 0) ≤ℤ pos (2 ^ (min f.settings.word f.settings.accumulator - 1) - 1) =
          omega (arith, ints, bound_is x i bounds, caps i h, inner_cap f d i h inner) in
          let high = least.least (min f.settings.word f.settings.accumulator) some takes in
          omega (arith, high))
      | inr at ↦ (let o : ℕ = i - (n - k) in
          let place : n - k + o ≡ i = omega (arith, at) in
          let within : o < length f.outputs = omega (arith, at, h, count, rows.outputs) in
          let same : slice_index_or widths i 0 ≡ (output_at f o).width =
          ap (λ j. slice_index_or widths j 0) (sym place)
          ∙ put_out_at n x (widths_out f) widths o are
          ∙ get_or-map (λ (q : OutputFormat). q.width) f.outputs o _ 0 within in
          let kept = (output_width f o fits within).width_kept in
          omega (arith, same, kept))
    ]

pub outputs_fit : (f : Filter) → FilterFits f → All WidthFits (widths_out f)
outputs_fit f fits =
    All-map WidthFits (λ (o : OutputFormat). o.width) f.outputs
    (All-weaker (OutputFits f.input_low f.settings.accumulator) (λ o. WidthFits o.width) (λ o h. h.width) f.outputs
    fits.outputs)

pub widths_fit : (f : Filter) (d : Quantised) (x : List ℤ) (widths : List ℕ) → FilterFits f → AreRowsOf f d →
    AreBounds x → ((i : ℕ) → i < length d.rows → bound_in x i ≤ cap_of f d.rows i) →
    AreRowWidths (length d.rows) x (widths_out f) widths → All WidthFits widths →
    WidthsFit d f.settings.accumulator (widths_in f) widths
widths_fit f d x widths fits rows bounds caps are each = record {
  accumulator_listed = fits.settings.accumulator.listed;
  accumulator_kept = omega (arith, rows.accumulator);
  inputs_count = length-map f.inputs (λ (i : InputFormat). i.width) ∙ sym rows.inputs;
  input_widths = All-map WidthFits (λ (i : InputFormat). i.width) f.inputs
      (All-weaker InputFits (λ i. WidthFits i.width) (λ i h. h.width) f.inputs fits.inputs);
  widths_count = are.count;
  row_widths = each;
  widths_kept = All-from_get_or (λ w. w ≤ f.settings.accumulator) widths 0
      (λ i h. width_kept f d x widths i fits rows bounds caps are (omega (arith, h, are.count)));
}

-- ---- the program

pub program_of : (f : Filter) (d : Quantised) (x : List ℤ) (widths : List ℕ) (p : Code) → AreRowsOf f d → AreBounds x →
    AreRowWidths (length d.rows) x (widths_out f) widths →
    p ≡ as_program d f.settings.accumulator (widths_in f) widths (length (widths_out f)) →
    HasShape d widths (length (widths_out f)) p → IsProgramOf f d.rows (bound_in x) p
program_of f d x widths p rows bounds are e shape =
    let n = length d.rows in
    let k = length (widths_out f) in
    let count : k ≡ length f.outputs = length-map f.outputs (λ (o : OutputFormat). o.width) in
    let inner : n - k ≡ inner_count f d.rows = ap (λ m. n - m) count in
    record {
      rows_are = shape.rows_are;
      accumulator = ap (λ (q : Code). q.accumulator) e;
      inputs = ap (λ (q : Code). length q.inputs) e ∙ length-map f.inputs (λ (i : InputFormat). i.width);
      input_widths = λ j h. ap (λ (q : Code). slice_index_or q.inputs j 0) e
          ∙ get_or-map (λ (q : InputFormat). q.width) f.inputs j _ 0 h;
      outputs = shape.output_count ∙ count;
      places = λ o h. shape.places o (omega (arith, h, count)) ∙ ap (λ m. m + o) inner;
      output_widths = λ o h. shape.row_widths (inner_count f d.rows + o) (omega (arith, h, rows.outputs))
          ∙ ap (λ m. slice_index_or widths (m + o) 0) (sym inner)
          ∙ put_out_at n x (widths_out f) widths o are ∙ get_or-map (λ (q : OutputFormat). q.width) f.outputs o _ 0 h;
      inner_widths = λ i h. subst (IsLeastWidth (pos (bound_in x i)))
          (sym (shape.row_widths i (omega (arith, h, rows.outputs))))
          (subst (λ z. IsLeastWidth z (slice_index_or widths i 0)) (bound_is x i bounds)
          (are.inner i (omega (arith, h, inner))));
    }

-- what holds of a value that is there
pub on_value : {A E : Type 0} (r : Result A E) (P Q R : A → Type 0) → ((a : A) → P a → Q a → R a) → IfOk r P →
    IfOk r Q → IfOk r R
on_value (Ok a) P Q R f p q = f a p q
on_value (Err e) P Q R f p q = tt
