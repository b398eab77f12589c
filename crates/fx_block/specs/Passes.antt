-- What a certificate has to meet, for a filter and a program.
use Rattle.std.specs.Prelude.{◌≡◌, ℕ, ◌<◌, None, ℤ, pos, ◌*ℤ◌, ◌≤ℤ◌, unsigned_abs, length, slice_index}
use Rattle.std.specs.Prelude.{slice_index_or, Option}
use Rattle.fx_files.specs.Filter.{Filter}
use Rattle.fx_net.specs.Net.{Net}
use Rattle.fx_code.specs.Code.{Code, row_at}
use Rattle.fx_cert.specs.Certificate.{Certificate, output_length, row_length}
use Rattle.fx_sweep.specs.Range.{first_range_in}
use Rattle.fx_sweep.specs.Target.{one, start_of}
use Rattle.fx_sweep.specs.declared.target.RangeAt.{RangeAt}
use Rattle.fx_sweep.specs.declared.target.Target.{Target}
use Rattle.fx_sweep.specs.declared.target.Target.TheVariants.{Row, Pair}
use Rattle.fx_totals.specs.Totals.{target_total}
use Rattle.fx_block.specs.Formats.{bound_of, input_at, output_at, shift_of}
use Rattle.fx_block.specs.Ideal.{WidthsHold}
use Rattle.fx_block.specs.Joint.{count_of, net_of, original_row}

-- ---- the certificate's numbers

-- the bound of row j, and the error of output o
abbrev pub bound_at : Certificate → ℕ → ℕ
bound_at c j = unsigned_abs (slice_index_or c.bounds j (pos 0))

abbrev pub error_at : Certificate → ℕ → ℤ
error_at c o = slice_index_or c.errors o (pos 0)

-- ---- the targets: each row of the net of program and equations, and for each output a pair of its two rows

abbrev pub judged_net : Filter → Code → Net
judged_net filter p = net_of p filter.equations

abbrev pub row_count : Filter → Code → ℕ
row_count filter p = count_of p filter.equations

abbrev pub pair_of : Filter → Code → ℕ → Target
pair_of filter p o = Pair (slice_index p.outputs o) (original_row p filter.equations (output_at filter o).row)
    (shift_of filter o)

-- the total of row j, and that of the pair of output o
abbrev pub row_total : Filter → Code → Certificate → ℕ → ℤ
row_total filter p c j =
    target_total (judged_net filter p) (start_of (Row j)) (row_length c j) (bound_of filter) (bound_at c)

abbrev pub pair_total : Filter → Code → Certificate → ℕ → ℤ
pair_total filter p c o =
    target_total (judged_net filter p) (start_of (pair_of filter p o)) (output_length c o) (bound_of filter)
    (bound_at c)

-- where the sweep of row j, and that of the pair of output o, first reaches its limit
abbrev pub row_range : Filter → Code → Certificate → ℕ → Option RangeAt
row_range filter p c j = first_range_in (judged_net filter p) (start_of (Row j)) (row_length c j)

abbrev pub pair_range : Filter → Code → Certificate → ℕ → Option RangeAt
pair_range filter p c o = first_range_in (judged_net filter p) (start_of (pair_of filter p o)) (output_length c o)

-- ---- the inequalities

-- program, filter and certificate have the same form
pub record IsOfForm (filter : Filter) (p : Code) (c : Certificate) : Type 0 where
  pub inputs : length p.inputs ≡ length filter.inputs
  pub outputs : length p.outputs ≡ length filter.outputs
  pub accumulator : p.accumulator ≡ filter.settings.accumulator
  pub input_widths : (j : ℕ) → j < length filter.inputs → slice_index p.inputs j ≡ (input_at filter j).width
  pub output_widths : (o : ℕ) → o < length filter.outputs →
      (row_at p (slice_index p.outputs o)).width ≡ (output_at filter o).width
  pub rows : length c.bounds ≡ row_count filter p
  pub errors : length c.errors ≡ length filter.outputs

-- All seven hold: the form; no number of a sweep reaches its limit; each row's bound serves; words and accumulators
-- take the bounds of the program's rows; the total of each output's pair is at most its error, and that at most the
-- wanted one.
pub record Passes (filter : Filter) (p : Code) (c : Certificate) : Type 0 where
  pub form : IsOfForm filter p c
  pub row_ranges : (j : ℕ) → j < row_count filter p → row_range filter p c j ≡ None
  pub pair_ranges : (o : ℕ) → o < length filter.outputs → pair_range filter p c o ≡ None
  pub bounds : (j : ℕ) → j < row_count filter p → row_total filter p c j ≤ℤ (pos (bound_at c j) *ℤ one)
  pub widths : (i : ℕ) → i < length p.rows → WidthsHold p i (bound_at c i)
  pub errors : (o : ℕ) → o < length filter.outputs → pair_total filter p c o ≤ℤ error_at c o
  pub wanted : (o : ℕ) → o < length filter.outputs → error_at c o ≤ℤ (output_at filter o).target
