-- The inputs and the outputs of a filter by their numbers.
use Rattle.std.specs.Prelude.{ℕ, ℤ, pos, ◌-ℤ◌, unsigned_abs, slice_index_or}
use Rattle.fx_nums.specs.Fraction.{zero_fraction}
use Rattle.fx_files.specs.Filter.{Filter}
use Rattle.fx_files.specs.declared.formats.InputFormat.{InputFormat}
use Rattle.fx_files.specs.declared.formats.OutputFormat.{OutputFormat}

-- past the inputs one that admits 0 alone
abbrev pub input_at : Filter → ℕ → InputFormat
input_at filter j = slice_index_or filter.inputs j (record { width = 0; bound = pos 0 })

abbrev pub output_at : Filter → ℕ → OutputFormat
output_at filter o = slice_index_or filter.outputs o (record {
  row = 0;
  width = 0;
  low = pos 0;
  error =
      zero_fraction;
  target = pos 0;
})

-- the greatest magnitude of the words of input j
abbrev pub bound_of : Filter → ℕ → ℕ
bound_of filter j = unsigned_abs (input_at filter j).bound

-- output o counts steps of 2 ^ low, its row those of the inputs: so many output steps are an input step, as a power of
-- two
abbrev pub shift_of : Filter → ℕ → ℤ
shift_of filter o = filter.input_low -ℤ (output_at filter o).low
