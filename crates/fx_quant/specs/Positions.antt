-- Low positions: the last place of a word counts 2 to the power of its low position.
use Rattle.std.specs.Prelude.{ℕ, ℤ, pos, ◌-ℤ◌, List, ◌++◌, map, take, slice_index_or}
use Rattle.fx_code.specs.declared.term.Read.{Read}
use Rattle.fx_code.specs.declared.term.Read.TheVariants.{Now, Old, In}
use Rattle.fx_quant.specs.declared.formats.Formats.{Formats}

-- the low position of the inputs, that of each row, and how many places behind the point the coefficients have
pub record Grid : Type 0 where
  pub input_low : ℤ
  pub lows : List ℤ
  pub fraction : ℕ

-- a row with guard bits stands so many places below the inputs
abbrev pub guarded : ℤ → ℕ → ℤ
guarded input_low guard = input_low -ℤ pos guard

-- rows with guards, one for each, and behind them so many rows that are put out, where the formats say
abbrev pub grid : Formats → List ℕ → ℕ → ℕ → Grid
grid f guards outputs fraction =
    record {
      input_low = f.input_low;
      lows = map (guarded f.input_low) guards ++ take outputs f.lows;
      fraction = fraction;
    }

-- of row i
abbrev pub row_low : Grid → ℕ → ℤ
row_low g i = slice_index_or g.lows i (pos 0)

-- of what a term reads
abbrev pub source_low : Grid → Read → ℤ
source_low g (Now j) = row_low g j
source_low g (Old j) = row_low g j
source_low g (In j) = g.input_low
