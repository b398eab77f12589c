-- The tables of a net, as the net that contracts speak of.
use Rattle.std.specs.Prelude.{◌≡◌, ℕ, ◌*◌, ◌≤◌, List, length, All, slice_index_or}
use Rattle.fx_nums.specs.Fraction.{Fraction, DenFits, zero_fraction}
use Rattle.fx_eqs.specs.declared.limits.TheConstants.{PORTS}
use Rattle.fx_cross.specs.Table.{Table, HasSizes, entry_at}
use Rattle.fx_net.specs.Net.{Net}
use Rattle.fx_net.specs.declared.limits.TheConstants.{LARGEST_NET, GREATEST_CLASS}

-- three sparse tables and the class of each row
pub record Tables : Type 0 where
  pub size : ℕ
  pub now_table : Table
  pub old_table : Table
  pub input_table : Table
  pub classes : List ℕ

-- the number at a place of a list, 0 outside
unfoldable pub number_at : List ℕ → ℕ → ℕ
number_at xs i = slice_index_or xs i 0

abbrev pub net_of : Tables → Net
net_of t = record {
  rows = t.size;
  now = entry_at t.now_table;
  old = entry_at t.old_table;
  input =
      entry_at t.input_table;
  class = number_at t.classes;
}

-- so many rows and columns, and room for all entries
abbrev pub HoldsAll : Table → ℕ → ℕ → Type 0
HoldsAll t rows columns = HasSizes t rows columns (rows * columns)

-- each coefficient has a denominator that a fraction may have
abbrev pub DenominatorsFit : (ℕ → ℕ → Fraction) → Type 0
DenominatorsFit at = (i j : ℕ) → DenFits (at i j).den

-- a row takes nothing of itself and of later rows
abbrev pub TakesEarlierRows : (ℕ → ℕ → Fraction) → Type 0
TakesEarlierRows at = (i j : ℕ) → i ≤ j → at i j ≡ zero_fraction

-- so many rows, each with a class in its range; such coefficients, of earlier rows in the moment's own table
pub record TablesFit (t : Tables) : Type 0 where
  pub rows_low : 1 ≤ t.size
  pub rows_high : t.size ≤ LARGEST_NET
  pub count : length t.classes ≡ t.size
  pub high : All (λ e. e ≤ GREATEST_CLASS) t.classes
  pub now_holds : HoldsAll t.now_table t.size t.size
  pub old_holds : HoldsAll t.old_table t.size t.size
  pub input_holds : HoldsAll t.input_table t.size PORTS
  pub earlier : TakesEarlierRows (entry_at t.now_table)
  pub now : DenominatorsFit (entry_at t.now_table)
  pub old : DenominatorsFit (entry_at t.old_table)
  pub input : DenominatorsFit (entry_at t.input_table)
