-- Rows behind a net that read nothing and are read by none: they change no number of a sweep.
use Rattle.std.specs.Prelude.{◌≡◌, ℕ, ◌-◌, ◌<◌, ◌≤◌}
use Rattle.fx_nums.specs.Fraction.{zero_fraction}
use Rattle.fx_nums.specs.Interval.{Interval}
use Rattle.fx_net.specs.Net.{Net}
use Rattle.fx_net.specs.Rows.{AreEmpty, IsSameRow}
use Rattle.fx_sweep.specs.Gains.{widths, row_gain, input_gain, rest}
use Rattle.fx_sweep.specs.Range.{range_at, first_range_in}
use Rattle.fx_sweep.specs.Target.{TargetFits, start_of}
use Rattle.fx_sweep.specs.Weights.{inputs}
use Rattle.fx_sweep.specs.declared.target.Target.{Target}
use Rattle.fx_totals.specs.Totals.{input_part, rest_part, rounding, target_total, width_part}

-- b is a, with empty rows behind that no row reads
pub record IsPadded (a b : Net) : Type 0 where
  pub rows : a.rows ≤ b.rows
  pub unread : (i j : ℕ) → i < a.rows → a.rows ≤ j → a.old i j ≡ zero_fraction
  pub same : (i : ℕ) → i < a.rows → IsSameRow i a b
  pub empty : AreEmpty a.rows (b.rows - a.rows) b

-- each number of a sweep is the same in both, and so are the parts of the total
pub record HasSameNumbers (a b : Net) (start : ℕ → Interval) (m : ℕ) : Type 0 where
  pub widths_are : (i : ℕ) → widths a start m i ≡ widths b start m i
  pub row_gains : (i : ℕ) → row_gain a start m i ≡ row_gain b start m i
  pub input_gains : (j : ℕ) → input_gain a start m j ≡ input_gain b start m j
  pub rests : (i : ℕ) → rest a start m i ≡ rest b start m i
  pub inputs_are : (j : ℕ) → inputs a start m j ≡ inputs b start m j
  pub input_parts : (bounds : ℕ → ℕ) → input_part a start m bounds ≡ input_part b start m bounds
  pub roundings : rounding a start m ≡ rounding b start m
  pub width_parts : (rows : ℕ → ℕ) → width_part a start m rows ≡ width_part b start m rows
  pub rest_parts : (rows : ℕ → ℕ) → rest_part a start m rows ≡ rest_part b start m rows
  pub totals_are : (bounds rows : ℕ → ℕ) → target_total a start m bounds rows ≡ target_total b start m bounds rows
  pub ranges : range_at a start m ≡ range_at b start m
  pub first_ranges : first_range_in a start m ≡ first_range_in b start m

-- so no number depends on how many empty rows a net has
abbrev pub EmptyRowsChangeNothing : Type 0
EmptyRowsChangeNothing =
    (a b : Net) (target : Target) (m : ℕ) → IsPadded a b → TargetFits a.rows target →
    HasSameNumbers a b (start_of target) m
