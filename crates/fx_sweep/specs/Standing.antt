-- A moment of a sweep that leaves what is carried as it was: each later moment repeats it.
use Rattle.std.specs.Prelude.{◌≡◌, ℕ, suc, ◌+◌, ◌*◌, ◌^◌, ◌<◌, pos, ◌+ℤ◌, ◌*ℤ◌, unsigned_abs, None}
use Rattle.fx_nums.specs.Arithmetic.{width}
use Rattle.fx_nums.specs.Interval.{Interval, magnitude}
use Rattle.fx_nums.specs.declared.limits.TheConstants.{OPERAND_BITS}
use Rattle.fx_net.specs.Net.{Net}
use Rattle.fx_sweep.specs.Gains.{widths, row_gain, input_gain}
use Rattle.fx_sweep.specs.Range.{first_range_in}
use Rattle.fx_sweep.specs.Weights.{carried, settled, inputs}

-- moment n leaves what is carried as it was
abbrev pub Stands : Net → (ℕ → Interval) → ℕ → Type 0
Stands net start n = carried net start (suc n) ≡ carried net start n

-- the numbers after k moments that each add what moment n adds
pub record IsRepeated (net : Net) (start : ℕ → Interval) (n k : ℕ) : Type 0 where
  pub carried_stay : carried net start (n + k) ≡ carried net start n
  pub inputs_stay : inputs net start (n + k) ≡ inputs net start n
  pub widths_rise : (i : ℕ) →
      widths net start (n + k) i ≡ widths net start n i +ℤ pos k *ℤ width (settled net start n i)
  pub row_gains_rise : (i : ℕ) →
      row_gain net start (n + k) i ≡ row_gain net start n i + k * unsigned_abs (settled net start n i).lo
  pub input_gains_rise : (j : ℕ) →
      input_gain net start (n + k) j ≡ input_gain net start n j + k * magnitude (inputs net start n j)

-- no gain has reached the limit after m moments
pub record GainsAreBelow (net : Net) (start : ℕ → Interval) (m : ℕ) : Type 0 where
  pub rows : (i : ℕ) → row_gain net start m i < 2 ^ OPERAND_BITS
  pub ports : (j : ℕ) → input_gain net start m j < 2 ^ OPERAND_BITS

-- from a moment that stands on each moment adds what it adds
abbrev pub StandingMomentsRepeat : Type 0
StandingMomentsRepeat =
    (net : Net) (start : ℕ → Interval) (n k : ℕ) → Stands net start n → IsRepeated net start n k

-- and where it met no range, none is met as long as the gains stay below the limit
abbrev pub StandingMomentsMeetNoRange : Type 0
StandingMomentsMeetNoRange =
    (net : Net) (start : ℕ → Interval) (n k : ℕ) → Stands net start n → first_range_in net start (suc n) ≡ None →
    GainsAreBelow net start (n + k) → first_range_in net start (n + k) ≡ None
