-- What the sweep of a target begins with.
use Rattle.std.specs.Prelude.{◌≡◌, ℕ, ◌^◌, ◌<◌, ◌≤◌, ◌==◌, cond, ℤ, pos, ◌+ℤ◌, ◌-ℤ◌, unsigned_abs}
use Rattle.fx_nums.specs.Interval.{Interval, point}
use Rattle.fx_nums.specs.declared.limits.TheConstants.{SCALE_BITS}
use Rattle.fx_sweep.specs.declared.limits.TheConstants.{GREATEST_SHIFT}
use Rattle.fx_sweep.specs.declared.target.Target.{Target}
use Rattle.fx_sweep.specs.declared.target.Target.TheVariants.{Row, Pair}

-- w for row t, else 0
abbrev pub only : ℕ → ℤ → ℕ → ℤ
only t w j = cond (j == t) w (pos 0)

-- 1 at the scale of the sweep
abbrev pub one : ℤ
one = pos (2 ^ SCALE_BITS)

-- 2 ^ shift at that scale
abbrev pub power : ℤ → ℤ
power shift = pos (2 ^ unsigned_abs (pos SCALE_BITS +ℤ shift))

-- how often the target has each row
abbrev pub weights : Target → ℕ → ℤ
weights (Row t) j = only t one j
weights (Pair code original shift) j = only code one j -ℤ only original (power shift) j

-- the intervals with which its sweep begins
abbrev pub start_of : Target → ℕ → Interval
start_of target j = point (weights target j)

-- the rows of the target are two of so many, and the shift is small
abbrev pub TargetFits : ℕ → Target → Type 0
TargetFits n (Row t) = t < n
TargetFits n (Pair code original shift) = (code < n) × (original < n) × (code ≡ original → ⊥)
    × (unsigned_abs shift ≤ unsigned_abs GREATEST_SHIFT)
