-- When a word is near an exact value.
use Rattle.std.specs.Prelude.{ℕ, ◌+◌, ◌*◌, ◌^◌, ℤ, pos, ◌-ℤ◌, ◌*ℤ◌, ◌≤ℤ◌, unsigned_abs}
use borrow.Author.Differences.{up, down}
use Rattle.fx_eqs.specs.Denominator.{common}
use Rattle.fx_eqs.specs.Equations.{Equations}
use Rattle.fx_eqs.specs.ExactRun.{exact_value}
use Rattle.fx_nums.specs.declared.limits.TheConstants.{SCALE_BITS}

-- the word y differs from the value z / g, times 2 ^ b over 2 ^ a, by at most e / 2 ^ 64
abbrev pub IsNear : ℤ → ℤ → ℕ → ℕ → ℕ → ℤ → Type 0
IsNear y z g a b e = pos (2 ^ SCALE_BITS * unsigned_abs (y *ℤ pos (g * 2 ^ a) -ℤ z *ℤ pos (2 ^ b))) ≤ℤ
    (e *ℤ pos (g * 2 ^ a))

-- the word y differs from 2 ^ shift times the exact value of row i at moment k by at most e / 2 ^ 64
abbrev pub IsNearExact : Equations → (ℕ → ℕ → ℤ) → ℕ → ℕ → ℤ → ℤ → ℤ → Type 0
IsNearExact eqs u k i shift y e =
    let g = common eqs in
    IsNear y (exact_value eqs g u k i) (g ^ (k * eqs.rows + i + 1)) (down shift) (up shift) e
