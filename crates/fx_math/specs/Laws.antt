-- What the laws of this crate say.
use Rattle.std.specs.Prelude.{◌≡◌, ℕ, ◌-◌, ◌^◌, ◌<◌, ℤ, pos, ◌+ℤ◌, ◌*ℤ◌, ◌≤ℤ◌, ◌<ℤ◌}
use Rattle.fx_math.specs.Ratio.{Ratio, SameValue}
use Rattle.fx_math.specs.Sums.{total}
use Rattle.fx_math.specs.Unroll.{Step, ReadsEarlierRows, before, unroll}
use Rattle.fx_math.specs.Division.{floor_div, ceil_div}
use Rattle.fx_math.specs.Residue.{wrap, FitsBits}

-- the floor is the greatest whole number at or below z / n
abbrev pub FloorLaw : Type 0
FloorLaw = (z : ℤ) (n : ℕ) → 0 < n → ((floor_div z n *ℤ pos n) ≤ℤ z) × (z <ℤ (floor_div z n *ℤ pos n +ℤ pos n))

-- the ceiling is the least whole number at or above z / n
abbrev pub CeilingLaw : Type 0
CeilingLaw = (z : ℤ) (n : ℕ) → 0 < n → (z ≤ℤ (ceil_div z n *ℤ pos n)) × ((ceil_div z n *ℤ pos n) <ℤ (z +ℤ pos n))

-- a number of w bits is its own residue
abbrev pub ResidueLaw : Type 0
ResidueLaw = (w : ℕ) (z : ℤ) → 0 < w → FitsBits w z → wrap w z ≡ z

-- the residue is a number of w bits
abbrev pub ResidueRange : Type 0
ResidueRange = (w : ℕ) (z : ℤ) → 0 < w → FitsBits w (wrap w z)

-- and differs from z by a multiple of 2 ^ w
abbrev pub ResidueCongruence : Type 0
ResidueCongruence = (w : ℕ) (z : ℤ) → 0 < w → z ≡ wrap w z +ℤ floor_div (z +ℤ pos (2 ^ (w - 1))) (2 ^ w) *ℤ pos (2 ^ w)

-- ---- sums

-- sums over two ranges are taken in either order
abbrev pub SumsExchange : Type 0
SumsExchange = (n m : ℕ) (f : ℕ → ℕ → ℤ) → total n (λ i. total m (λ j. f i j)) ≡ total m (λ j. total n (λ i. f i j))

-- a factor that one range does not change is taken out of its sum
abbrev pub SumsCollect : Type 0
SumsCollect = (m n : ℕ) (f : ℕ → ℕ → ℤ) (x : ℕ → ℤ) → total m (λ k. total n (λ i. f k i *ℤ x i))
    ≡ total n (λ i. total m (λ k. f k i) *ℤ x i)

-- ---- moments

-- each row of an unrolled run is its step of the finished moment and of the one before
abbrev pub UnrolledIsItsStep : Type 0
UnrolledIsItsStep = (n : ℕ) (step : Step) → ReadsEarlierRows n step → (k i : ℕ) → i < n →
    unroll n step k i ≡ step k i (unroll n step k) (before (unroll n step) k)

-- ---- values

-- values that are the same as one are the same
abbrev pub SameValueChains : Type 0
SameValueChains = (a b c : Ratio) → 0 < b.den → SameValue a b → SameValue b c → SameValue a c
