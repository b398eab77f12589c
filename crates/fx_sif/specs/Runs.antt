-- The runs of an implicit form alone.
use Rattle.std.specs.Prelude.{◌≡◌, ℕ, ◌+◌, ◌-◌, ◌*◌, ◌^◌, ◌<◌, All, ℤ, pos, ◌+ℤ◌, ◌*ℤ◌, List, [], ◌∷◌}
use Rattle.fx_math.specs.Unroll.{before}
use Rattle.fx_nums.specs.Fraction.{over, IsWholeOver}
use Rattle.fx_eqs.specs.Expanded.{NetRead, NetTerm}
use Rattle.fx_eqs.specs.Expanded.NetRead.{Now, Old, In}
use Rattle.fx_net.specs.Net.{plain}
use Rattle.fx_net.specs.Run.{IsDenominator, IsRun}
use Rattle.fx_sif.specs.Implicit.{Implicit, rows}
use Rattle.fx_sif.specs.Rows.{net_row}
use Rattle.fx_sif.specs.SameOutputs.{net_alone}

-- what row r of n reads at moment k, over the denominator that comes before this row's
abbrev pub read_value : ℕ → ℕ → (ℕ → ℕ → ℤ) → (ℕ → ℕ → ℤ) → ℕ → ℕ → NetRead → ℤ
read_value n q u z k r (Now j) = z k j *ℤ pos (q ^ (r - j - 1))
read_value n q u z k r (Old j) = before z k j *ℤ pos (q ^ (n + r - j - 1))
read_value n q u z k r (In j) = u k j *ℤ pos (q ^ (k * n + r))

-- the sum of its terms
abbrev pub terms_value : ℕ → ℕ → (ℕ → ℕ → ℤ) → (ℕ → ℕ → ℤ) → ℕ → ℕ → List NetTerm → ℤ
terms_value n q u z k r [] = pos 0
terms_value n q u z k r (t ∷ ts) = over q t.coef *ℤ read_value n q u z k r t.from +ℤ terms_value n q u z k r ts

-- in each run without perturbation, each row is the sum of its terms at each moment
abbrev pub RunsAreSums : Implicit → Type 0
RunsAreSums f =
    (q : ℕ) (u z : ℕ → ℕ → ℤ) → IsRun (net_alone f) q u z (λ k i. pos 0) →
    (k r : ℕ) → r < rows f.sizes → z k r ≡ terms_value (rows f.sizes) q u z k r (net_row f.sizes f.entries r)

-- a denominator of the net is one of each row's terms; that of a coefficient of value 0 does not count
abbrev pub DenominatorsDivide : Implicit → Type 0
DenominatorsDivide f =
    (q : ℕ) → IsDenominator (net_alone f) q → (r : ℕ) → r < rows f.sizes →
    All (λ (t : NetTerm). IsWholeOver q (plain t.coef)) (net_row f.sizes f.entries r)
