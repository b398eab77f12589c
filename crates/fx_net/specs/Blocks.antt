-- The last moments of a run over one denominator.
use Rattle.std.specs.Prelude.{◌≡◌, ℕ, suc, ◌+◌, ◌-◌, ◌*◌, ◌^◌, ◌<◌, ◌≤◌, ℤ, pos, ◌+ℤ◌, ◌*ℤ◌, unsigned_abs}
use Rattle.fx_math.specs.Sums.{total}
use Rattle.fx_math.specs.Unroll.{before, lagged}
use Rattle.fx_nums.specs.Fraction.{over}
use Rattle.fx_eqs.specs.declared.limits.TheConstants.{PORTS}
use Rattle.fx_net.specs.Net.{Net}
use Rattle.fx_net.specs.Run.{IsRun, row_time}

-- the denominator of the block that ends with moment k
abbrev pub block_den : Net → ℕ → ℕ → ℕ
block_den net q k = q ^ (suc k * net.rows)

-- the power of q that brings row i, n moments before the last, to it
abbrev pub raise : Net → ℕ → ℕ → ℕ → ℕ
raise net q n i = q ^ (n * net.rows + (net.rows - (i + 1)))

-- row i, n moments before moment k, over the denominator of the block
abbrev pub raised : Net → ℕ → (ℕ → ℕ → ℤ) → ℕ → ℕ → ℕ → ℤ
raised net q z k n i = lagged z k n i *ℤ pos (raise net q n i)

-- what row i reads of values that have one denominator
abbrev pub reads : Net → ℕ → ℕ → (ℕ → ℤ) → (ℕ → ℤ) → (ℕ → ℤ) → ℤ
reads net q i now old u =
    total i (λ j. over q (net.now i j) *ℤ now j)
    +ℤ total net.rows (λ j. over q (net.old i j) *ℤ old j)
    +ℤ total PORTS (λ j. over q (net.input i j) *ℤ u j)

-- Rows seen backwards from a last moment, v n i being row i, n moments before it, all over one denominator: each row
-- has what it reads and its perturbation, at all moments, also those before the first.
pub record IsBlock (net : Net) (q den : ℕ) (v u perturbations : ℕ → ℕ → ℤ) : Type 0 where
  pub row : (n i : ℕ) → i < net.rows →
      pos q *ℤ v n i ≡ reads net q i (v n) (v (suc n)) (λ j. u n j *ℤ pos den) +ℤ pos q *ℤ perturbations n i

-- the row of a run, brought to the denominator of a block that ends n moments after it
abbrev pub RowsAreLifted : Type 0
RowsAreLifted =
    (net : Net) (q : ℕ) (u z perturbations : ℕ → ℕ → ℤ) → IsRun net q u z perturbations → (h n i : ℕ) → i < net.rows →
    pos q *ℤ (z h i *ℤ pos (raise net q n i))
    ≡ reads net q i (λ j. z h j *ℤ pos (raise net q n j)) (λ j. before z h j *ℤ pos (raise net q (suc n) j))
    (λ j. u h j *ℤ pos (block_den net q (h + n)))
    +ℤ pos q *ℤ (perturbations h i *ℤ pos (raise net q n i))

-- the moments of a run up to moment k are a block
abbrev pub RunsAreBlocks : Type 0
RunsAreBlocks =
    (net : Net) (q : ℕ) (u z perturbations : ℕ → ℕ → ℤ) → IsRun net q u z perturbations → (k : ℕ) →
    IsBlock net q (block_den net q k) (raised net q z k) (lagged u k) (raised net q perturbations k)

-- what bounds c times row i at each moment of a run bounds it in the block
abbrev pub BoundsAreRaised : Type 0
BoundsAreRaised =
    (net : Net) (q c x : ℕ) (z : ℕ → ℕ → ℤ) (k n i : ℕ) → i < net.rows →
    ((h : ℕ) → k ≡ h + n → c * unsigned_abs (z h i) ≤ x * q ^ (row_time net h i + 1)) →
    c * unsigned_abs (raised net q z k n i) ≤ x * block_den net q k

-- and what bounds an input at each moment bounds it before
abbrev pub BoundsHoldBefore : Type 0
BoundsHoldBefore = (u : ℕ → ℕ → ℤ) (k n j bound : ℕ) → ((h : ℕ) → unsigned_abs (u h j) ≤ bound) →
    unsigned_abs (lagged u k n j) ≤ bound
