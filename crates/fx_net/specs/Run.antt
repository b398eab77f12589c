-- Values of a net over a common denominator that grows with each row.
use Rattle.std.specs.Prelude.{◌≡◌, ℕ, ◌+◌, ◌-◌, ◌*◌, ◌^◌, ◌<◌, ◌≤◌, ℤ, pos, ◌+ℤ◌, ◌*ℤ◌, unsigned_abs}
use Rattle.fx_math.specs.Ratio.{Ratio}
use Rattle.fx_math.specs.Sums.{total}
use Rattle.fx_math.specs.Unroll.{before}
use Rattle.fx_nums.specs.Fraction.{over, IsWholeOver}
use Rattle.fx_eqs.specs.declared.limits.TheConstants.{PORTS}
use Rattle.fx_net.specs.Net.{Net}

-- q is positive, and the denominator of each coefficient divides it
pub record IsDenominator (net : Net) (q : ℕ) : Type 0 where
  pub positive : 0 < q
  pub now : (i j : ℕ) → i < net.rows → j < i → IsWholeOver q (net.now i j)
  pub old : (i j : ℕ) → i < net.rows → j < net.rows → IsWholeOver q (net.old i j)
  pub input : (i j : ℕ) → i < net.rows → j < PORTS → IsWholeOver q (net.input i j)

-- the count of rows that come before row i of moment k
abbrev pub row_time : Net → ℕ → ℕ → ℕ
row_time net k i = k * net.rows + i

-- the value of row i at moment k, where z has it as a whole number over a power of q
abbrev pub net_value : Net → ℕ → (ℕ → ℕ → ℤ) → ℕ → ℕ → Ratio
net_value net q z k i = record { num = z k i; den = q ^ (row_time net k i + 1) }

-- u k j is the word of input j. What row i reads at moment k, over q ^ (its row time + 1), of the values of this moment
-- and of the one before.
abbrev pub row_reads : Net → ℕ → (ℕ → ℕ → ℤ) → ℕ → ℕ → (ℕ → ℤ) → (ℕ → ℤ) → ℤ
row_reads net q u k i now old =
    total i (λ j. over q (net.now i j) *ℤ now j *ℤ pos (q ^ (i - j - 1)))
    +ℤ total net.rows (λ j. over q (net.old i j) *ℤ old j *ℤ pos (q ^ (net.rows + i - j - 1)))
    +ℤ total PORTS (λ j. over q (net.input i j) *ℤ u k j *ℤ pos (q ^ row_time net k i))

-- the same, of the values of all moments
unfoldable pub row_sum : Net → ℕ → (ℕ → ℕ → ℤ) → (ℕ → ℕ → ℤ) → ℕ → ℕ → ℤ
row_sum net q u z k i = row_reads net q u k i (z k) (before z k)

-- each row has what it reads and a perturbation of at most so many half steps as its class says
pub record IsRun (net : Net) (q : ℕ) (u z perturbations : ℕ → ℕ → ℤ) : Type 0 where
  pub row : (k i : ℕ) → i < net.rows → z k i ≡ row_sum net q u z k i +ℤ perturbations k i
  pub small : (k i : ℕ) → i < net.rows → 2 * unsigned_abs (perturbations k i) ≤ net.class i * q ^ (row_time net k i + 1)
