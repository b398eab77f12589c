-- What is known of the values of a run in a block of moments, and what the sweep says of a target in it.
use Rattle.std.specs.Prelude.{◌≡◌, ⊤, ℕ, ◌+◌, ◌*◌, ◌^◌, ◌<◌, ◌≤◌, nat_lt, cond, ℤ, pos, ◌+ℤ◌, ◌*ℤ◌, unsigned_abs}
use Rattle.std.specs.Int.{int_min, int_max}
use Rattle.fx_math.specs.Sums.{total}
use Rattle.fx_math.specs.Unroll.{lagged}
use Rattle.fx_eqs.specs.declared.limits.TheConstants.{PORTS}
use Rattle.fx_nums.specs.Interval.{Interval}
use Rattle.fx_net.specs.Blocks.{raised}
use Rattle.fx_net.specs.Net.{Net}
use Rattle.fx_net.specs.Run.{row_time}
use Rattle.fx_sweep.specs.Target.{weights}
use Rattle.fx_sweep.specs.Weights.{inputs}
use Rattle.fx_sweep.specs.declared.target.Target.{Target}
use Rattle.fx_sweep.specs.declared.target.Target.TheVariants.{Row, Pair}
use Rattle.fx_totals.specs.Totals.{rounding, width_part, rest_part}

-- row i is at most x in magnitude at moment h
abbrev pub IsWithin : Net → ℕ → (ℕ → ℕ → ℤ) → ℕ → ℕ → ℕ → Type 0
IsWithin net q z h i x = unsigned_abs (z h i) ≤ x * q ^ (row_time net h i + 1)

-- at the last moment a row target needs bounds on the rows before it, a pair on all
abbrev pub NeedsBound : Target → ℕ → Type 0
NeedsBound (Row t) i = i < t
NeedsBound (Pair code original shift) i = ⊤

-- Bounds on the words and rows of a run in the m moments up to moment k: the words of these moments, the rows in the m
-- moments before moment k, and at moment k the rows that the target needs.
pub record IsBounded (net : Net) (target : Target) (q m k : ℕ) (u z : ℕ → ℕ → ℤ) (bounds rows : ℕ → ℕ) : Type 0 where
  pub words : (h n j : ℕ) → k ≡ h + n → n < m → j < PORTS → unsigned_abs (u h j) ≤ bounds j
  pub before : (h n i : ℕ) → k ≡ h + n → 0 < n → n ≤ m → i < net.rows → IsWithin net q z h i (rows i)
  pub at_last : (i : ℕ) → i < net.rows → NeedsBound target i → IsWithin net q z k i (rows i)

-- 2 ^ 64 times the target at moment k, over the denominator of the block that ends there
abbrev pub target_value : Net → Target → ℕ → (ℕ → ℕ → ℤ) → ℕ → ℤ
target_value net target q z k = total net.rows (λ i. weights target i *ℤ raised net q z k 0 i)

-- the lesser and the greater product of a word with the ends of an interval
abbrev pub least_product : Interval → ℤ → ℤ
least_product i u = int_min (i.lo *ℤ u) (i.hi *ℤ u)

abbrev pub greatest_product : Interval → ℤ → ℤ
greatest_product i u = int_max (i.lo *ℤ u) (i.hi *ℤ u)

-- the sums of these over the words of the m moments up to moment k, with moment n of the sweep n moments before it
abbrev pub least_sum : Net → (ℕ → Interval) → ℕ → ℕ → (ℕ → ℕ → ℤ) → ℤ
least_sum net start m k u = total m (λ n. total PORTS (λ j. least_product (inputs net start n j) (lagged u k n j)))

abbrev pub greatest_sum : Net → (ℕ → Interval) → ℕ → ℕ → (ℕ → ℕ → ℤ) → ℤ
greatest_sum net start m k u =
    total m (λ n. total PORTS (λ j. greatest_product (inputs net start n j) (lagged u k n j)))

-- what else may add to the target: roundings, what was cut off, and what lies before the block, where something does
abbrev pub slack : Net → (ℕ → Interval) → ℕ → ℕ → (ℕ → ℕ) → ℤ
slack net start m k rows =
    rounding net start m +ℤ width_part net start m rows +ℤ cond (nat_lt k m) (pos 0) (rest_part net start m rows)
