-- What the laws of this crate say.
use Rattle.std.specs.Prelude.{◌≡◌, ℕ, ◌<◌, ℤ, pos, ◌+ℤ◌, ◌-ℤ◌, ◌*ℤ◌, ◌≤ℤ◌, unsigned_abs}
use Rattle.fx_net.specs.Blocks.{block_den, raised}
use Rattle.fx_net.specs.Net.{Net}
use Rattle.fx_net.specs.Run.{IsDenominator, IsRun}
use Rattle.fx_sweep.specs.Target.{TargetFits, one, power, start_of}
use Rattle.fx_sweep.specs.declared.target.Target.{Target}
use Rattle.fx_sweep.specs.declared.target.Target.TheVariants.{Row, Pair}
use Rattle.fx_totals.specs.Bounds.{IsBounded, target_value, least_sum, greatest_sum, slack}
use Rattle.fx_totals.specs.Totals.{target_total}

-- the target lies between the least and the greatest sum of the words, less and more the slack
pub record IsBetween (net : Net) (target : Target) (q m k : ℕ) (u z : ℕ → ℕ → ℤ) (rows : ℕ → ℕ) : Type 0 where
  pub least : (pos (block_den net q k) *ℤ
      (least_sum net (start_of target) m k u -ℤ slack net (start_of target) m k rows)) ≤ℤ target_value net target
      q z k
  pub greatest : target_value net target q z k ≤ℤ
      (pos (block_den net q k) *ℤ
      (greatest_sum net (start_of target) m k u +ℤ slack net (start_of target) m k rows))

-- so it is in each run with perturbations, whatever the net, its denominator, the moment and the bounds
abbrev pub TargetsLieBetween : Type 0
TargetsLieBetween =
    (net : Net) (target : Target) (q m k : ℕ) (u z perturbations : ℕ → ℕ → ℤ) (bounds rows : ℕ → ℕ) →
    TargetFits net.rows target → IsDenominator net q → IsRun net q u z perturbations → 0 < m →
    IsBounded net target q m k u z bounds rows → IsBetween net target q m k u z rows

-- the magnitude of the target is at most its total
abbrev pub TotalsBound : Type 0
TotalsBound =
    (net : Net) (target : Target) (q m k : ℕ) (u z perturbations : ℕ → ℕ → ℤ) (bounds rows : ℕ → ℕ) →
    TargetFits net.rows target → IsDenominator net q → IsRun net q u z perturbations → 0 < m →
    IsBounded net target q m k u z bounds rows →
    pos (unsigned_abs (target_value net target q z k)) ≤ℤ
    (pos (block_den net q k) *ℤ target_total net (start_of target) m bounds rows)

-- the value of a target by its rows
abbrev pub RowTargets : Type 0
RowTargets = (net : Net) (q : ℕ) (z : ℕ → ℕ → ℤ) (k t : ℕ) → t < net.rows →
    target_value net (Row t) q z k ≡ one *ℤ raised net q z k 0 t

abbrev pub PairTargets : Type 0
PairTargets =
    (net : Net) (q : ℕ) (z : ℕ → ℕ → ℤ) (k code original : ℕ) (shift : ℤ) → code < net.rows → original < net.rows →
    target_value net (Pair code original shift) q z k
    ≡ one *ℤ raised net q z k 0 code -ℤ power shift *ℤ raised net q z k 0 original
