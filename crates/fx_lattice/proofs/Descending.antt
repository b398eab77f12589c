-- Step-down from one order to the one below it.
use Rattle.std.proofs.Common.{◌≡◌, ℕ, zero, suc, ◌-◌, List, Result, Ok, refl, arith}
use Rattle.fx_math.specs.Faults.{◌>>=◌, or_fault, unless}
use Rattle.fx_nums.specs.Interval.{Interval}
use Rattle.fx_lattice.specs.Lattice.{Lattice, at}
use Rattle.fx_lattice.specs.Operations.{is_below_one}
use Rattle.fx_lattice.specs.StepDown.{behind, down, lower_denominator, lower_numerator, with_rung}
use Rattle.fx_lattice.specs.declared.refusal.Step.{Step}
use Rattle.fx_lattice.specs.declared.refusal.Step.TheVariants.{NotBelowOne, Range}

-- what follows a step of order i
abbrev pub step_of : ℕ → List Interval → List Interval → Result Lattice Step
step_of i a b =
    unless (NotBelowOne i (behind a i)) (is_below_one (behind a i)) >>= λ below_one.
    or_fault (Range i) (lower_denominator i a) >>= λ lower.
    or_fault (Range i) (lower_numerator i a b) >>= λ upper.
    down (i - 1) lower upper >>= λ l.
    Ok (with_rung (behind a i) (at b i) l)

pub down_is : (i : ℕ) (a b : List Interval) → ¬ (i ≡ 0) → down i a b ≡ step_of i a b
down_is zero a b h = absurd (h refl)
down_is (suc m) a b h = let e : suc m - 1 ≡ m = omega arith in rw e refl
