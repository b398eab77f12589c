use Rattle.std.proofs.Common.{◌≡◌, ℕ, ◌<◌}
use Rattle.fx_sweep.specs.Swept.{interval_in}
use Rattle.fx_sweep.proofs.repeating.are_same.Given as goal

abbrev pub invariant-loop-i : goal.invariant-loop-i
invariant-loop-i l = (k : ℕ) → k < l.i → interval_in l.a k ≡ interval_in l.b k
