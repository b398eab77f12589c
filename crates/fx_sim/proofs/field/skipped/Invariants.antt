use Rattle.std.proofs.Common.{◌≡◌, drop}
use Rattle.fx_sim.specs.Fields.{skipped}
use Rattle.fx_sim.proofs.field.skipped.Given as goal

abbrev pub invariant-loop-i : goal.invariant-loop-i
invariant-loop-i l = skipped (drop l.i l.bytes) ≡ skipped l.bytes
