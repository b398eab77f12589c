use Rattle.std.proofs.Common.{◌≡◌, ◌+◌, ◌*◌, ◌^◌, ◌≤◌, drop}
use Rattle.fx_machine.specs.Prepared.{height}
use Rattle.fx_machine.proofs.prepared.height.Given as goal

abbrev pub invariant-loop-term : goal.invariant-loop-term
invariant-loop-term l =
    (l.sum + height l.program (drop l.term-index l.term-items) ≡ height l.program l.term-items)
    × (l.sum ≤ l.term-index * 2 ^ 93)
