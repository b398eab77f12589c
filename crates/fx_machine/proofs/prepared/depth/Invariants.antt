use Rattle.std.proofs.Common.{◌≡◌, ◌+◌, ◌*◌, ◌^◌, ◌≤◌, drop}
use Rattle.fx_machine.specs.Prepared.{depth}
use Rattle.fx_machine.proofs.prepared.depth.Given as goal

abbrev pub invariant-loop-term : goal.invariant-loop-term
invariant-loop-term l =
    (l.sum + depth l.program (drop l.term-index l.term-items) ≡ depth l.program l.term-items)
    × (l.sum ≤ l.term-index * 2 ^ 93)
