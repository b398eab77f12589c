use Rattle.std.proofs.Common.{◌≡◌, ◌+◌, ◌*◌, ◌^◌, ◌≤◌, drop}
use Rattle.fx_machine.specs.Prepared.{greatest}
use Rattle.fx_machine.proofs.prepared.greatest.Given as goal

abbrev pub invariant-loop-term : goal.invariant-loop-term
invariant-loop-term l =
    (l.sum + greatest l.program (drop l.term-index l.term-items) ≡ greatest l.program l.term-items)
    × (l.sum ≤ l.term-index * 2 ^ 93)
