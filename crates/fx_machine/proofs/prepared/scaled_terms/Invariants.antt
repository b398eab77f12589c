use Rattle.std.proofs.Common.{◌≡◌, map, take}
use Rattle.fx_machine.specs.Prepared.{scaled}
use Rattle.fx_machine.proofs.prepared.scaled_terms.Given as goal

abbrev pub invariant-loop-term : goal.invariant-loop-term
invariant-loop-term l = l.terms.items ≡ map scaled (take l.term-index l.term-items)
