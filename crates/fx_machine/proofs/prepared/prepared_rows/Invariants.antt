use Rattle.std.proofs.Common.{◌≡◌, map, take}
use Rattle.fx_machine.specs.Prepared.{plan_of, plan_for}
use Rattle.fx_machine.proofs.prepared.prepared_rows.Given as goal

abbrev pub invariant-loop-i : goal.invariant-loop-i
invariant-loop-i l = map plan_of l.rows.items ≡ map (plan_for l.program) (take l.i l.program.rows)
