use Rattle.std.proofs.Common.{◌≡◌, ◌++◌, drop}
use Rattle.fx_files.specs.Building.{with_rows}
use Rattle.fx_files.proofs.building.with_rows.Given as goal

abbrev pub invariant-loop-j : goal.invariant-loop-j
invariant-loop-j l = l.outputs.items ++ with_rows (drop l.j l.rows) (drop l.j l.entries) ≡ with_rows l.rows l.entries
