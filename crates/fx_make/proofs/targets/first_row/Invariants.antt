use Rattle.std.proofs.Common.{◌≡◌, ◌≤◌, ◌*◌}
use Rattle.fx_eqs.specs.Expanded.{input_hold_place}
use Rattle.fx_eqs.specs.declared.limits.TheConstants.{LONGEST_LAG}
use Rattle.fx_make.proofs.targets.first_row.Given as goal

abbrev pub invariant-loop-j : goal.invariant-loop-j
invariant-loop-j l = record { next : l.next ≡ input_hold_place l.eqs l.j; high : l.next ≤ LONGEST_LAG * l.j }
