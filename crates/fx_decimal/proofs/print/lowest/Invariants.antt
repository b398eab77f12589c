use Rattle.std.proofs.Common.{◌≡◌, ◌≤◌}
use Rattle.fx_decimal.specs.Printed.{lowest}
use Rattle.fx_decimal.proofs.print.lowest.Given as goal

abbrev pub invariant-loop-places : goal.invariant-loop-places
invariant-loop-places l =
    record { value : lowest l.number l.places ≡ lowest l.fn.number l.fn.places; fewer : l.places ≤ l.fn.places }

abbrev pub decreases-loop-places : goal.decreases-loop-places
decreases-loop-places l = l.places
