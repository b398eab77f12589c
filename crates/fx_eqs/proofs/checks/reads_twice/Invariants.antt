use Rattle.std.proofs.Common.{◌≡◌, drop, filter}
use Rattle.std.specs.List.{list_any}
use Rattle.fx_eqs.specs.Equations.{is_kept}
use Rattle.fx_eqs.specs.Faults.{is_same_read}
use Rattle.fx_eqs.proofs.checks.reads_twice.Given as goal

abbrev pub invariant-loop-other : goal.invariant-loop-other
invariant-loop-other l = list_any (is_same_read l.term) (filter is_kept (drop l.other-index l.earlier))
    ≡ list_any (is_same_read l.term) (filter is_kept l.earlier)
