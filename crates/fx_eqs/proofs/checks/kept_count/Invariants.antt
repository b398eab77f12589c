use Rattle.std.proofs.Common.{◌≡◌, ◌≤◌, ◌+◌, length, drop, filter}
use Rattle.fx_eqs.specs.Equations.{is_kept}
use Rattle.fx_eqs.proofs.checks.kept_count.Given as goal

abbrev pub invariant-loop-term : goal.invariant-loop-term
invariant-loop-term l = (l.count + length (filter is_kept (drop l.term-index l.terms))
    ≡ length (filter is_kept l.terms)) × (l.count ≤ l.term-index)
