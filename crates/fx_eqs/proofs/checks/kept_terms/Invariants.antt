use Rattle.std.proofs.Common.{◌≡◌, ◌++◌, drop, filter}
use Rattle.fx_eqs.specs.Equations.{is_kept}
use Rattle.fx_eqs.proofs.checks.kept_terms.Given as goal

abbrev pub invariant-loop-term : goal.invariant-loop-term
invariant-loop-term l = l.kept.items ++ filter is_kept (drop l.term-index l.terms) ≡ filter is_kept l.terms
