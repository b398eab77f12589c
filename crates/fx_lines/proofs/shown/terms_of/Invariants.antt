use Rattle.std.proofs.Common.{◌≡◌, ◌++◌, drop}
use Rattle.fx_lines.specs.Filter.{terms_of}
use Rattle.fx_lines.proofs.shown.terms_of.Given as goal

abbrev pub invariant-loop-term : goal.invariant-loop-term
invariant-loop-term l = l.kept.items ++ terms_of l.row (drop l.term-index l.terms) ≡ terms_of l.row l.terms
