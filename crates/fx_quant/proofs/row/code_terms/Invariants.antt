use Rattle.std.proofs.Common.{◌≡◌, map, take}
use Rattle.fx_quant.specs.Rows.{code_term}
use Rattle.fx_quant.proofs.row.code_terms.Given as goal

abbrev pub invariant-loop-term : goal.invariant-loop-term
invariant-loop-term l = l.list.items ≡ map (code_term l.shift) (take l.term-index l.terms)
