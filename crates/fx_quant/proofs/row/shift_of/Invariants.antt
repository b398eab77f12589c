use Rattle.std.proofs.Common.{◌≡◌, max, drop}
use Rattle.fx_quant.specs.Rows.{shift_of}
use Rattle.fx_quant.proofs.row.shift_of.Given as goal

abbrev pub invariant-loop-term : goal.invariant-loop-term
invariant-loop-term l = max l.shift (shift_of (drop l.term-index l.terms)) ≡ shift_of l.terms
