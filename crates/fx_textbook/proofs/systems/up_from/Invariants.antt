use Rattle.std.proofs.Common.{◌≡◌}
use Rattle.fx_eqs.specs.Textbook.{up_from}
use Rattle.fx_textbook.proofs.systems.up_from.Given as goal

abbrev pub invariant-loop-i : goal.invariant-loop-i
invariant-loop-i l = l.numbers.items ≡ up_from l.first l.i
