use Rattle.std.proofs.Common.{◌≡◌, ◌++◌, take}
use Rattle.fx_quant.proofs.form.add_outputs.Given as goal

abbrev pub invariant-loop-o : goal.invariant-loop-o
invariant-loop-o l = l.lows.items ≡ l.fn.lows.items ++ take l.o l.formats.lows
