use Rattle.std.proofs.Common.{◌≡◌, map, take}
use Rattle.fx_machine.specs.Prepared.{word_in}
use Rattle.fx_machine.proofs.moment.put_out.Given as goal

abbrev pub invariant-loop-o : goal.invariant-loop-o
invariant-loop-o l = take l.o l.output ≡ map (word_in l.words) (take l.o l.outputs)
