use Rattle.std.proofs.Common.{◌≡◌, length}
use Rattle.fx_quant.specs.Design.{last_places}
use Rattle.fx_quant.proofs.program.add_outputs.Given as goal

abbrev pub invariant-loop-o : goal.invariant-loop-o
invariant-loop-o l =
    l.program ≡ record l.fn.program { outputs = last_places (length l.fn.program.rows) l.outputs l.o }
