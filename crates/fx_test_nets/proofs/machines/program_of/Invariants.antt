use Rattle.std.proofs.Common.{◌≡◌, [], ◌∷◌}
use Rattle.fx_test_nets.proofs.machines.program_of.Given as goal

abbrev pub invariant-loop-row : goal.invariant-loop-row
invariant-loop-row l = record { inputs : l.program.inputs ≡ 16 ∷ []; outputs : l.program.outputs ≡ [] }
