use Rattle.std.proofs.Common.{◌≡◌, drop, take, All}
use Rattle.fx_files.specs.Fits.{EntryAgrees}
use Rattle.fx_files.specs.Ports.{outputs_fit}
use Rattle.fx_files.proofs.ports.outputs_fit.Given as goal

abbrev pub invariant-loop-output : goal.invariant-loop-output
invariant-loop-output l = record {
  reads : outputs_fit l.inputs.low l.accumulator (drop l.output-index l.outputs)
      ≡ outputs_fit l.inputs.low l.accumulator l.outputs;
  within : All (EntryAgrees l.inputs.low l.accumulator) (take l.output-index l.outputs);
}
