use Rattle.std.proofs.Common.{◌≡◌, length}
use Rattle.fx_sim.specs.Between.{StandsBetween}
use Rattle.fx_sim.specs.Remaining.{Stands, records_left}
use Rattle.fx_sim.proofs.simulation.simulate.Given as goal

abbrev pub decreases-loop-reader : goal.decreases-loop-reader
decreases-loop-reader l = length (records_left l.reader)

abbrev pub invariant-loop-reader : goal.invariant-loop-reader
invariant-loop-reader l = record {
  input : length l.input ≡ length l.program.inputs;
  output : length l.output ≡ length l.program.outputs;
  stands : Stands l.reader;
  between : StandsBetween l.program l.samples l.machine (records_left l.reader) l.number l.lines;
}
