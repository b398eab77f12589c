use Rattle.std.proofs.Common.{◌≡◌, length}
use Rattle.csv.specs.Reading.{default_config, records, strip_bom}
use Rattle.fx_sim.specs.Between.{StandsBetween}
use Rattle.fx_sim.proofs.simulation.run_plain_lines.Given as goal

abbrev pub decreases-loop-behind : goal.decreases-loop-behind
decreases-loop-behind l = length l.rest

abbrev pub invariant-loop-behind : goal.invariant-loop-behind
invariant-loop-behind l = record {
  input : length l.input ≡ length l.program.inputs;
  output : length l.output ≡ length l.program.outputs;
  between : StandsBetween l.program l.samples l.machine (records default_config (strip_bom l.rest)) l.number l.lines;
}
