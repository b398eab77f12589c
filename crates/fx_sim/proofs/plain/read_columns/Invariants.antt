use Rattle.std.proofs.Common.{◌≡◌, length}
use Rattle.fx_sim.proofs.PlainLines.{ColumnsRead}
use Rattle.fx_sim.proofs.plain.read_columns.Given as goal

abbrev pub invariant-loop-j : goal.invariant-loop-j
invariant-loop-j l = record {
  places : length l.input ≡ length l.program.inputs;
  read : ColumnsRead l.program.inputs l.line l.input l.j l.rest;
}
