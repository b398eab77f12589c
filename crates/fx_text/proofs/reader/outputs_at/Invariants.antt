use Rattle.std.proofs.Common.{◌≡◌, ◌≤◌, ◌-◌, length}
use Rattle.fx_text.specs.TokenReading.{repeated}
use Rattle.fx_text.specs.Reading.{output_more}
use Rattle.fx_text.proofs.reader.outputs_at.Given as goal

abbrev pub invariant-loop : goal.invariant-loop
invariant-loop l = record {
  within : l.at ≤ length l.text;
  so_far : repeated (l.count - l.counter) (output_more l.text) (l.program, l.at)
      ≡ repeated l.count (output_more l.text) (l.fn.program, l.start);
}
