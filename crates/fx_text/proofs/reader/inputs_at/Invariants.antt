use Rattle.std.proofs.Common.{◌≡◌, ◌≤◌, ◌-◌, [], length}
use Rattle.fx_text.specs.TokenReading.{repeated}
use Rattle.fx_text.specs.Reading.{input_more}
use Rattle.fx_text.proofs.reader.inputs_at.Given as goal

abbrev pub invariant-loop : goal.invariant-loop
invariant-loop l = record {
  within : l.at ≤ length l.text;
  same_count : length l.widths.items ≡ l.counter;
  so_far : repeated (l.count - l.counter) (input_more l.text) (l.widths.items, l.at)
      ≡ repeated l.count (input_more l.text) ([], l.start);
}
