use Rattle.std.proofs.Common.{◌≡◌, ◌≤◌, ◌-◌, length}
use Rattle.fx_text.specs.TokenReading.{repeated}
use Rattle.fx_text.specs.Reading.{row_more}
use Rattle.fx_text.proofs.reader.rows_at.Given as goal

abbrev pub invariant-loop : goal.invariant-loop
invariant-loop l = record {
  within : l.at ≤ length l.text;
  so_far : repeated (l.rows - l.counter) (row_more l.rows l.text) (l.program, l.at)
      ≡ repeated l.rows (row_more l.rows l.text) (l.fn.program, l.start);
}
