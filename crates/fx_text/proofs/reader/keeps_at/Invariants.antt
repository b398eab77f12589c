use Rattle.std.proofs.Common.{◌≡◌, ◌≤◌, ◌-◌, length}
use Rattle.fx_text.specs.TokenReading.{repeated}
use Rattle.fx_text.specs.Reading.{keep_more}
use Rattle.fx_text.proofs.reader.keeps_at.Given as goal

abbrev pub invariant-loop-row : goal.invariant-loop-row
invariant-loop-row l = record {
  within : l.at ≤ length l.text;
  so_far : repeated (l.rows - l.row) (keep_more l.text) (l.row, l.at) ≡ repeated l.rows (keep_more l.text) (0, l.start);
}
