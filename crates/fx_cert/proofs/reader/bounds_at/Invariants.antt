use Rattle.std.proofs.Common.{◌≡◌, ◌-◌, length}
use Rattle.fx_cert.specs.Lines.{lines_of}
use Rattle.fx_cert.specs.Reading.{bound_at, each_at}
use Rattle.fx_cert.proofs.Loops.{with_front}
use Rattle.fx_cert.proofs.reader.bounds_at.Given as goal

abbrev pub invariant-loop-i : goal.invariant-loop-i
invariant-loop-i l = record {
  count : length l.bounds.items ≡ l.i;
  goes_on : with_front l.bounds.items (each_at (bound_at l.rows) (l.rows - l.i) l.i (lines_of l.rest))
      ≡ each_at (bound_at l.rows) l.rows 0 (lines_of l.bytes);
}
