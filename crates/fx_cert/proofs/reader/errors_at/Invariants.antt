use Rattle.std.proofs.Common.{◌≡◌, ◌-◌}
use Rattle.fx_cert.specs.Lines.{lines_of}
use Rattle.fx_cert.specs.Reading.{error_at, each_at}
use Rattle.fx_cert.proofs.Loops.{with_front}
use Rattle.fx_cert.proofs.reader.errors_at.Given as goal

abbrev pub invariant-loop-o : goal.invariant-loop-o
invariant-loop-o l = with_front l.errors.items
    (each_at (error_at l.rows l.outputs) (l.outputs - l.o) l.o (lines_of l.rest))
    ≡ each_at (error_at l.rows l.outputs) l.outputs 0 (lines_of l.bytes)
