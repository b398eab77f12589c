use Rattle.std.proofs.Common.{◌≡◌, take, drop}
use Rattle.fx_cert.specs.Lines.{lines_of}
use Rattle.fx_cert.proofs.Loops.{with_line}
use Rattle.fx_cert.proofs.lines.first_line.Given as goal

abbrev pub invariant-loop-i : goal.invariant-loop-i
invariant-loop-i l = with_line (take l.i l.bytes) (lines_of (drop l.i l.bytes)) ≡ lines_of l.bytes
