-- A read that a signal interrupted took no byte.
use Rattle.std.specs.Io.KnownBytes.{Keeps}
use Rattle.fx_io.proofs.opened.read_again.Given as goal

abbrev pub invariant-loop : goal.invariant-loop
invariant-loop g l = Keeps (g.F.Read.remaining l.initial.file) (g.F.Read.remaining l.file)
