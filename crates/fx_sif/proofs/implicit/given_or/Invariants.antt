use Rattle.std.proofs.Common.{◌≡◌, drop}
use Rattle.fx_sif.specs.Implicit.{given_or}
use Rattle.fx_sif.proofs.implicit.given_or.Given as goal

abbrev pub invariant-loop-entry : goal.invariant-loop-entry
invariant-loop-entry l = given_or l.missing l.block l.i l.j (drop l.entry-index l.entries)
    ≡ given_or l.missing l.block l.i l.j l.entries
