use Rattle.std.proofs.Common.{◌≡◌, ◌++◌, drop, codes}
use Rattle.fx_cert.specs.Certificate.{numbered_each}
use Rattle.fx_cert.proofs.writer.put_bounds.Given as goal

abbrev pub invariant-loop-bound : goal.invariant-loop-bound
invariant-loop-bound l =
    l.out.items ++ numbered_each (codes "X ") (drop l.bound-index l.bounds)
    ≡ l.fn.out.items ++ numbered_each (codes "X ") l.bounds
