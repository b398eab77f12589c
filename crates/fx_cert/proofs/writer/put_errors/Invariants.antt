use Rattle.std.proofs.Common.{◌≡◌, ◌++◌, drop, codes}
use Rattle.fx_cert.specs.Certificate.{numbered_each}
use Rattle.fx_cert.proofs.writer.put_errors.Given as goal

abbrev pub invariant-loop-error : goal.invariant-loop-error
invariant-loop-error l =
    l.out.items ++ numbered_each (codes "E ") (drop l.error-index l.errors)
    ≡ l.fn.out.items ++ numbered_each (codes "E ") l.errors
