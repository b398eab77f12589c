use Rattle.std.proofs.Common.{◌≡◌, [], take, drop}
use Rattle.fx_code.specs.Limits.{terms_fault}
use Rattle.fx_code.proofs.checks.terms_fault.Given as goal

abbrev pub invariant-loop-i : goal.invariant-loop-i
invariant-loop-i l = terms_fault l.n l.inputs l.shift (take l.i l.terms) (drop l.i l.terms)
    ≡ terms_fault l.n l.inputs l.shift [] l.terms
