use Rattle.std.proofs.Common.{◌≡◌, [], take, drop}
use Rattle.fx_eqs.specs.Faults.{terms_fault}
use Rattle.fx_eqs.proofs.checks.terms_fault.Given as goal

abbrev pub invariant-loop-i : goal.invariant-loop-i
invariant-loop-i l = terms_fault l.rows l.inputs (take l.i l.terms) (drop l.i l.terms)
    ≡ terms_fault l.rows l.inputs [] l.terms
