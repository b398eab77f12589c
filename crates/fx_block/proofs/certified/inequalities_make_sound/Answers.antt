use Rattle.std.proofs.Common.{subst}
use Rattle.fx_eqs.specs.Fits.{EquationsFit}
use Rattle.fx_block.proofs.Passing.{original_stays_within, passing_is_sound}
use Rattle.fx_block.proofs.certified.inequalities_make_sound.Goals as goal

pub returns-clause-sound : goal.returns-clause-sound
returns-clause-sound c =
    passing_is_sound c.args.filter.now c.args.program.now c.args.certificate.now c.filters_fit.ensures
    (subst EquationsFit c.eqs.ensures.value c.systems_fit.ensures)
    c.programs_fit.ensures c.certificates_fit.ensures c.bounds_make_near.ensures.exact c.bounds_make_near.ensures.near

pub returns-clause-original : goal.returns-clause-original
returns-clause-original c =
    original_stays_within c.args.filter.now c.args.program.now c.args.certificate.now c.filters_fit.ensures
    (subst EquationsFit c.eqs.ensures.value c.systems_fit.ensures)
    c.programs_fit.ensures c.certificates_fit.ensures c.bounds_make_near.ensures.original
