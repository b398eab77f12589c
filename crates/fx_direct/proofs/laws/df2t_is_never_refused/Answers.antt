use Rattle.fx_direct.proofs.NeverRefused.{df2t_never_refused}
use Rattle.fx_direct.proofs.laws.df2t_is_never_refused.Goals as goal

pub returns : goal.returns
returns c =
    df2t_never_refused c.args.b.now c.args.a.now c.requires.numerator_low c.requires.numerator_high
    c.requires.denominator_low c.requires.denominator_high c.what_fits_has_no_fault.ensures
