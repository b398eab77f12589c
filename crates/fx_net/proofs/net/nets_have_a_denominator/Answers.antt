use Rattle.fx_net.proofs.Widest.{whole_over_widest}
use Rattle.fx_net.proofs.net.nets_have_a_denominator.Goals as goal

pub returns : goal.returns
returns g c = rw (← c.net.view_is) (whole_over_widest _ c.net.invariant)
