use Rattle.fx_mat.proofs.IntervalPlaces.{zero_outside}
use Rattle.fx_mat.proofs.intervals.intervals_outside_are_zero.Goals as goal

pub returns : goal.returns
returns g c = zero_outside g.row.R g.row.C c.m.inside.items.items c.args.m.now c.m.view_is
