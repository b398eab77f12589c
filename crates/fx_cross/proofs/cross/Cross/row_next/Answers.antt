use Rattle.std.proofs.Common.{◌+◌}
use Rattle.fx_cross.proofs.Walks.{right_entry, right_again}
use Rattle.fx_cross.proofs.cross.Cross.row_next.Goals as goal

pub along-requires : goal.along-requires
along-requires c = (
  c.args.i,
  c.requires.place.0 + 1,
  right_entry _ _ _ _ _ _ _ _ c.self.invariant c.self.view_is _ _ _ c.requires.row c.requires.place.1,
)

pub returns : goal.returns
returns c k e = c.along.ensures.first c.args.i (k + 1)
    (right_again _ _ _ _ _ e
    (right_entry _ _ _ _ _ _ _ _ c.self.invariant c.self.view_is _ _ _ c.requires.row c.requires.place.1))
