use Rattle.std.proofs.Common.{◌+◌}
use Rattle.fx_cross.proofs.Walks.{down_entry, down_again}
use Rattle.fx_cross.proofs.cross.Cross.col_next.Goals as goal

pub beneath-requires : goal.beneath-requires
beneath-requires c = (
  c.args.j,
  c.requires.place.0 + 1,
  down_entry _ _ _ _ _ _ _ _ c.self.invariant c.self.view_is _ _ _ c.requires.column c.requires.place.1,
)

pub returns : goal.returns
returns c k e = c.beneath.ensures.first c.args.j (k + 1)
    (down_again _ _ _ _ _ e (down_entry _ _ _ _ _ _ _ _ c.self.invariant c.self.view_is _ _ _ c.requires.column
    c.requires.place.1))
