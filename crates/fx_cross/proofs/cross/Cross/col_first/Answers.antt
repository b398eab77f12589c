use Rattle.fx_cross.proofs.Walks.{down_head}
use Rattle.fx_cross.proofs.cross.Cross.col_first.Goals as goal

pub beneath-requires : goal.beneath-requires
beneath-requires c = (c.args.j, 0, down_head _ _ _ _ _ _ c.self.view_is _ c.requires)

pub returns : goal.returns
returns c = c.beneath.ensures.first c.args.j 0 (down_head _ _ _ _ _ _ c.self.view_is _ c.requires)
