use Rattle.fx_cross.proofs.Walks.{right_head}
use Rattle.fx_cross.proofs.cross.Cross.row_first.Goals as goal

pub along-requires : goal.along-requires
along-requires c = (c.args.i, 0, right_head _ _ _ _ _ _ c.self.view_is _ c.requires)

pub returns : goal.returns
returns c = c.along.ensures.first c.args.i 0 (right_head _ _ _ _ _ _ c.self.view_is _ c.requires)
