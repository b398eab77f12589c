use Rattle.fx_cross.proofs.Steps.{above_lead}
use Rattle.fx_cross.proofs.cross.Cross.above.Goals as goal

pub returns : goal.returns
returns c = above_lead _ _ _ _ _ _ _ _ c.self.invariant c.self.view_is _ _ _ _ c.requires.row c.requires.column
    c.deref.ensures.value c.lead.ensures
