use Rattle.fx_cross.proofs.Steps.{left_lead}
use Rattle.fx_cross.proofs.cross.Cross.left_of.Goals as goal

pub returns : goal.returns
returns c = left_lead _ _ _ _ _ _ _ _ c.self.invariant c.self.view_is _ _ _ _ c.requires.row c.requires.column
    c.deref.ensures.value c.lead.ensures
