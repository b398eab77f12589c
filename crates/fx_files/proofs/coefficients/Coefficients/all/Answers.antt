use Rattle.std.proofs.Common.{◌∙◌, sym}
use Rattle.fx_files.proofs.CutLists.{lists_joined}
use Rattle.fx_files.proofs.coefficients.Coefficients.all.Goals as goal

pub returns : goal.returns
returns c =
    let l = c.self.inside in
    rw (← c.self.view_is) (c.deref.ensures.value ∙ sym (lists_joined l.all.items l.ends c.self.invariant))
