use Rattle.fx_io.proofs.Found.{has_added, keeps_names}
use Rattle.fx_io.proofs.sure.SureShelf.add.Goals as goal

pub returns-clause-readable : goal.returns-clause-readable
returns-clause-readable c = has_added _ _ _ _ c.insert.result c.insert.ensures.ok

pub returns-clause-others : goal.returns-clause-others
returns-clause-others c q h =
    keeps_names _ _ _ _ c.insert.result c.insert.ensures.ok c.insert.ensures.err q (rw c.self.view_is h)
