use Rattle.fx_code.proofs.Kept.{row_read}
use Rattle.fx_code.proofs.program.Program.row.Goals as goal

pub returns : goal.returns
returns c =
    let r = row_read c.self.inside c.args.self.now c.self.view_is c.self.invariant c.args.i c.requires
    c.index.result.now c.index.ensures in
    record { value = r.value; fits = r.fits; few = r.few }
