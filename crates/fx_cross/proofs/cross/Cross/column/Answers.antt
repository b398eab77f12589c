use Rattle.std.proofs.Common.{arith}
use Rattle.fx_cross.specs.Walks.{column_line}
use Rattle.fx_cross.proofs.Links.{links_low}
use Rattle.fx_cross.proofs.cross.Cross.column.Goals as goal

pub returns-clause-short : goal.returns-clause-short
returns-clause-short c =
    omega (arith, links_low (column_line c.args.self.now c.args.j) 0, c.entries_have_places.ensures)
