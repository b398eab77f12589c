use Rattle.fx_keys.proofs.Ascending.{tables_told}
use Rattle.fx_keys.proofs.table.unknown_keys_come_first.Goals as goal

pub returns : goal.returns
returns c = tables_told c.args.table.now.entries c.len.ensures.ordered
