use Rattle.toml.proofs.Views.{table_get}
use Rattle.fx_keys.proofs.table.value_at.Goals as goal

pub returns : goal.returns
returns c = rw (← c.own_name.ensures)
    (table_get c.get.result c.own_name.result.now c.args.table.now.entries c.get.ensures.value)
