use Rattle.fx_keys.proofs.Front.{item_count-view}
use Rattle.fx_keys.proofs.entries.item_count.Goals as goal

pub returns-clause-count : goal.returns-clause-count
returns-clause-count c = item_count-view c.args.entries.now
