use Rattle.fx_net.proofs.Blocked.{block_of_run, lifted_row, raised_le, word_le}
use Rattle.fx_net.proofs.laws.runs_are_blocks.Goals as goal

pub returns-clause-rows : goal.returns-clause-rows
returns-clause-rows c = lifted_row

pub returns-clause-blocks : goal.returns-clause-blocks
returns-clause-blocks c = block_of_run

pub returns-clause-bounds : goal.returns-clause-bounds
returns-clause-bounds c = raised_le

pub returns-clause-inputs : goal.returns-clause-inputs
returns-clause-inputs c = word_le
