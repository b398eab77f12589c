use Rattle.fx_cross.specs.Walks.{row_line, column_line}
use Rattle.fx_cross.proofs.Sums.{line_total}
use Rattle.fx_cross.proofs.laws.sums_follow_the_links.Goals as goal

pub returns-clause-rows : goal.returns-clause-rows
returns-clause-rows c = λ t i f none. line_total f none (row_line t i)

pub returns-clause-columns : goal.returns-clause-columns
returns-clause-columns c = λ t j f none. line_total f none (column_line t j)
