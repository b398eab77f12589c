use Rattle.fx_make.proofs.First.{each_failure_is_told, first_is_found}
use Rattle.fx_make.proofs.laws.search_finds_the_first.Goals as goal

pub returns-clause-first : goal.returns-clause-first
returns-clause-first c = first_is_found

pub returns-clause-none : goal.returns-clause-none
returns-clause-none c = each_failure_is_told
