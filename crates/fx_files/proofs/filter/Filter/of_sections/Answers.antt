use Rattle.std.proofs.Common.{rules, ◌≡◌, IfOk}
use Rattle.fx_files.specs.Plan.{filter_of_sections}
use Rattle.fx_files.proofs.FilterOfSections.{each_of_files}
use Rattle.fx_files.proofs.filter.Filter.of_sections.Goals as goal

pub returns-clause-of_files : goal.returns-clause-of_files
returns-clause-of_files c =
    let value : IfOk c.assembled.result (λ f. f ≡ filter_of_sections c.args.sections.now c.args.plan) = search rules in
    each_of_files c.args.sections.now c.args.plan c.assembled.result value
