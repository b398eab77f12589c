use Rattle.fx_large.proofs.JobFilter.{made_filter, structure_is_there}
use Rattle.fx_large.proofs.job.job_filter.Goals as goal

pub returns-clause-value : goal.returns-clause-value
returns-clause-value c =
    made_filter c.args.sections.now c.job_plan.result c.of_sections.result c.job_plan.ensures.value
    c.of_sections.ensures.value

pub returns-clause-structure : goal.returns-clause-structure
returns-clause-structure c =
    structure_is_there c.args.sections.now c.of_sections.result
    (made_filter c.args.sections.now c.job_plan.result c.of_sections.result c.job_plan.ensures.value
    c.of_sections.ensures.value)
