use Rattle.std.proofs.Common.{◌∙◌, sym, ap, subst, Err}
use Rattle.fx_findings.specs.Designs.{no_design_lines}
use Rattle.fx_large.specs.Job.{IsJob}
use Rattle.fx_large.specs.Sections.{samples_state, sections_of}
use Rattle.fx_tool.specs.Answer.{says}
use Rattle.fx_tool.specs.declared.status.Status.TheVariants.{Done, NoDesign}
use Rattle.fx_tool.proofs.JobRuns.{answer_is_no_run, answer_is_run, number_is_served}
use Rattle.fx_tool.proofs.large.run_number.Goals as goal

pub returns-in_ok-large_lines-in-Ok-clause-answer : goal.returns-in_ok-large_lines-in-Ok-clause-answer
returns-in_ok-large_lines-in-Ok-clause-answer c =
    let number = c.args.number in
    let run = subst (λ r. IsJob (sections_of number) (samples_state number) r) c.in-Ok.is c.large.ensures in
    answer_is_run number c.in-Ok.job run c.programs_fit.ensures c.certificates_fit.ensures
    ∙ ap (says Done) (sym c.in_ok-large_lines-in-Ok.ensures) ∙ sym c.new.ensures

pub returns-in_ok-large_lines-in-Ok-clause-served : goal.returns-in_ok-large_lines-in-Ok-clause-served
returns-in_ok-large_lines-in-Ok-clause-served c =
    let number = c.args.number in
    let run = subst (λ r. IsJob (sections_of number) (samples_state number) r) c.in-Ok.is c.large.ensures in
    λ _. number_is_served number c.in-Ok.job run c.programs_fit.ensures c.certificates_fit.ensures

pub returns-in_ok-no_design_lines-in-Err-NoDesign-clause-answer :
    goal.returns-in_ok-no_design_lines-in-Err-NoDesign-clause-answer
returns-in_ok-no_design_lines-in-Err-NoDesign-clause-answer c =
    let number = c.args.number in
    let found = subst (λ r. IsJob (sections_of number) (samples_state number) r)
    (c.in-Err-NoDesign.is ∙ ap Err c.in-Err-NoDesign.field-0-is) c.large.ensures in
    answer_is_no_run number c.in-Err-NoDesign.fails found
    ∙ ap (says NoDesign) (sym (c.in_ok-no_design_lines-in-Err-NoDesign.ensures
    ∙ ap no_design_lines c.list.ensures)) ∙ sym c.new-in-Err-NoDesign.ensures
