use Rattle.std.proofs.Common.{◌∙◌, ◌≡◌, refl, sym, ap, subst, Err, IfOk, rules}
use Rattle.fx_make.specs.Made.{Makes}
use Rattle.fx_block.specs.Passes.{Passes}
use Rattle.fx_code.specs.Code.{IsWhole}
use Rattle.fx_findings.specs.Designs.{no_design_lines}
use Rattle.fx_tool.specs.Answer.{says}
use Rattle.fx_tool.specs.Make.{AreShort}
use Rattle.fx_tool.specs.declared.status.Status.TheVariants.{NoDesign, Unbuildable}
use Rattle.fx_tool.proofs.Making.{answer_is_made, answer_is_none, answer_is_unbuildable, made_serves, where_short}
use Rattle.fx_tool.proofs.make.made_for.Goals as goal

pub returns-in-Ok-clause-answer : goal.returns-in-Ok-clause-answer
returns-in-Ok-clause-answer c =
    let found = subst (λ r. Makes c.args.filter.now r) c.in-Ok.is c.make.ensures.value in
    let is = answer_is_made c.args.filter.now c.in-Ok.made found c.programs_fit.ensures c.certificates_fit.ensures in
    subst (λ a. IfOk c.files_of.result (λ e. a ≡ e)) (sym is) (search (rules, c.files_of.ensures.answer))

pub returns-in-Ok-clause-served : goal.returns-in-Ok-clause-served
returns-in-Ok-clause-served c =
    let found = subst (λ r. Makes c.args.filter.now r) c.in-Ok.is c.make.ensures.value in
    let passes = subst (λ r. IfOk r (λ m. Passes c.args.filter.now m.program m.cert)) c.in-Ok.is
    c.make.ensures.passes in
    let whole = subst (λ r. IfOk r (λ m. IsWhole m.program)) c.in-Ok.is c.make.ensures.whole in
    where_short c.files_of.result (AreShort c.in-Ok.made.program c.in-Ok.made.cert) _ c.files_of.ensures.short (λ short.
    made_serves c.args.filter.now c.in-Ok.made found c.programs_fit.ensures c.certificates_fit.ensures
    (record {
      spelled = c.written_code_is_spelled.ensures.spelled;
      text = record { text = refl; fits = c.certificates_fit.ensures };
      short = short;
      judged = record { passes = passes; sound = c.inequalities_make_sound.ensures.sound whole passes };
    }))

pub returns-in_ok-structure_fault_line-in-Err-Unbuildable-clause-answer :
    goal.returns-in_ok-structure_fault_line-in-Err-Unbuildable-clause-answer
returns-in_ok-structure_fault_line-in-Err-Unbuildable-clause-answer c =
    let found = subst (λ r. Makes c.args.filter.now r)
    (c.in-Err-Unbuildable.is ∙ ap Err c.in-Err-Unbuildable.field-0-is) c.make.ensures.value in
    answer_is_unbuildable c.args.filter.now c.in-Err-Unbuildable.why found.1
    ∙ ap (says Unbuildable) (sym c.in_ok-structure_fault_line-in-Err-Unbuildable.ensures) ∙ sym c.new.ensures

pub returns-in_ok-no_design_lines-in-Err-NoDesign-clause-answer :
    goal.returns-in_ok-no_design_lines-in-Err-NoDesign-clause-answer
returns-in_ok-no_design_lines-in-Err-NoDesign-clause-answer c =
    let found = subst (λ r. Makes c.args.filter.now r)
    (c.in-Err-NoDesign.is ∙ ap Err c.in-Err-NoDesign.field-0-is) c.make.ensures.value in
    answer_is_none c.args.filter.now c.in-Err-NoDesign.fails found
    ∙ ap (says NoDesign) (sym (c.in_ok-no_design_lines-in-Err-NoDesign.ensures
    ∙ ap no_design_lines c.list.ensures)) ∙ sym c.new-in-Err-NoDesign.ensures
