use Rattle.std.proofs.Common.{sym, subst, ap, ◌∙◌}
use Rattle.fx_gain.specs.Lengths.{original_net}
use Rattle.fx_gain.specs.Peaks.{FailsSo}
use Rattle.fx_findings.specs.Peaks.{no_length_lines}
use Rattle.fx_tool.specs.Answer.{says}
use Rattle.fx_tool.specs.declared.status.Status.TheVariants.{Done, NoDesign}
use Rattle.fx_tool.proofs.Gains.{none_found, peaks_found}
use Rattle.fx_tool.proofs.gain.gains.Goals as goal

pub returns-in_ok-gain_lines-in-Ok-clause-answer :
    goal.returns-in_ok-gain_lines-in-Ok-clause-answer
returns-in_ok-gain_lines-in-Ok-clause-answer c =
    peaks_found c.args.filter.now c.in-Ok.peaks c.in-Ok.ensures.peaks
    ∙ ap (says Done) (sym c.in_ok-gain_lines-in-Ok.ensures) ∙ sym c.new.ensures

pub returns-in_ok-no_length_lines-in-Err-NoLength-clause-answer :
    goal.returns-in_ok-no_length_lines-in-Err-NoLength-clause-answer
returns-in_ok-no_length_lines-in-Err-NoLength-clause-answer c =
    none_found c.args.filter.now c.in-Err-NoLength.fails
    (subst (FailsSo (original_net c.args.filter.now) c.args.filter.now) c.in-Err-NoLength.field-0-is
    c.in-Err-NoLength.ensures.fails)
    ∙ ap (λ fails. says NoDesign (no_length_lines fails)) (sym c.list.ensures)
    ∙ ap (says NoDesign) (sym c.in_ok-no_length_lines-in-Err-NoLength.ensures) ∙ sym c.new-in-Err-NoLength.ensures
