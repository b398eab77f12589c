use Rattle.std.proofs.Common.{rules, FitsSigned, codes}
use Rattle.std.specs.Int.{w128}
use Rattle.std.proofs.lemmas.Int.{to_z-of_z}
use Rattle.std.proofs.lemmas.Result.{on_ok_weaker}
use Rattle.fx_lines.specs.Verdict.{up_part}
use Rattle.fx_lines.proofs.Joined.{two_pushed}
use Rattle.fx_lines.proofs.report.put_first.Goals as goal

-- both numbers are in the range of their type
pub returns : goal.returns
returns c =
    let parts = c.args.parts.now in
    let first : FitsSigned w128 parts.rounding = search rules in
    let second : FitsSigned w128 parts.difference = search rules in
    on_ok_weaker c.put_up-2.result
    (two_pushed c.args.text.now.items (up_part (codes " rounding ") parts.rounding) c.put_up.new.text.items
    (up_part (codes " difference ") parts.difference) c.put_up-2.new.text.items
    (rw (to_z-of_z w128 parts.rounding first) at c.in_ok-put_up.ensures))
    (rw (to_z-of_z w128 parts.difference second) at c.put_up-2.ensures)
