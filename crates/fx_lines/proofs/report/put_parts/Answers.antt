use Rattle.std.proofs.lemmas.Result.{on_ok_weaker}
use Rattle.fx_lines.specs.Report.{first_parts, last_parts}
use Rattle.fx_lines.proofs.Joined.{two_pushed}
use Rattle.fx_lines.proofs.report.put_parts.Goals as goal

-- the last two behind the first two
pub returns : goal.returns
returns c =
    on_ok_weaker c.put_last.result
    (two_pushed c.args.text.now.items (first_parts c.args.parts.now) c.put_first.new.text.items
    (last_parts c.args.parts.now) c.put_last.new.text.items c.in_ok-put_first.ensures)
    c.put_last.ensures
