use Rattle.fx_text.proofs.Lengths.{text_short}
use Rattle.fx_text.proofs.writer.write_code.Goals as goal

pub returns-clause-short : goal.returns-clause-short
returns-clause-short c = rw c.in_ok-text.ensures (text_short c.args.program.now c.programs_fit.ensures)
