use Rattle.fx_cert.proofs.LineLaws.{joined_law, lines_law}
use Rattle.fx_cert.proofs.lines.lines_make_their_text.Goals as goal

pub returns-clause-text : goal.returns-clause-text
returns-clause-text c = lines_law

pub returns-clause-lines : goal.returns-clause-lines
returns-clause-lines c = joined_law
