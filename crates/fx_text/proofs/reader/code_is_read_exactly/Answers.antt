use Rattle.fx_text.proofs.CodeLaws.{code_law}
use Rattle.fx_text.proofs.reader.code_is_read_exactly.Goals as goal

pub returns : goal.returns
returns c = code_law
