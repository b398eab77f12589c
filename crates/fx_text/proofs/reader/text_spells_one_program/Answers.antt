use Rattle.fx_text.proofs.CodeLaws.{one_program}
use Rattle.fx_text.proofs.reader.text_spells_one_program.Goals as goal

pub returns : goal.returns
returns c = one_program
