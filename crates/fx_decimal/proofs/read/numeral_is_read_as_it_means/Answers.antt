use Rattle.fx_decimal.proofs.ReadingLaws.{text_law}
use Rattle.fx_decimal.proofs.read.numeral_is_read_as_it_means.Goals as goal

pub returns : goal.returns
returns c = text_law
