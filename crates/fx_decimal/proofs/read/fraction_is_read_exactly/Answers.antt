use Rattle.fx_decimal.proofs.ReadingLaws.{numeral_law}
use Rattle.fx_decimal.proofs.read.fraction_is_read_exactly.Goals as goal

pub returns : goal.returns
returns c = numeral_law
