use Rattle.fx_decimal.proofs.Continued.{bad_byte_law}
use Rattle.fx_decimal.proofs.read.bad_byte_is_where_it_stops.Goals as goal

pub returns : goal.returns
returns c = bad_byte_law
