use Rattle.std.proofs.Common.{arith, length-append}
use Rattle.fx_decimal.proofs.Places.{length-last}
use Rattle.fx_decimal.proofs.print.Decimal.+push_places.Goals as goal

pub push-requires : goal.push-requires
push-requires t c = rw (c.push_places.ensures, length-append, length-last) (omega arith)
