use Rattle.fx_decimal.proofs.Digits.{grown_far}
use Rattle.std.proofs.Common.{arith}
use Rattle.fx_decimal.proofs.value.grown.Goals as goal

pub returns-then-zeros : goal.returns-then-zeros
returns-then-zeros c = grown_far c.args.number c.args.zeros c.args.digit (omega arith) c.if-zeros.true
