use Rattle.std.proofs.Common.{arith}
use Rattle.std.proofs.lemmas.Int.{ints}
use Rattle.fx_check.proofs.laws.parts_add_up.Goals as goal

pub returns : goal.returns
returns c = λ filter p certificate o. omega (arith, ints)
