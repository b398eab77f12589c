use Rattle.std.proofs.Common.{◌≡◌, None, arith}
use Rattle.std.proofs.lemmas.Grind.{common_steps}
use Rattle.fx_lattice.specs.StepDown.{lower_b}
use Rattle.fx_lattice.proofs.Gathering.{numerator_stops}
use Rattle.fx_lattice.proofs.lowering.lower_numerator.Goals as goal

pub returns-in_default : goal.returns-in_default
returns-in_default c =
    let none : lower_b c.args.i c.args.a.now c.args.b.now c.loop-j.j ≡ None = grind (arith, common_steps) in
    numerator_stops c.args.i c.loop-j.j c.args.a.now c.args.b.now c.loop-j-test.true none
