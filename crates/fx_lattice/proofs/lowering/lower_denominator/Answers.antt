use Rattle.std.proofs.Common.{◌≡◌, ◌+◌, None, Some, arith}
use Rattle.std.proofs.lemmas.Grind.{common_steps}
use Rattle.fx_lattice.specs.Operations.{less_product, one_point}
use Rattle.fx_lattice.specs.StepDown.{behind, lower_a}
use Rattle.fx_lattice.proofs.Gathering.{denominator_stops}
use Rattle.fx_lattice.proofs.lowering.lower_denominator.Goals as goal

pub returns-in_default-lower_a : goal.returns-in_default-lower_a
returns-in_default-lower_a c =
    let i = c.args.i in
    let a = c.args.a.now in
    let made : less_product one_point (behind a i) (behind a i) ≡ Some c.in-Some.d = grind (arith, common_steps) in
    let none : lower_a i a c.in-Some.d (c.loop-j.j + 1) ≡ None = grind (arith, common_steps) in
    denominator_stops i c.loop-j.j a c.in-Some.d made c.loop-j-test.true none
