use Rattle.std.proofs.Common.{◌≡◌, ◌≤◌, Ok, arith}
use Rattle.std.proofs.lemmas.Grind.{common_steps}
use Rattle.fx_eqs.specs.declared.limits.TheConstants.{REFLECTIONS}
use Rattle.fx_lattice.specs.Lattice.{Lattice}
use Rattle.fx_lattice.specs.StepDown.{greater_order, step_down}
use Rattle.fx_lattice.proofs.Levels.{step_down_encloses, step_down_fits, step_down_sizes}
use Rattle.fx_lattice.proofs.lowering.step_down.Goals as goal

pub of-requires : goal.of-requires
of-requires c =
    let l : Lattice = record { k = c.in_ok-rungs.rungs.k.items; v = c.in_ok-rungs.rungs.v.items } in
    let few : greater_order c.args.b.now c.args.a.now ≤ REFLECTIONS = omega arith in
    let made : step_down c.args.b.now c.args.a.now ≡ Ok l = grind (arith, common_steps) in
    step_down_fits c.args.b.now c.args.a.now l few made

pub returns-clause-order : goal.returns-clause-order
returns-clause-order c =
    let made : step_down c.args.b.now c.args.a.now ≡ Ok c.of.result = grind (arith, common_steps) in
    (step_down_sizes c.args.b.now c.args.a.now c.of.result made).reflections

pub returns-clause-encloses : goal.returns-clause-encloses
returns-clause-encloses c =
    let made : step_down c.args.b.now c.args.a.now ≡ Ok c.of.result = grind (arith, common_steps) in
    step_down_encloses c.args.b.now c.args.a.now c.of.result made
