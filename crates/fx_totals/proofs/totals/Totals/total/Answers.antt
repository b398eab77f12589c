use Rattle.std.proofs.Common.{◌<◌, length, arith, rules, ◌∙◌, FitsSigned}
use mir.Syntax.{w128}
use Rattle.std.proofs.lemmas.Int.{to_z-of_z}
use Rattle.fx_sweep.specs.Target.{start_of}
use Rattle.fx_totals.specs.Filled.{length_in, target_in}
use Rattle.fx_totals.specs.Kept.{bound_in}
use Rattle.fx_totals.proofs.Kept.{four_parts, held_total}
use Rattle.fx_totals.proofs.totals.Totals.total.Goals as goal

pub returns-clause-kept : goal.returns-clause-kept
returns-clause-kept g c =
    let a : FitsSigned w128 c.input_part.result = search rules in
    let b : FitsSigned w128 c.rounding.result = search rules in
    let d : FitsSigned w128 c.width_part.result = search rules in
    let e : FitsSigned w128 c.rest_part.result = search rules in
    let s : FitsSigned w128 c.sum_of_parts.result = search rules in
    to_z-of_z w128 c.sum_of_parts.result s ∙ c.sum_of_parts.ensures.value
    ∙ four_parts (to_z-of_z w128 c.input_part.result a ∙ c.input_part.ensures.value)
    (to_z-of_z w128 c.rounding.result b ∙ c.rounding.ensures.value)
    (to_z-of_z w128 c.width_part.result d ∙ c.width_part.ensures.value) (to_z-of_z w128 c.rest_part.result e
    ∙ c.rest_part.ensures.value)

pub returns-clause-total : goal.returns-clause-total
returns-clause-total g c net targets lengths filled =
    let inside : c.args.t < length targets = omega (arith, c.requires.target, filled.count) in
    returns-clause-kept g c
    ∙ held_total c.args.self.now c.args.t net (start_of (target_in targets c.args.t))
    (length_in lengths c.args.t) (bound_in c.args.bounds.now) (bound_in c.args.x.now) filled.size
    (filled.numbers c.args.t inside)
