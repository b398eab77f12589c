use Rattle.std.proofs.Common.{◌<◌, length, arith, rules, ap₂, ◌∙◌, FitsSigned}
use mir.Syntax.{w128}
use Rattle.std.proofs.lemmas.Int.{to_z-of_z}
use Rattle.std.proofs.Math.IntN.{◌+ℤ◌}
use Rattle.fx_sweep.specs.Target.{start_of}
use Rattle.fx_totals.specs.Filled.{length_in, target_in}
use Rattle.fx_totals.specs.Kept.{bound_in}
use Rattle.fx_error.proofs.Dividing.{are_parts, parts_add_up}
use Rattle.fx_error.proofs.Fitting.{parts_fit}
use Rattle.fx_error.proofs.parts.split.Goals as goal

pub returns-clause-parts : goal.returns-clause-parts
returns-clause-parts g c net targets lengths filled =
    let a : FitsSigned w128 c.rounding.result = search rules in
    let b : FitsSigned w128 c.input_part.result = search rules in
    let d : FitsSigned w128 c.width_part.result = search rules in
    let e : FitsSigned w128 c.rest_part.result = search rules in
    let s : FitsSigned w128 c.sum_of.result = search rules in
    let inside : c.args.target < length targets = omega (arith, c.requires.target, filled.count) in
    are_parts c.args.t.now c.args.target net (start_of (target_in targets c.args.target))
    (length_in lengths c.args.target) (bound_in c.args.bounds.now) (bound_in c.args.x.now) _ filled.size
    (filled.numbers c.args.target inside) (record {
      rounding_is = to_z-of_z w128 c.rounding.result a ∙ c.rounding.ensures.value;
      difference_is = to_z-of_z w128 c.sum_of.result s ∙ c.sum_of.ensures
          ∙ ap₂ (λ x y. x +ℤ y) (to_z-of_z w128 c.input_part.result b ∙ c.input_part.ensures.value)
          (to_z-of_z w128 c.width_part.result d ∙ c.width_part.ensures.value);
      rest_is = to_z-of_z w128 c.rest_part.result e ∙ c.rest_part.ensures.value;
    })

pub returns-clause-total : goal.returns-clause-total
returns-clause-total g c =
    let a : FitsSigned w128 c.rounding.result = search rules in
    let b : FitsSigned w128 c.input_part.result = search rules in
    let d : FitsSigned w128 c.width_part.result = search rules in
    let e : FitsSigned w128 c.rest_part.result = search rules in
    let s : FitsSigned w128 c.sum_of.result = search rules in
    parts_add_up c.args.t.now c.args.target (bound_in c.args.bounds.now) (bound_in c.args.x.now) _ (record {
      rounding_is = to_z-of_z w128 c.rounding.result a ∙ c.rounding.ensures.value;
      difference_is = to_z-of_z w128 c.sum_of.result s ∙ c.sum_of.ensures
          ∙ ap₂ (λ x y. x +ℤ y) (to_z-of_z w128 c.input_part.result b ∙ c.input_part.ensures.value)
          (to_z-of_z w128 c.width_part.result d ∙ c.width_part.ensures.value);
      rest_is = to_z-of_z w128 c.rest_part.result e ∙ c.rest_part.ensures.value;
    })

pub returns-clause-fits : goal.returns-clause-fits
returns-clause-fits g c =
    let a : FitsSigned w128 c.rounding.result = search rules in
    let b : FitsSigned w128 c.input_part.result = search rules in
    let d : FitsSigned w128 c.width_part.result = search rules in
    let e : FitsSigned w128 c.rest_part.result = search rules in
    let s : FitsSigned w128 c.sum_of.result = search rules in
    let sum = c.sum_of.ensures
    ∙ ap₂ (λ x y. x +ℤ y) (to_z-of_z w128 c.input_part.result b) (to_z-of_z w128 c.width_part.result d)
    in
    rw (
      to_z-of_z w128 c.rounding.result a,
      to_z-of_z w128 c.sum_of.result s,
      to_z-of_z w128 c.rest_part.result e,
    )
    (parts_fit c.rounding.result c.input_part.result c.width_part.result c.sum_of.result c.rest_part.result
    c.rounding.ensures.fits c.input_part.ensures.fits c.width_part.ensures.fits sum c.rest_part.ensures.fits)
