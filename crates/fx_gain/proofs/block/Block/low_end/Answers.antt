use Rattle.std.proofs.Common.{◌∙◌, ◌<◌, FitsSigned, ap, arith, rules, sym, w64, subst}
use mir.Syntax.{w128}
use Rattle.std.proofs.Math.IntN.{pos, ◌*ℤ◌}
use Rattle.std.proofs.lemmas.Int.{ints, to_z-of_z}
use Rattle.fx_eqs.specs.declared.limits.TheConstants.{PORTS}
use Rattle.fx_math.specs.Sums.{total}
use Rattle.fx_net.specs.Tables.{net_of}
use Rattle.fx_totals.specs.Kept.{IsUpTo, bound_in, greatest_gain, kept_width}
use Rattle.fx_gain.specs.Enclosing.{output_row}
use Rattle.fx_gain.specs.Lengths.{original_count}
use Rattle.fx_gain.proofs.Made.{gain_small, low_is}
use Rattle.fx_gain.proofs.block.Block.low_end.Goals as goal

pub least_sum-requires-clause-small : goal.least_sum-requires-clause-small
least_sum-requires-clause-small g c =
    let port : c.args.j < PORTS = omega (arith, c.requires.input, c.filters_fit.ensures.inputs_high) in
    gain_small (net_of c.args.self.now.net.now) c.args.self.now.filter.now c.args.self.now.moments c.args.o c.args.j
    c.args.weights.now c.requires.weights port

pub less_widths-requires-clause-least : goal.less_widths-requires-clause-least
less_widths-requires-clause-least g c =
    let fits : FitsSigned w128 c.least_sum.result = search rules in
    let port : c.args.j < PORTS = omega (arith, c.requires.input, c.filters_fit.ensures.inputs_high) in
    let small = gain_small (net_of c.args.self.now.net.now) c.args.self.now.filter.now c.args.self.now.moments c.args.o
    c.args.j c.args.weights.now c.requires.weights port in
    let sum = c.least_sum.ensures.fits in
    subst (IsUpTo greatest_gain) (sym (to_z-of_z w128 c.least_sum.result fits))
    (sum.0, omega (arith, ints, sum.1, small))

pub returns-clause-value : goal.returns-clause-value
returns-clause-value g c =
    let net = net_of c.args.self.now.net.now in
    let f = c.args.self.now.filter.now in
    let m = c.args.self.now.moments in
    let k = c.args.self.now.totals.now in
    let x = c.args.x.now in
    let port : c.args.j < PORTS = omega (arith, c.requires.input, c.filters_fit.ensures.inputs_high) in
    let a : FitsSigned w128 c.least_sum.result = search rules in
    let b : FitsSigned w64 c.bound_of.result = search rules in
    let d : FitsSigned w128 c.width_part-widths.result = search rules in
    let s : FitsSigned w128 c.less_widths.result = search rules in
    let inside : output_row f c.args.o < original_count f =
    rw c.output_row.ensures.value at c.output_row.ensures.inside in
    let cut = to_z-of_z w128 c.width_part-widths.result d ∙ c.width_part-widths.ensures.value
    ∙ ap (λ r. total k.size (λ i. kept_width k r i *ℤ pos (bound_in x i))) c.output_row.ensures.value in
    to_z-of_z w128 c.less_widths.result s ∙ c.less_widths.ensures.value
    ∙ low_is net f m c.args.o c.args.j c.args.weights.now c.requires.weights port k x _ _ _
    c.args.self.now.serves inside
    c.requires.alone (to_z-of_z w128 c.least_sum.result a ∙ c.least_sum.ensures.value)
    (to_z-of_z w64 c.bound_of.result b ∙ c.bound_of.ensures.value) cut
