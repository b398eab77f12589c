use Rattle.std.proofs.Common.{◌≡◌, ℕ, suc, ◌+◌, ◌-◌, ◌*◌, ◌^◌, ◌<◌, Some, arith, ◌∙◌, sym, subst}
use Rattle.std.proofs.lemmas.Grind.{common_steps}
use Rattle.std.proofs.lemmas.Int.{ints}
use Rattle.fx_net.specs.Tables.{net_of}
use Rattle.fx_nums.specs.Fraction.{Fraction}
use Rattle.fx_sweep.specs.Steps.{IsRowAdded, carried_width, greatest, greatest_width, product_apart, product_bound}
use Rattle.fx_sweep.specs.Swept.{gain_in, interval_in, range_of, whole_in}
use Rattle.fx_sweep.proofs.Added.{wider}
use Rattle.fx_sweep.proofs.Settling.{IsSettling, settling_more, settling_ends, grown_fit}
use Rattle.fx_sweep.proofs.numbers.settle_rows.Goals as goal

pub settle_row-requires-clause-widths_fit : goal.settle_row-requires-clause-widths_fit
settle_row-requires-clause-widths_fit g c =
    c.loop-i.invariant.widths_fit (2 ^ 100 - greatest_width) c.requires.widths_fit

pub loop-i-preserved : goal.loop-i-preserved
loop-i-preserved g c =
    let i = c.loop-i.i - 1 in
    let next : suc i ≡ c.loop-i.i = omega (arith, c.loop-i-test.true) in
    let inside : i < g.row.N = omega (arith, c.loop-i-test.true, c.loop-i.auto.i) in
    let settling = subst (λ (n : ℕ).
    IsSettling (net_of c.args.net.now) g.row.N n (interval_in c.args.weights.now)
    (interval_in c.loop-i.weights) (whole_in c.args.widths.now) (whole_in c.loop-i.widths)
    (gain_in c.args.gains.now) (gain_in c.loop-i.gains)) (sym next) c.loop-i.invariant.settling in
    let added = subst (λ (t : ℕ → ℕ → Fraction).
    IsRowAdded i (t i) (interval_in c.loop-i.weights) (interval_in c.settle_row.new.weights)
    (whole_in c.loop-i.widths) (whole_in c.settle_row.new.widths) (gain_in c.loop-i.gains)
    (gain_in c.settle_row.new.gains)) c.links-table.ensures.coefficients c.in_ok-settle_row.ensures.added in
    record {
      weights_long = c.settle_row.ensures.counts.0 ∙ c.loop-i.invariant.weights_long;
      widths_long = c.settle_row.ensures.counts.1 ∙ c.loop-i.invariant.widths_long;
      gains_long = c.settle_row.ensures.counts.2 ∙ c.loop-i.invariant.gains_long;
      narrow = λ j. wider (interval_in c.settle_row.new.weights j) (greatest
          + (g.row.N - c.loop-i.i) * product_bound + product_bound) (carried_width
          + (g.row.N - c.loop-i.i) * product_apart + product_apart)
          (greatest + (g.row.N - i) * product_bound) (carried_width + (g.row.N - i) * product_apart)
          (omega (arith, inside, next)) (omega (arith, inside, next))
          (c.settle_row.ensures.narrow (greatest + (g.row.N - c.loop-i.i) * product_bound) (carried_width
          + (g.row.N - c.loop-i.i) * product_apart) c.loop-i.invariant.narrow j);
      settling = settling_more (net_of c.args.net.now) g.row.N i c.nets_fit.ensures inside _ _ _ _ _ _ _ _ _
          settling added (sym c.in_ok-settle_row.ensures.range);
      widths_fit = λ b h. grown_fit i b greatest_width (whole_in c.args.widths.now) (whole_in c.loop-i.widths)
          (whole_in c.settle_row.new.widths) h (c.loop-i.invariant.widths_fit b h)
          (settling.widths_left i (omega arith)) c.settle_row.ensures.widths_else c.settle_row.ensures.width_grows;
      gains_fit = c.settle_row.ensures.gains_fit;
    }

pub returns-in_err-settle_row-clause-range : goal.returns-in_err-settle_row-clause-range
returns-in_err-settle_row-clause-range g c =
    let i = c.loop-i.i - 1 in
    let next : suc i ≡ c.loop-i.i = omega (arith, c.loop-i-test.true) in
    let inside : i < g.row.N = omega (arith, c.loop-i-test.true, c.loop-i.auto.i) in
    let settling = subst (λ (n : ℕ).
    IsSettling (net_of c.args.net.now) g.row.N n (interval_in c.args.weights.now)
    (interval_in c.loop-i.weights) (whole_in c.args.widths.now) (whole_in c.loop-i.widths)
    (gain_in c.args.gains.now) (gain_in c.loop-i.gains)) (sym next) c.loop-i.invariant.settling in
    let same : range_of c.from_residual.result ≡ Some c.in_err-settle_row.field-0.0 = grind (arith, common_steps) in
    same ∙ sym (settling_ends (net_of c.args.net.now) g.row.N i inside _ _ _ _ _ _
    c.in_err-settle_row.field-0.0 settling (sym c.in_err-settle_row.ensures.range))

pub returns-in_err-settle_row-clause-widths_fit : goal.returns-in_err-settle_row-clause-widths_fit
returns-in_err-settle_row-clause-widths_fit g c b h =
    grown_fit (c.loop-i.i - 1) b greatest_width (whole_in c.args.widths.now) (whole_in c.loop-i.widths)
    (whole_in c.settle_row.new.widths) h (c.loop-i.invariant.widths_fit b h)
    (c.loop-i.invariant.settling.widths_left (c.loop-i.i - 1) (omega (arith, c.loop-i-test.true)))
    c.settle_row.ensures.widths_else c.settle_row.ensures.width_grows

pub returns-clause-near : goal.returns-clause-near
returns-clause-near g c i =
    omega (arith, ints, (c.loop-i.invariant.narrow i).near, c.loop-i-test.false, c.nets_fit.ensures.rows_high)
