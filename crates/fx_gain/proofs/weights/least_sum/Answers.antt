use Rattle.std.proofs.Common.{◌≡◌, ◌+◌, ◌*◌, arith, rules, ap, sym, ◌∙◌, subst, FitsSigned, to_z}
use mir.Syntax.{w128}
use Rattle.std.proofs.lemmas.Int.{ints, to_z-of_z}
use Rattle.std.proofs.Math.IntN.{◌+ℤ◌}
use Rattle.fx_eqs.specs.declared.limits.TheConstants.{PORTS}
use Rattle.fx_math.specs.Sums.{sum_below}
use Rattle.fx_nums.specs.Interval.{magnitude}
use Rattle.fx_sweep.specs.Swept.{interval_in}
use Rattle.fx_totals.specs.Kept.{IsUpTo}
use Rattle.fx_totals.proofs.Kept.{one_more_total}
use Rattle.fx_gain.specs.Enclosing.{least_magnitude}
use Rattle.fx_gain.proofs.Sums.{one_more_below, sum_grows}
use Rattle.fx_gain.proofs.weights.least_sum.Goals as goal

pub sum-total-requires-clause-left : goal.sum-total-requires-clause-left
sum-total-requires-clause-left c =
    let grows = sum_grows c.loop-n.n c.args.moments (λ n.
    magnitude (interval_in c.args.weights.now (n * PORTS + c.args.j))) (omega (arith, c.loop-n-test.true)) in
    let most = c.requires.small in
    (c.loop-n.invariant.fits.0, omega (arith, ints, grows, most, c.loop-n.invariant.fits.1))

pub loop-n-preserved : goal.loop-n-preserved
loop-n-preserved c =
    let least_fits : FitsSigned w128 c.least_magnitude.result = search rules in
    let sum_fits : FitsSigned w128 c.sum-total.result = search rules in
    let e : c.sum-total.result ≡ to_z w128 c.loop-n.total-bits +ℤ c.least_magnitude.result =
    c.sum-total.ensures.value ∙ ap (λ x. to_z w128 c.loop-n.total-bits +ℤ x)
    (to_z-of_z w128 c.least_magnitude.result least_fits) in
    let s = to_z-of_z w128 c.sum-total.result sum_fits in
    record {
      value = s ∙ one_more_total c.loop-n.n (λ n.
          least_magnitude (interval_in c.args.weights.now (n * PORTS + c.args.j))) _ _ _ e
          c.loop-n.invariant.value (c.least_magnitude.ensures.value ∙ ap least_magnitude c.weight_at.ensures);
      fits = subst (λ x. IsUpTo (sum_below (c.loop-n.n + 1) (λ n.
          magnitude (interval_in c.args.weights.now (n * PORTS + c.args.j)))) x) (sym s)
          (one_more_below c.loop-n.n (λ n. magnitude (interval_in c.args.weights.now (n * PORTS + c.args.j)))
          _ _ _ e c.loop-n.invariant.fits
          (subst (λ v. IsUpTo (magnitude v) c.least_magnitude.result) c.weight_at.ensures
          c.least_magnitude.ensures.fits));
    }
