use Rattle.std.proofs.Common.{◌≡◌, ◌+◌, ◌*◌, ◌^◌, length, arith, rules, ap, sym, ◌∙◌, subst, FitsSigned, to_z}
use mir.Syntax.{w128}
use Rattle.std.proofs.lemmas.Int.{ints, to_z-of_z}
use Rattle.std.proofs.Math.IntN.{pos, ◌+ℤ◌, ◌*ℤ◌}
use Rattle.fx_sweep.specs.Swept.{whole_in}
use Rattle.fx_totals.proofs.sums.products.Goals as goal
use Rattle.fx_totals.specs.Kept.{IsUpTo, bound_in, greatest_gain}
use Rattle.fx_totals.proofs.Kept.{one_more_fits, one_more_total}

pub sum-all-requires-clause-left : goal.sum-all-requires-clause-left
sum-all-requires-clause-left c =
    let so_far = c.loop-i.invariant.fits greatest_gain c.requires.numbers in
    (so_far.0, omega (arith, ints, so_far.1, c.loop-i-test.true, c.requires.few))

pub sum-all-requires-clause-right : goal.sum-all-requires-clause-right
sum-all-requires-clause-right c =
    let here = c.product_at.ensures.fits greatest_gain c.requires.numbers in
    let fits : FitsSigned w128 c.product_at.result = search rules in
    rw (to_z-of_z w128 c.product_at.result fits) (here.0, omega (arith, ints, here.1))

pub loop-i-preserved : goal.loop-i-preserved
loop-i-preserved c =
    let product_fits : FitsSigned w128 c.product_at.result = search rules in
    let sum_fits : FitsSigned w128 c.sum-all.result = search rules in
    let e : c.sum-all.result ≡ to_z w128 c.loop-i.all-bits +ℤ c.product_at.result =
    c.sum-all.ensures.value ∙ ap (λ x. to_z w128 c.loop-i.all-bits +ℤ x)
    (to_z-of_z w128 c.product_at.result product_fits) in
    let s = to_z-of_z w128 c.sum-all.result sum_fits in
    record {
      value = s ∙ one_more_total c.loop-i.i (λ i.
          whole_in c.args.numbers.now (c.args.at + i) *ℤ pos (bound_in c.args.bounds.now i)) _ _ _ e
          c.loop-i.invariant.value c.product_at.ensures.value;
      fits = λ most h. subst (λ x. IsUpTo ((c.loop-i.i + 1) * (most * 2 ^ 31)) x) (sym s)
          (one_more_fits c.loop-i.i (most * 2 ^ 31) (to_z w128 c.loop-i.all-bits) c.product_at.result
          c.sum-all.result e (c.loop-i.invariant.fits most h) (c.product_at.ensures.fits most h));
    }

pub returns-clause-fits : goal.returns-clause-fits
returns-clause-fits c most h =
    let all : c.loop-i.i ≡ length c.args.bounds.now = omega (arith, c.loop-i-test.false, c.loop-i.auto.i-end) in
    subst (λ n. IsUpTo (n * (most * 2 ^ 31)) (to_z w128 c.loop-i.all-bits)) all (c.loop-i.invariant.fits most h)
