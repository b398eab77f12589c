use Rattle.std.proofs.Common.{◌≡◌, ℤ, ◌+ℤ◌, arith}
use Rattle.std.specs.Int.{w128, cast_unsigned as of_z, cast_signed as to_z}
use Rattle.std.proofs.lemmas.Int.{ints}
use Rattle.fx_machine.specs.Prepared.{is_outside}
use Rattle.fx_machine.proofs.Adding.{product_at, sum_further, reach_further, watched_step}
use Rattle.fx_machine.proofs.sums.watched_sum_128.Goals as goal

pub loop-term-preserved : goal.loop-term-preserved
loop-term-preserved c =
    let below = c.loop-term-test.true in
    let i = c.loop-term.term-index in
    let value = sum_further c.args.words.now c.args.terms.now i below in
    let reach = reach_further c.args.words.now c.args.terms.now i below in
    let product : c.product_128-sum.result ≡ product_at c.args.words.now c.args.terms.now i =
    c.product_128-sum.ensures in
    let sum : ℤ = to_z w128 c.loop-term.sum-bits in
    let next : ℤ = to_z w128 (of_z w128 (sum +ℤ to_z w128 (of_z w128 c.product_128-sum.result))) in
    let adds : next ≡ sum +ℤ product_at c.args.words.now c.args.terms.now i =
    omega (arith, ints, product, reach, c.loop-term.invariant.reach) in
    let outside : c.is_outside_128-left-in-loop-term.result ≡ is_outside c.args.bits next =
    c.is_outside_128-left-in-loop-term.ensures in
    record {
      value = omega (arith, ints, value, adds, c.loop-term.invariant.value);
      reach = omega (arith, ints, reach, adds, c.loop-term.invariant.reach);
      watched = watched_step c.args.bits c.args.words.now c.args.terms.now i sum next _ _ _ below adds outside
          c.loop-term.invariant.watched;
    }
