use Rattle.std.proofs.Common.{◌≡◌, arith}
use Rattle.std.proofs.lemmas.Int.{ints}
use Rattle.fx_machine.proofs.Adding.{product_at, sum_further, reach_further}
use Rattle.fx_machine.proofs.sums.plain_sum.Goals as goal

pub loop-term-preserved : goal.loop-term-preserved
loop-term-preserved c =
    let below = c.loop-term-test.true in
    let value = sum_further c.args.words.now c.args.terms.now c.loop-term.term-index below in
    let reach = reach_further c.args.words.now c.args.terms.now c.loop-term.term-index below in
    let product : c.product_64-sum.result
    ≡ product_at c.args.words.now c.args.terms.now c.loop-term.term-index = c.product_64-sum.ensures in
    record {
      value = omega (arith, ints, value, product, c.loop-term.invariant.value);
      reach = omega (arith, ints, reach, product, c.loop-term.invariant.reach);
    }
