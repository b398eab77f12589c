use Rattle.std.proofs.Common.{◌≡◌, ℕ, ◌^◌, ◌≤◌, nat_le, ℤ, ◌+ℤ◌, arith}
use Rattle.std.specs.Int.{w64, cast_unsigned as of_z, cast_signed as to_z}
use Rattle.std.proofs.lemmas.Int.{ints}
use Rattle.fx_machine.specs.Prepared.{half_of, is_outside}
use Rattle.fx_machine.proofs.Adding.{product_at, sum_further, reach_further, watched_step}
use Rattle.fx_machine.proofs.Bits.{half_small, at_half, or_reaches}
use Rattle.fx_machine.proofs.sums.watched_sum_62.Goals as goal

small : (half bits : ℕ) → bits ≤ 61 → half ≡ half_of bits → half ≤ 2 ^ 62
small half bits h e = rw e (half_small bits 62 (omega (arith, h)))

pub raised-seen-requires : goal.raised-seen-requires
raised-seen-requires c = small _ _ c.requires.high c.half_64-half.ensures

pub raised-seen-requires-in-loop-term : goal.raised-seen-requires-in-loop-term
raised-seen-requires-in-loop-term c = small _ _ c.requires.high c.half_64-half.ensures

pub overflow_add-result : goal.overflow_add-result
overflow_add-result c = let bound = small _ _ c.requires.high c.half_64-half.ensures in omega (arith, bound)

pub loop-term-preserved : goal.loop-term-preserved
loop-term-preserved c =
    let bits = c.args.bits in
    let below = c.loop-term-test.true in
    let i = c.loop-term.term-index in
    let value = sum_further c.args.words.now c.args.terms.now i below in
    let reach = reach_further c.args.words.now c.args.terms.now i below in
    let product : c.product_64-sum.result ≡ product_at c.args.words.now c.args.terms.now i = c.product_64-sum.ensures in
    let sum : ℤ = to_z w64 c.loop-term.sum-bits in
    let next : ℤ = to_z w64 (of_z w64 (sum +ℤ to_z w64 (of_z w64 c.product_64-sum.result))) in
    let adds : next ≡ sum +ℤ product_at c.args.words.now c.args.terms.now i =
    omega (arith, ints, product, reach, c.loop-term.invariant.reach) in
    let raised = c.raised-seen-in-loop-term.result in
    let outside : nat_le (2 ^ bits) raised ≡ is_outside bits next =
    at_half c.half_64-half.result bits raised next c.half_64-half.ensures c.requires.low
    c.raised-seen-in-loop-term.ensures in
    record {
      value = omega (arith, ints, value, adds, c.loop-term.invariant.value);
      reach = omega (arith, ints, reach, adds, c.loop-term.invariant.reach);
      watched = rw (or_reaches bits _ raised) (watched_step bits c.args.words.now c.args.terms.now i sum next _
          _ _ below
          adds outside c.loop-term.invariant.watched);
    }
