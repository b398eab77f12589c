use Rattle.std.proofs.Common.{arith, to_z-of_z, ap, ◌≡◌, ◌+◌, unsigned_abs, true, false}
use Rattle.std.proofs.lemmas.Int.{ints}
use Rattle.fx_nums.specs.Interval.{Interval}
use Rattle.fx_ratio.proofs.Signs.{down_ends, signs_differ, up_ends}
use Rattle.fx_ratio.proofs.products.small_span.Goals as goal

pub returns-then-w-num-clause-floor : goal.returns-then-w-num-clause-floor
returns-then-w-num-clause-floor c =
    let w_fits = c.ranges.w in
    let num_fits = c.ranges.num in
    let differ : signs_differ c.args.w c.args.num ≡ true = simp to_z-of_z at c.if-w-num.true in
    let x_is : c.unsigned_abs.result ≡ unsigned_abs c.args.w = simp to_z-of_z at c.unsigned_abs.ensures.value in
    let m_is : c.unsigned_abs-2.result ≡ unsigned_abs c.args.num = simp to_z-of_z at c.unsigned_abs-2.ensures.value in
    omega (
      arith,
      ints,
      ap (λ (i : Interval). i.lo) c.above.ensures,
      (down_ends c.args.w c.args.num c.unsigned_abs.result c.unsigned_abs-2.result c.args.den
          c.magnitude-floor.result.0 (c.magnitude-floor.result.0 + c.magnitude-floor.result.1)
          c.requires.kept.positive differ x_is m_is c.magnitude-floor.ensures.floor c.magnitude-floor.ensures.ceil).0,
      c.magnitude-floor.ensures.floor_in,
      c.magnitude-floor.ensures.apart,
    )

pub returns-then-w-num-clause-ceil : goal.returns-then-w-num-clause-ceil
returns-then-w-num-clause-ceil c =
    let w_fits = c.ranges.w in
    let num_fits = c.ranges.num in
    let differ : signs_differ c.args.w c.args.num ≡ true = simp to_z-of_z at c.if-w-num.true in
    let x_is : c.unsigned_abs.result ≡ unsigned_abs c.args.w = simp to_z-of_z at c.unsigned_abs.ensures.value in
    let m_is : c.unsigned_abs-2.result ≡ unsigned_abs c.args.num = simp to_z-of_z at c.unsigned_abs-2.ensures.value in
    omega (
      arith,
      ints,
      ap (λ (i : Interval). i.hi) c.above.ensures,
      (down_ends c.args.w c.args.num c.unsigned_abs.result c.unsigned_abs-2.result c.args.den
          c.magnitude-floor.result.0 (c.magnitude-floor.result.0 + c.magnitude-floor.result.1)
          c.requires.kept.positive differ x_is m_is c.magnitude-floor.ensures.floor c.magnitude-floor.ensures.ceil).1,
      c.magnitude-floor.ensures.floor_in,
      c.magnitude-floor.ensures.apart,
    )

pub returns-else-w-num-clause-floor : goal.returns-else-w-num-clause-floor
returns-else-w-num-clause-floor c =
    let w_fits = c.ranges.w in
    let num_fits = c.ranges.num in
    let same : signs_differ c.args.w c.args.num ≡ false = simp to_z-of_z at c.if-w-num.false in
    let x_is : c.unsigned_abs.result ≡ unsigned_abs c.args.w = simp to_z-of_z at c.unsigned_abs.ensures.value in
    let m_is : c.unsigned_abs-2.result ≡ unsigned_abs c.args.num = simp to_z-of_z at c.unsigned_abs-2.ensures.value in
    omega (
      arith,
      ints,
      ap (λ (i : Interval). i.lo) c.above-else-w-num.ensures,
      (up_ends c.args.w c.args.num c.unsigned_abs.result c.unsigned_abs-2.result c.args.den
          c.magnitude-floor.result.0 (c.magnitude-floor.result.0 + c.magnitude-floor.result.1)
          c.requires.kept.positive same x_is m_is c.magnitude-floor.ensures.floor c.magnitude-floor.ensures.ceil).0,
      c.magnitude-floor.ensures.floor_in,
      c.magnitude-floor.ensures.apart,
    )

pub returns-else-w-num-clause-ceil : goal.returns-else-w-num-clause-ceil
returns-else-w-num-clause-ceil c =
    let w_fits = c.ranges.w in
    let num_fits = c.ranges.num in
    let same : signs_differ c.args.w c.args.num ≡ false = simp to_z-of_z at c.if-w-num.false in
    let x_is : c.unsigned_abs.result ≡ unsigned_abs c.args.w = simp to_z-of_z at c.unsigned_abs.ensures.value in
    let m_is : c.unsigned_abs-2.result ≡ unsigned_abs c.args.num = simp to_z-of_z at c.unsigned_abs-2.ensures.value in
    omega (
      arith,
      ints,
      ap (λ (i : Interval). i.hi) c.above-else-w-num.ensures,
      (up_ends c.args.w c.args.num c.unsigned_abs.result c.unsigned_abs-2.result c.args.den
          c.magnitude-floor.result.0 (c.magnitude-floor.result.0 + c.magnitude-floor.result.1)
          c.requires.kept.positive same x_is m_is c.magnitude-floor.ensures.floor c.magnitude-floor.ensures.ceil).1,
      c.magnitude-floor.ensures.floor_in,
      c.magnitude-floor.ensures.apart,
    )
