-- Sums of intervals, and products with 0.
use Rattle.std.proofs.Common.{◌≡◌, ℕ, ◌+◌, ◌^◌, ◌<◌, ◌≤◌, arith, ap, ◌∙◌}
use Rattle.std.proofs.Math.IntN.{ℤ, pos, ◌*ℤ◌}
use Rattle.std.specs.Prelude.{unsigned_abs}
use Rattle.std.proofs.lemmas.Int.{ints}
use borrow.Author.Differences.{abs_is}
use Rattle.fx_nums.specs.Arithmetic.{multiple}
use Rattle.fx_nums.specs.Fraction.{Fraction}
use Rattle.fx_nums.specs.Interval.{Interval, IntervalFits, plus, point}
use Rattle.fx_nums.specs.Products.{IsRoundedProduct}
use Rattle.fx_sweep.specs.Steps.{IsNarrow, product_bound, product_apart}
use Rattle.fx_sweep.proofs.Multiples.{multiple_nothing}

-- ---- products with 0

ends_are : {a b c d : ℤ} → a ≡ c → b ≡ d → (let x : Interval = record { lo = a; hi = b } in x)
    ≡ record { lo = c; hi = d }
ends_are p q = λ i. record { lo = p i; hi = q i }

pub by_nothing : (w : ℤ) (c : Fraction) → unsigned_abs c.num ≡ 0 → multiple w c ≡ point (pos 0)
by_nothing w c h = multiple_nothing w c (let z : c.num ≡ pos 0 =
    omega (arith, ints, h) in ap (λ x. w *ℤ x) z ∙ omega (arith, ints))

pub plus_nothing : (x y : Interval) → y ≡ point (pos 0) → plus x y ≡ x
plus_nothing x y e = rw e (ends_are (omega (arith, ints)) (omega (arith, ints)))

-- ---- narrow intervals

pub product_narrow : (p num : ℤ) (den : ℕ) (i : Interval) → unsigned_abs p < 2 ^ 88 →
    IsRoundedProduct p num den i.lo i.hi → IsNarrow product_bound product_apart i
product_narrow p num den i small r = record {
  low = omega (arith, r.low_scales (2 ^ 56) (omega (arith, small)));
  high = omega (arith, r.high_scales (2 ^ 56) (omega (arith, small)));
  near = omega (arith, ints, r.near);
}

pub narrow_fits : (i : Interval) → IsNarrow product_bound product_apart i → IntervalFits i 119
narrow_fits i n = record { lo_fits = omega (arith, n.low); hi_fits = omega (arith, n.high) }

pub plus_narrow : (x y : Interval) (b w c v : ℕ) → IsNarrow b w x → IsNarrow c v y → IsNarrow (b + c) (w + v) (plus x y)
plus_narrow x y b w c v h k = record {
  low = omega (arith, ints, abs_is, h.low, k.low);
  high = omega (arith, ints, abs_is, h.high, k.high);
  near = omega (arith, ints, h.near, k.near);
}

pub wider : (x : Interval) (b w c v : ℕ) → b ≤ c → w ≤ v → IsNarrow b w x → IsNarrow c v x
wider x b w c v l m h = record {
  low = omega (arith, l, h.low);
  high = omega (arith, l, h.high);
  near =
      omega (arith, ints, m, h.near);
}
