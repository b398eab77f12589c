-- Sums of the scaled entries of a row, and what lies within them.
use Rattle.std.proofs.Common.{◌≡◌, ℕ, ◌+◌, ◌*◌, ◌/◌, ◌^◌, ◌≤◌, refl, arith}
use Rattle.std.proofs.Common.{add-one, ℤ, pos, ◌+ℤ◌, ◌*ℤ◌, ◌≤ℤ◌, unsigned_abs}
use Rattle.std.proofs.lemmas.Int.{ints}
use borrow.Author.Differences.{abs_is}
use Rattle.fx_math.specs.Sums.{total}
use Rattle.fx_math.proofs.Ring.{mul_assoc, add-mul}
use Rattle.fx_math.proofs.Division.{mul_le_nat}
use Rattle.fx_math.proofs.Lines.{swapped, split_factor}
use Rattle.fx_math.specs.Ratio.{product_of, Ratio}
use Rattle.fx_nums.specs.Arithmetic.{IsWithin, scaled}
use Rattle.fx_nums.specs.Enclosing.{Encloses}
use Rattle.fx_nums.specs.Fraction.{den_value, Fraction, IsWholeOver, over, value_of}
use Rattle.fx_nums.specs.Interval.{Interval, IntervalFits, plus}
use Rattle.fx_mat.specs.Intervals.{EnclosesSums, IsRowByColumn, row_by_column, zero_interval}

-- v is the sum of the first n
pub record IsPartial (n : ℕ) (row : ℕ → Interval) (column : ℕ → Fraction) (v : Interval) : Type 0 where
  pub value : v ≡ row_by_column n row column
  pub small : IsWithin (n * 2 ^ 112) v
  pub encloses : EnclosesSums n row column v

pub partial_start : (row : ℕ → Interval) (column : ℕ → Fraction) (v : Interval) → v ≡ zero_interval →
    IsPartial 0 row column v
partial_start row column v e = rw e (record {
  value = refl;
  small = record { low = omega arith; high = omega arith };
  encloses = λ x den q h w. record { low = omega (arith, ints); high = omega (arith, ints) };
})

-- an operand of a product, as a multiple of 2 ^ 32
pub operand_within : (i : Interval) → IntervalFits i 88 → IsWithin (2 ^ 56 * 2 ^ 32) i
operand_within i f = record { low = omega (arith, f.lo_fits); high = omega (arith, f.hi_fits) }

sum_within : (a b : ℤ) (m n : ℕ) → unsigned_abs a ≤ m → unsigned_abs b ≤ n → unsigned_abs (a +ℤ b) ≤ m + n
sum_within a b m n h k = omega (arith, ints, abs_is)

-- a bound times a number that a denominator divides
raised : (l n : ℤ) (den d t q : ℕ) → d * t ≡ q → (l *ℤ pos (den * d)) ≤ℤ (n *ℤ pos (2 ^ 64)) →
    (l *ℤ pos (den * q)) ≤ℤ (n *ℤ pos t *ℤ pos (2 ^ 64))
raised l n den d t q e h =
    let same : den * q ≡ t * (den * d) = rw (← e) (omega arith) in
    rw (same, split_factor l t (den * d), swapped n (pos t) (pos (2 ^ 64)))
    (mul_le_nat (l *ℤ pos (den * d)) (n *ℤ pos (2 ^ 64)) t h)

raised_high : (l n : ℤ) (den d t q : ℕ) → d * t ≡ q → (n *ℤ pos (2 ^ 64)) ≤ℤ (l *ℤ pos (den * d)) →
    (n *ℤ pos t *ℤ pos (2 ^ 64)) ≤ℤ (l *ℤ pos (den * q))
raised_high l n den d t q e h =
    let same : den * q ≡ t * (den * d) = rw (← e) (omega arith) in
    rw (same, split_factor l t (den * d), swapped n (pos t) (pos (2 ^ 64)))
    (mul_le_nat (n *ℤ pos (2 ^ 64)) (l *ℤ pos (den * d)) t h)

-- the product of a value with a fraction, over q
one_more : (v : Interval) (c : Fraction) (x : ℤ) (den q : ℕ) → IsWholeOver q c →
    Encloses v (record { num = x *ℤ c.num; den = den * den_value c.den }) →
    Encloses v (record { num = x *ℤ over q c; den = den * q })
one_more v c x den q w h =
    let t = q / den_value c.den in
    let same = mul_assoc x c.num (pos t) in
    record {
      low = rw (← same) (raised v.lo (x *ℤ c.num) den (den_value c.den) t q w h.low);
      high = rw (← same) (raised_high v.hi (x *ℤ c.num) den (den_value c.den) t q w h.high);
    }

sum_encloses : (a b : Interval) (m n : ℤ) (den : ℕ) → Encloses a (record { num = m; den = den }) →
    Encloses b (record { num = n; den = den }) → Encloses (plus a b) (record { num = m +ℤ n; den = den })
sum_encloses a b m n den h k = record {
  low = rw (add-mul a.lo b.lo (pos den), add-mul m n (pos (2 ^ 64))) (omega (arith, ints, h.low, k.low));
  high = rw (add-mul a.hi b.hi (pos den), add-mul m n (pos (2 ^ 64))) (omega (arith, ints, h.high, k.high));
}

pub partial_more : (n : ℕ) (row : ℕ → Interval) (column : ℕ → Fraction) (v s w : Interval) →
    IsPartial n row column v → s ≡ scaled (row n) (column n) → IsWithin (2 ^ 56 * 2 ^ 56) s →
    ((x : Ratio) → Encloses (row n) x → Encloses s (product_of x (value_of (column n)))) → w ≡ plus v s →
    IsPartial (n + 1) row column w
partial_more n row column v s w p is small within sum = rw (add-one, sum) record {
  value = rw (is, p.value) refl;
  small = record {
    low = omega (arith, sum_within v.lo s.lo (n * 2 ^ 112) (2 ^ 112) p.small.low small.low);
    high = omega (arith, sum_within v.hi s.hi (n * 2 ^ 112) (2 ^ 112) p.small.high small.high);
  };
  encloses = λ x den q h k.
      sum_encloses v s (total n (λ i. x i *ℤ over q (column i))) (x n *ℤ over q (column n)) (den * q)
      (p.encloses x den q (λ i l. h i (omega arith)) (λ i l. k i (omega arith)))
      (one_more s (column n) (x n) den q (k n (omega arith))
      (within (record { num = x n; den = den }) (h n (omega arith))));
}

pub partial_done : (n m : ℕ) (row : ℕ → Interval) (column : ℕ → Fraction) (v : Interval) → n ≡ m →
    IsPartial n row column v → IsRowByColumn m row column v
partial_done n m row column v e p = rw (← e) record { value = p.value; encloses = p.encloses }
