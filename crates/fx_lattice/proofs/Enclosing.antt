-- What operations on intervals enclose.
use Rattle.std.proofs.Common.{◌≡◌, ℕ, ◌*◌, ◌^◌, ◌<◌, Bool, true, false, cond, Some, None, refl, sym, arith, ℤ}
use Rattle.std.proofs.Common.{pos, neg_ℤ, ◌+ℤ◌, ◌-ℤ◌, ◌*ℤ◌, ◌≤ℤ◌}
use Rattle.std.proofs.lemmas.Int.{ints}
use Rattle.std.proofs.lemmas.Option.{cond_some, option_and_then_some}
use Rattle.fx_math.specs.Ratio.{difference_of, product_of, Ratio, SameValue, whole}
use Rattle.fx_math.proofs.Division.{mul_le_nat}
use Rattle.fx_math.proofs.Lines.{le_trans, mul_le_back, swapped}
use Rattle.fx_math.proofs.Polynomials.{add, int, mul, nat, neg, same_value, sub}
use Rattle.fx_nums.specs.Arithmetic.{divided, has_zero, times, widened}
use Rattle.fx_nums.specs.Enclosing.{Encloses}
use Rattle.fx_nums.specs.Interval.{Interval, opposite, plus}
use Rattle.fx_nums.proofs.EndLaws.{greatest_high, least_low, times_encloses, widened_ordered}
use Rattle.fx_nums.proofs.QuotientLaws.{divided_encloses}
use Rattle.fx_lattice.specs.Operations.{fits, in_range, less_product, one_point, quotient}

-- ---- the same value

same_low : (l n m : ℤ) (d e : ℕ) → 0 < d → (l *ℤ pos d) ≤ℤ (n *ℤ pos (2 ^ 64)) → n *ℤ pos e ≡ m *ℤ pos d →
    (l *ℤ pos e) ≤ℤ (m *ℤ pos (2 ^ 64))
same_low l n m d e some h same =
    mul_le_back (l *ℤ pos e) (m *ℤ pos (2 ^ 64)) d some
    (rw (
      swapped l (pos e) (pos d),
      swapped m (pos (2 ^ 64)) (pos d),
      ← same,
      swapped n (pos e) (pos (2 ^ 64)),
    ) (mul_le_nat (l *ℤ pos d) (n *ℤ pos (2 ^ 64)) e h))

same_high : (l n m : ℤ) (d e : ℕ) → 0 < d → (n *ℤ pos (2 ^ 64)) ≤ℤ (l *ℤ pos d) → n *ℤ pos e ≡ m *ℤ pos d →
    (m *ℤ pos (2 ^ 64)) ≤ℤ (l *ℤ pos e)
same_high l n m d e some h same =
    mul_le_back (m *ℤ pos (2 ^ 64)) (l *ℤ pos e) d some
    (rw (
      swapped l (pos e) (pos d),
      swapped m (pos (2 ^ 64)) (pos d),
      ← same,
      swapped n (pos e) (pos (2 ^ 64)),
    ) (mul_le_nat (n *ℤ pos (2 ^ 64)) (l *ℤ pos d) e h))

pub same_encloses : (i : Interval) (x y : Ratio) → 0 < x.den → Encloses i x → SameValue x y → Encloses i y
same_encloses i x y some h same = record {
  low = same_low i.lo x.num y.num x.den y.den some h.low same;
  high = same_high i.hi x.num y.num x.den y.den some h.high same;
}

-- ---- differences

-- both sides of an inequality between differences, multiplied out
spread : (a p : ℤ) (d e : ℕ) → (a +ℤ neg_ℤ p) *ℤ pos (d * e) ≡ a *ℤ pos d *ℤ pos e -ℤ p *ℤ pos e *ℤ pos d
spread a p d e = same_value (mul (add (int a) (neg (int p))) (nat (d * e)))
    (sub (mul (mul (int a) (nat d)) (nat e)) (mul (mul (int p) (nat e)) (nat d))) (omega arith)

spread_scaled : (x y : ℤ) (d e s : ℕ) → (x *ℤ pos e -ℤ y *ℤ pos d) *ℤ pos s ≡ x *ℤ pos s *ℤ pos e -ℤ y *ℤ pos s *ℤ pos d
spread_scaled x y d e s =
    same_value (mul (sub (mul (int x) (nat e)) (mul (int y) (nat d))) (nat s))
    (sub (mul (mul (int x) (nat s)) (nat e)) (mul (mul (int y) (nat s)) (nat d))) (omega arith)

apart : (a b c d : ℤ) → a ≤ℤ b → c ≤ℤ d → (a -ℤ d) ≤ℤ (b -ℤ c)
apart a b c d h k = omega (arith, ints)

less_low : (a p x y : ℤ) (d e : ℕ) → (a *ℤ pos d) ≤ℤ (x *ℤ pos (2 ^ 64)) →
    (y *ℤ pos (2 ^ 64)) ≤ℤ (p *ℤ pos e) →
    ((a +ℤ neg_ℤ p) *ℤ pos (d * e)) ≤ℤ ((x *ℤ pos e -ℤ y *ℤ pos d) *ℤ pos (2 ^ 64))
less_low a p x y d e h k =
    rw (spread a p d e, spread_scaled x y d e (2 ^ 64))
    (apart (a *ℤ pos d *ℤ pos e) (x *ℤ pos (2 ^ 64) *ℤ pos e) (y *ℤ pos (2 ^ 64) *ℤ pos d)
    (p *ℤ pos e *ℤ pos d) (mul_le_nat (a *ℤ pos d) (x *ℤ pos (2 ^ 64)) e h)
    (mul_le_nat (y *ℤ pos (2 ^ 64)) (p *ℤ pos e) d k))

less_high : (a p x y : ℤ) (d e : ℕ) → (x *ℤ pos (2 ^ 64)) ≤ℤ (a *ℤ pos d) →
    (p *ℤ pos e) ≤ℤ (y *ℤ pos (2 ^ 64)) →
    ((x *ℤ pos e -ℤ y *ℤ pos d) *ℤ pos (2 ^ 64)) ≤ℤ ((a +ℤ neg_ℤ p) *ℤ pos (d * e))
less_high a p x y d e h k =
    rw (spread a p d e, spread_scaled x y d e (2 ^ 64))
    (apart (x *ℤ pos (2 ^ 64) *ℤ pos e) (a *ℤ pos d *ℤ pos e) (p *ℤ pos e *ℤ pos d)
    (y *ℤ pos (2 ^ 64) *ℤ pos d) (mul_le_nat (x *ℤ pos (2 ^ 64)) (a *ℤ pos d) e h)
    (mul_le_nat (p *ℤ pos e) (y *ℤ pos (2 ^ 64)) d k))

pub less_encloses : (i j : Interval) (x y : Ratio) → Encloses i x → Encloses j y →
    Encloses (plus i (opposite j)) (difference_of x y)
less_encloses i j x y h k = record {
  low = less_low i.lo j.hi x.num y.num x.den y.den h.low k.high;
  high = less_high i.hi j.lo x.num y.num x.den y.den h.high k.low;
}

-- ---- operations in range

in_range_is : (i j : Interval) → in_range i ≡ Some j → i ≡ j
unfolding in_range
in_range_is i j h = (cond_some (fits i) i j h).1

pub one_encloses : Encloses one_point (whole (pos 1))
one_encloses = record { low = omega (arith, ints); high = omega (arith, ints) }

pub less_product_encloses : (i j k r : Interval) (x y z : Ratio) → less_product i j k ≡ Some r → Encloses i x →
    Encloses j y → Encloses k z → Encloses r (difference_of x (product_of y z))
unfolding less_product
less_product_encloses i j k r x y z made h g f =
    option_and_then_some (λ p. in_range (plus i (opposite p))) (in_range (times j k)) r made
    (λ p is also.
    let product_is : times j k ≡ p = in_range_is (times j k) p is in
    let result_is : plus i (opposite p) ≡ r = in_range_is (plus i (opposite p)) r also in
    let held = times_encloses j k p y z (sym product_is) g f in
    rw (← result_is) (less_encloses i p x (product_of y z) h held))

-- the ends of a difference are ordered where those of its first operand are
pub less_product_ordered : (i j k r : Interval) → less_product i j k ≡ Some r → i.lo ≤ℤ i.hi → r.lo ≤ℤ r.hi
unfolding less_product
less_product_ordered i j k r made h =
    option_and_then_some (λ p. in_range (plus i (opposite p))) (in_range (times j k)) r made
    (λ p is also.
    let product_is : times j k ≡ p = in_range_is (times j k) p is in
    let result_is : plus i (opposite p) ≡ r = in_range_is (plus i (opposite p)) r also in
    let w = widened j in
    let u = widened k in
    let low = least_low (w.lo *ℤ u.lo) (w.lo *ℤ u.hi) (w.hi *ℤ u.lo) (w.hi *ℤ u.hi) in
    let high = greatest_high (w.lo *ℤ u.lo) (w.lo *ℤ u.hi) (w.hi *ℤ u.lo) (w.hi *ℤ u.hi) in
    let ordered : p.lo ≤ℤ p.hi =
    rw (← product_is) (le_trans (times j k).lo (w.lo *ℤ u.lo) (times j k).hi low.first high.first) in
    rw (← result_is) (omega (arith, ints)))

pub quotient_encloses : (i j r : Interval) (q y : Ratio) → quotient i j ≡ Some r → j.lo ≤ℤ j.hi → 0 < y.den →
    Encloses j y → Encloses i (product_of q y) → Encloses r q
unfolding quotient
quotient_encloses i j r q y made ordered some h k = by_test (has_zero (widened j)) refl made
  where
    by_test : (t : Bool) → has_zero (widened j) ≡ t → cond t None (in_range (divided i j)) ≡ Some r → Encloses r q
    by_test true e f = cc
    by_test false e f =
        let result_is = in_range_is (divided i j) r f in
        divided_encloses i j r q y e (widened_ordered j.lo j.hi ordered) (sym result_is) some h k
