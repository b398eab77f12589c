-- The intervals of a sweep that begins in order stay in order.
use Rattle.std.proofs.Common.{ℕ, zero, suc, arith, sym, subst, inl, inr}
use Rattle.std.specs.Int.Signed.{◌≤ℤ◌}
use Rattle.std.proofs.lemmas.Int.{ints}
use Rattle.std.proofs.lemmas.Bool.{cases_lt}
use Rattle.fx_math.proofs.Sums.{total_le}
use Rattle.fx_nums.specs.Arithmetic.{multiple}
use Rattle.fx_nums.specs.Fraction.{Fraction}
use Rattle.fx_nums.specs.Interval.{Interval, plus}
use Rattle.fx_net.specs.Net.{Net}
use Rattle.fx_sweep.specs.Ordered.{AreOrdered, IntervalsStayOrdered}
use Rattle.fx_sweep.specs.Weights.{hand_on, settle, taken, carry, to_input, carried, settled, inputs}
use Rattle.fx_sweep.proofs.Moments.{hand_on_before, hand_on_past}
use Rattle.fx_sweep.proofs.Multiples.{multiple_ordered}

hand_on_ordered : (net : Net) (n : ℕ) (at : ℕ → Interval) → AreOrdered at → AreOrdered (hand_on net n at)
hand_on_ordered net n at h j = elim (cases_lt j n) [
  | inl l ↦ (let m : (multiple (at n).lo (net.now n j)).lo ≤ℤ (multiple (at n).lo (net.now n j)).hi =
      multiple_ordered (at n).lo (net.now n j) in
      let a : (at j).lo ≤ℤ (at j).hi = h j in
      let both : (plus (at j) (multiple (at n).lo (net.now n j))).lo ≤ℤ
      (plus (at j) (multiple (at n).lo (net.now n j))).hi = omega (arith, ints, m, a) in
      subst (λ (x : Interval). x.lo ≤ℤ x.hi) (sym (hand_on_before net n at j l)) both)
  | inr l ↦ subst (λ (x : Interval). x.lo ≤ℤ x.hi) (sym (hand_on_past net n at j l)) (h j)
]

settle_ordered : (net : Net) (n : ℕ) (at : ℕ → Interval) → AreOrdered at → AreOrdered (settle net n at)
settle_ordered net zero at h = h
settle_ordered net (suc n) at h = settle_ordered net n (hand_on net n at) (hand_on_ordered net n at h)

taken_ordered : (n : ℕ) (at : ℕ → Interval) (c : ℕ → Fraction) → (taken n at c).lo ≤ℤ (taken n at c).hi
taken_ordered n at c =
    total_le n (λ i. (multiple (at i).lo (c i)).lo) (λ i. (multiple (at i).lo (c i)).hi) (λ i l.
    multiple_ordered (at i).lo (c i))

carry_ordered : (net : Net) (at : ℕ → Interval) → AreOrdered (carry net at)
unfolding carry
carry_ordered net at j = taken_ordered net.rows at (λ i. net.old i j)

to_input_ordered : (net : Net) (at : ℕ → Interval) → AreOrdered (to_input net at)
unfolding to_input
to_input_ordered net at j = taken_ordered net.rows at (λ i. net.input i j)

pub carried_ordered : (net : Net) (start : ℕ → Interval) → AreOrdered start → (n : ℕ) → AreOrdered (carried net start n)
carried_ordered net start h zero = h
carried_ordered net start h (suc n) = carry_ordered net (settle net net.rows (carried net start n))

pub settled_ordered : (net : Net) (start : ℕ → Interval) → AreOrdered start → (n : ℕ) → AreOrdered (settled net start n)
settled_ordered net start h n = settle_ordered net net.rows (carried net start n) (carried_ordered net start h n)

pub inputs_ordered : (net : Net) (start : ℕ → Interval) (n : ℕ) → AreOrdered (inputs net start n)
inputs_ordered net start n = to_input_ordered net (settled net start n)

pub intervals_stay_ordered : IntervalsStayOrdered
intervals_stay_ordered net start n h = record {
  carried_are = carried_ordered net start h n;
  settled_are = settled_ordered net start h n;
  inputs_are = inputs_ordered net start n;
}
