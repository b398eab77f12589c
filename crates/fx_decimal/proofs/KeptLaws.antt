-- What is kept of digits is their number without the zeros at its end.
use Rattle.std.proofs.Common.{◌≡◌, ◌≢◌, ◌⊎◌, ◌≤◌, ◌<◌, ◌+◌, ◌-◌, ◌*◌, ◌/◌, ◌%◌, ◌^◌, ◌==◌, ◌∙◌, ℕ, zero, suc, ℤ}
use Rattle.std.proofs.Common.{pos, ◌+ℤ◌, ◌-ℤ◌, Bool, false, min, List, [], ◌∷◌, ◌++◌, length, refl, ap, arith}
use Rattle.std.proofs.Common.{inl, inr, add-one}
use Rattle.std.proofs.lemmas.Bool.{cases_Bool, eqb-true}
use Rattle.std.proofs.lemmas.Bool.Decides.{nat_tests}
use Rattle.std.proofs.lemmas.Grind.{pow_more}
use Rattle.std.proofs.Math.Nat.{mul_assoc, mul-le-mul_right}
use Rattle.std.specs.List.{AllByRecursion}
use Rattle.std.specs.Prelude.{nat_lt}
use Rattle.fx_decimal.specs.Kept.{kept_from, with_digit}
use Rattle.fx_nums.specs.Signs.{IsDigit, number_from}
use Rattle.fx_decimal.specs.Numeral.{digits_value, limited, without_zeros}
use Rattle.fx_decimal.proofs.Digits.{ten_some}
use Rattle.fx_decimal.specs.declared.value.Kept.{Kept}

-- of k digits that write n this is kept
record Stands (k n : ℕ) (s : Kept) : Type 0 where
  digits : ℕ
  number : n ≡ digits * 10 ^ s.zeros
  last : (digits % 10 ≢ 0) ⊎ ((digits ≡ 0) × (s.zeros ≡ k))
  zeros : s.zeros ≤ k
  kept : s.number ≡ min digits (10 ^ 18)

ten_times : (d z : ℕ) → d * 10 ^ (z + 1) ≡ 10 * (d * 10 ^ z)
ten_times d z =
    let power : 10 ^ (z + 1) ≡ 10 ^ z * 10 = pow_more 10 z in
    rw (power, ← mul_assoc d (10 ^ z) 10) (omega arith)

one_more : (d z k : ℕ) → (d % 10 ≢ 0) ⊎ ((d ≡ 0) × (z ≡ k)) → (d % 10 ≢ 0) ⊎ ((d ≡ 0) × (z + 1 ≡ k + 1))
one_more d z k (inl odd) = inl odd
one_more d z k (inr p) = inr (p.0, ap (λ (x : ℕ). x + 1) p.1)

zero_stands : (k n : ℕ) (s : Kept) → Stands k n s →
    Stands (k + 1) (10 * n + (48 - 48)) (record { number = s.number; zeros = s.zeros + 1 })
zero_stands k n s h =
    let before = h.number in
    let times = ten_times h.digits s.zeros in
    record {
      digits = h.digits;
      number = omega arith;
      last = one_more h.digits s.zeros k h.last;
      zeros =
          omega (arith, h.zeros);
      kept = h.kept;
    }

grows : (d z x : ℕ) → min (min d (10 ^ 18) * 10 ^ (z + 1) + x) (10 ^ 18) ≡ min (d * 10 ^ (z + 1) + x) (10 ^ 18)
grows d z x =
    let some : 0 < 10 ^ (z + 1) = ten_some (z + 1) in
    elim (cases_Bool (nat_lt d (10 ^ 18))) [
      | inl small ↦ let same : min d (10 ^ 18) ≡ d = grind (arith, nat_tests) in rw same refl
      | inr large ↦
          let far : 10 ^ 18 ≤ d = grind (arith, nat_tests) in
          let same : min d (10 ^ 18) ≡ 10 ^ 18 = omega arith in
          let more : 10 ^ 18 * 1 ≤ 10 ^ 18 * 10 ^ (z + 1) = omega arith in
          let up : 10 ^ 18 * 10 ^ (z + 1) ≤ d * 10 ^ (z + 1) = mul-le-mul_right (10 ^ (z + 1)) far in
          rw same (omega arith)
    ]

other_stands : (k n c : ℕ) (s : Kept) → IsDigit c → c ≢ 48 → Stands k n s →
    Stands (k + 1) (10 * n + (c - 48)) (record {
      number =
          min (s.number * 10 ^ (s.zeros + 1) + (c - 48)) (10 ^ 18);
      zeros = 0;
    })
other_stands k n c s digit other h =
    let before : n ≡ h.digits * 10 ^ s.zeros = h.number in
    let times = ten_times h.digits s.zeros in
    let whole : h.digits * 10 ^ (s.zeros + 1) ≡ 10 * n = omega arith in
    let low = digit.0 in
    let top = digit.1 in
    let odd : (10 * n + (c - 48)) % 10 ≢ 0 = λ e. other (omega arith) in
    record {
      digits = 10 * n + (c - 48);
      number = omega arith;
      last = inl odd;
      zeros = omega arith;
      kept = rw h.kept (grows h.digits s.zeros (c - 48) ∙ ap (λ (m : ℕ). min (m + (c - 48)) (10 ^ 18)) whole);
    }

digit_stands : (k n c : ℕ) (s : Kept) → IsDigit c → Stands k n s → Stands (k + 1) (10 * n + (c - 48)) (with_digit s c)
digit_stands k n c s digit h = elim (cases_Bool (c == 48)) [
  | inl is ↦
      let same : c ≡ 48 = eqb-true c 48 is in
      rw (is, same) (zero_stands k n s h)
  | inr other ↦
      let different : c ≢ 48 = grind (arith, nat_tests) in
      rw other (other_stands k n c s digit different h)
]

all_stand : (k n : ℕ) (s : Kept) (cs : List ℕ) → AllByRecursion IsDigit cs → Stands k n s →
    Stands (k + length cs) (number_from n cs) (kept_from s cs)
all_stand k n s [] all h = let same : k + 0 ≡ k = omega arith in rw same h
all_stand k n s (c ∷ cs) all h =
    let same : k + suc (length cs) ≡ k + 1 + length cs = omega arith in
    rw same (all_stand (k + 1) (10 * n + (c - 48)) (with_digit s c) cs all.1 (digit_stands k n c s all.0 h))

-- ---- without the zeros

nothing_left : (k : ℕ) → without_zeros k 0 ≡ (0, k)
nothing_left zero = refl
nothing_left (suc k) = rw (nothing_left k) (ap (λ (x : ℕ). (0, x)) (omega arith))

zeros_off : (k d z : ℕ) → d % 10 ≢ 0 → z ≤ k → without_zeros k (d * 10 ^ z) ≡ (d, z)
zeros_off zero d zero odd fits = ap (λ (x : ℕ). (x, 0)) (omega arith)
zeros_off (suc k) d zero odd fits =
    let one : d * 10 ^ 0 ≡ d = omega arith in
    let test : (d % 10 == 0) ≡ false = grind (arith, nat_tests) in
    rw (one, test) refl
zeros_off zero d (suc z) odd fits = absurd (omega arith)
zeros_off (suc k) d (suc z) odd fits =
    let times : d * 10 ^ (z + 1) ≡ 10 * (d * 10 ^ z) = ten_times d z in
    let same : d * 10 ^ suc z ≡ 10 * (d * 10 ^ z) = rw add-one at times in
    let even : (10 * (d * 10 ^ z)) % 10 ≡ 0 = omega arith in
    let tenth : 10 * (d * 10 ^ z) / 10 ≡ d * 10 ^ z = omega arith in
    rw (same, even, tenth, zeros_off k d z odd (omega arith)) (ap (λ (x : ℕ). (d, x)) (omega arith))

capped : (negative : Bool) (d : ℕ) (p : ℤ) → limited negative (min d (10 ^ 18)) p ≡ limited negative d p
capped negative d p = elim (cases_Bool (nat_lt d (10 ^ 18))) [
  | inl small ↦ let same : min d (10 ^ 18) ≡ d = grind (arith, nat_tests) in rw same refl
  | inr large ↦
      let far : 10 ^ 18 ≤ d = grind (arith, nat_tests) in
      let same : min d (10 ^ 18) ≡ 10 ^ 18 = omega arith in
      let some : (d == 0) ≡ false = grind (arith, nat_tests) in
      rw (same, some, large) refl
]

off : (k n : ℕ) (s : Kept) (h : Stands k n s) → without_zeros k n ≡ (h.digits, s.zeros)
off k n s h = elim h.last [
  | inl odd ↦ rw h.number (zeros_off k h.digits s.zeros odd h.zeros)
  | inr p ↦
      let none : n ≡ 0 = rw (h.number, p.0) (omega arith) in
      rw (none, p.0, p.1) (nothing_left k)
]

begins : Stands 0 0 (record { number = 0; zeros = 0 })
begins = record { digits = 0; number = omega arith; last = inr (refl, refl); zeros = omega arith; kept = omega arith }

pub kept_value : (negative : Bool) (ds : List ℕ) (after : ℕ) (exponent : ℤ) → AllByRecursion IsDigit ds →
    limited negative (kept_from (record { number = 0; zeros = 0 }) ds).number
    ((exponent -ℤ pos after) +ℤ pos (kept_from (record { number = 0; zeros = 0 }) ds).zeros)
    ≡ digits_value negative ds after exponent
unfolding digits_value
kept_value negative ds after exponent all =
    let none : Kept = record { number = 0; zeros = 0 } in
    let s : Kept = kept_from none ds in
    let count : 0 + length ds ≡ length ds = omega arith in
    let h : Stands (length ds) (number_from 0 ds) s = rw count at (all_stand 0 0 none ds all begins) in
    let same : without_zeros (length ds) (number_from 0 ds) ≡ (h.digits, s.zeros) =
    off (length ds) (number_from 0 ds) s h in
    rw (same, h.kept) (capped negative h.digits ((exponent -ℤ pos after) +ℤ pos s.zeros))

pub kept_on : (s : Kept) (a b : List ℕ) → kept_from s (a ++ b) ≡ kept_from (kept_from s a) b
kept_on s [] b = refl
kept_on s (c ∷ cs) b = kept_on (with_digit s c) cs b

pub all_on : (a b : List ℕ) → AllByRecursion IsDigit a → AllByRecursion IsDigit b → AllByRecursion IsDigit (a ++ b)
all_on [] b p q = q
all_on (c ∷ cs) b p q = (p.0, all_on cs b p.1 q)
