-- Digits at the front of a text, and bounds on what they write.
use Rattle.std.proofs.Common.{◌≡◌, ◌≤◌, ◌<◌, ◌+◌, ◌-◌, ◌*◌, ◌^◌, ◌∙◌, ℕ, true}
use Rattle.std.proofs.Common.{min, List, [], ◌∷◌, ◌++◌, length, take, refl, sym, ap, arith, lit≤, inl}
use Rattle.std.proofs.Common.{inr}
use Rattle.std.proofs.lemmas.Bool.{cases_Bool, and_parts, leb-true}
use Rattle.std.proofs.lemmas.List.Folds.{length-prefix_len}
use Rattle.std.proofs.lemmas.List.Sums.{take_while-cons}
use Rattle.std.proofs.Math.Nat.{pow-le-pow_right, mul-le-mul_right}
use Rattle.std.specs.Char.{is_ascii_digit}
use Rattle.std.specs.List.{AllByRecursion}
use Rattle.std.specs.Prelude.{nat_le}
use Rattle.fx_decimal.specs.Faults.{front_digits}
use Rattle.fx_nums.specs.Signs.{IsDigit, number_from}

pub is_digit : (c : ℕ) → is_ascii_digit c ≡ true → IsDigit c
is_digit c h =
    let (low, top) = and_parts (nat_le 48 c) (nat_le c 57) h in
    (leb-true 48 c low, leb-true c 57 top)

pub front_all : (text : List ℕ) → AllByRecursion IsDigit (front_digits text)
front_all [] = tt
front_all (c ∷ cs) = elim (cases_Bool (is_ascii_digit c)) [
  | inl digit ↦ rw (take_while-cons, digit) (is_digit c digit, front_all cs)
  | inr other ↦ rw (take_while-cons, other) tt
]

pub front_taken : (text : List ℕ) → take (length (front_digits text)) text ≡ front_digits text
front_taken text = ap (λ (n : ℕ). take n text) (length-prefix_len is_ascii_digit text)

pub number_on : (n : ℕ) (a b : List ℕ) → number_from n (a ++ b) ≡ number_from (number_from n a) b
number_on n [] b = refl
number_on n (c ∷ cs) b = number_on (10 * n + (c - 48)) cs b

-- a number may be clipped on the way
pub clip_once : (n : ℕ) (cs : List ℕ) → min (number_from (min n 9999) cs) 9999 ≡ min (number_from n cs) 9999
clip_once n [] = omega arith
clip_once n (c ∷ cs) =
    let same : min (10 * min n 9999 + (c - 48)) 9999 ≡ min (10 * n + (c - 48)) 9999 = omega arith in
    sym (clip_once (10 * min n 9999 + (c - 48)) cs)
    ∙ ap (λ (m : ℕ). min (number_from m cs) 9999) same
    ∙ clip_once (10 * n + (c - 48)) cs

-- ---- bounds

times_some : (n b : ℕ) → 0 < n → b ≤ n * b
times_some n b some =
    let more : 1 * b ≤ n * b = mul-le-mul_right b some in
    omega arith

pub grown_far : (n z d : ℕ) → 0 < n → 18 ≤ z → 10 ^ 18 ≡ min (n * 10 ^ (z + 1) + d) (10 ^ 18)
grown_far n z d some far =
    let above : 18 ≤ z + 1 = omega arith in
    let power : 10 ^ 18 ≤ 10 ^ (z + 1) = pow-le-pow_right (lit≤ tt) above in
    let more = times_some n (10 ^ (z + 1)) some in
    omega arith

pub raised_far : (n p : ℕ) → 0 < n → 7 < p → 2 ^ 24 ≤ n * 10 ^ p
raised_far n p some far =
    let above : 8 ≤ p = omega arith in
    let power : 10 ^ 8 ≤ 10 ^ p = pow-le-pow_right (lit≤ tt) above in
    let more = times_some n (10 ^ p) some in
    omega arith

-- ---- lowest terms

pub ten_some : (k : ℕ) → 0 < 10 ^ k
ten_some k =
    let none : 0 ≤ k = omega arith in
    let power : 10 ^ 0 ≤ 10 ^ k = pow-le-pow_right (lit≤ tt) none in
    omega arith
