-- The last digits of a number are its decimal with zeros before it.
use Rattle.std.proofs.Common.{◌≡◌, ◌≢◌, Bool, ◌≤◌, ◌<◌, ◌+◌, ◌-◌, ◌*◌, ◌/◌, ◌%◌, ◌^◌, ◌∙◌, ℕ, zero, suc, List}
use Rattle.std.proofs.Common.{[], ◌∷◌, ◌++◌, length, replicate, decimal, refl, ap, arith, append_assoc, inl}
use Rattle.std.proofs.Common.{inr, length-append}
use Rattle.std.proofs.lemmas.Bool.{cases_Bool}
use Rattle.std.proofs.lemmas.Bool.Decides.{nat_tests}
use Rattle.std.proofs.lemmas.Fmt.{decimal_digit, decimal_step, length-decimal-le}
use Rattle.std.proofs.lemmas.List.{replicate_more}
use Rattle.std.proofs.Math.Nat.{pow-suc}
use Rattle.std.specs.Prelude.{nat_lt}
use Rattle.fx_nums.specs.Signs.{minus_text}
use Rattle.fx_decimal.specs.Printed.{last_digits, padded, written}

module _ (k n : ℕ) (small : n < 2 ^ 64) (before : last_digits (suc k) (n / 10) ≡ padded (suc k) (n / 10)) where
  one_digit : n < 10 → last_digits (suc k) (n / 10) ++ ((48 + n % 10) ∷ []) ≡ padded (suc (suc k)) n
  unfolding padded
  one_digit one =
      let none : n / 10 ≡ 0 = omega arith in
      let same : n % 10 ≡ n = omega arith in
      let zero_text : decimal 0 ≡ 48 ∷ [] = decimal_digit 0 (omega arith) in
      let text : decimal n ≡ (48 + n) ∷ [] = decimal_digit n one in
      let left : suc k - 1 ≡ k = omega arith in
      let right : suc (suc k) - 1 ≡ k + 1 = omega arith in
      let zeros : ◌++◌ {A = ℕ} (replicate k 48) (48 ∷ []) ≡ replicate (k + 1) 48 = replicate_more k 48 in
      rw (before, none, same, zero_text, text, left, right, zeros) refl

  more_digits : 10 ≤ n → last_digits (suc k) (n / 10) ++ ((48 + n % 10) ∷ []) ≡ padded (suc (suc k)) n
  unfolding padded
  more_digits more =
      let text : decimal n ≡ decimal (n / 10) ++ ((48 + n % 10) ∷ []) = decimal_step n more small in
      let count : length (decimal (n / 10) ++ ((48 + n % 10) ∷ [])) ≡ length (decimal (n / 10)) + 1 =
      length-append (decimal (n / 10)) ((48 + n % 10) ∷ []) in
      let left : suc (suc k) - (length (decimal (n / 10)) + 1) ≡ suc k - length (decimal (n / 10)) = omega arith in
      rw (
        before,
        text,
        count,
        left,
      ) (append_assoc (replicate (suc k - length (decimal (n / 10))) 48) (decimal (n / 10))
      ((48 + n % 10) ∷ []))

pub last_padded : (k n : ℕ) → n < 2 ^ 64 → n < 10 ^ suc k → last_digits (suc k) n ≡ padded (suc k) n
unfolding padded
last_padded zero n small fits =
    let one : n < 10 = omega arith in
    let same : n % 10 ≡ n = omega arith in
    let text : decimal n ≡ (48 + n) ∷ [] = decimal_digit n one in
    rw (same, text) refl
last_padded (suc k) n small fits =
    let power : 10 ^ suc (suc k) ≡ 10 ^ suc k * 10 = pow-suc 10 (suc k) in
    let below : n / 10 < 10 ^ suc k = omega arith in
    let before = last_padded k (n / 10) (omega arith) below in
    elim (cases_Bool (nat_lt n 10)) [
      | inl one ↦ one_digit k n small before (grind (arith, nat_tests))
      | inr more ↦ more_digits k n small before (grind (arith, nat_tests))
    ]

pub length-last : (k n : ℕ) → length (last_digits k n) ≡ k
length-last zero n = refl
length-last (suc k) n = length-append (last_digits k (n / 10)) ((48 + n % 10) ∷ [])
    ∙ rw (length-last k (n / 10)) (omega arith)

pub decimal_more : (n : ℕ) → 10 ≤ n → n < 2 ^ 64 → length (decimal n) ≡ length (decimal (n / 10)) + 1
decimal_more n more small = ap (λ (t : List ℕ). length t) (decimal_step n more small)
    ∙ length-append (decimal (n / 10)) ((48 + n % 10) ∷ [])

pub decimal_short : (n : ℕ) → n < 2 ^ 64 → length (decimal n) ≤ 20
decimal_short n small = length-decimal-le 20 n (omega arith) (omega arith) small

pub written_is : (negative : Bool) (whole rest k : ℕ) → k ≢ 0 → rest < 2 ^ 64 → rest < 10 ^ k →
    ((minus_text negative ++ decimal whole) ++ (46 ∷ [])) ++ last_digits k rest ≡ written negative whole rest k
unfolding written
written_is negative whole rest zero some small fits = absurd (some refl)
written_is negative whole rest (suc k) some small fits =
    rw (
      append_assoc (minus_text negative ++ decimal whole) (46 ∷ []) (last_digits (suc k) rest),
      append_assoc (minus_text negative) (decimal whole) (46 ∷ last_digits (suc k) rest),
      last_padded k rest small fits,
    ) refl
