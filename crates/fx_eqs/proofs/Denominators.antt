-- The common denominator of an equation system is one of each coefficient.
use Rattle.std.proofs.Common.{◌≡◌, ℕ, ◌+◌, ◌-◌, ◌*◌, ◌/◌, ◌^◌, ◌<◌, ◌≤◌, max, List, [], ◌∷◌, length, get_or}
use Rattle.std.proofs.Common.{zero, suc, arith, refl, ap, ap₂, sym, subst, ◌∙◌, inl, inr}
use Rattle.std.proofs.Math.Nat.{pow-le-pow_right, pow-zero, one-le-pow, mul-div_left, max-eq_right, max-eq_left}
use Rattle.std.proofs.lemmas.Bool.{cases_lt}
use Rattle.std.proofs.lemmas.Nat.{pow-add}
use Rattle.fx_nums.specs.Fraction.{den_value}
use Rattle.fx_nums.specs.declared.fraction.Den.{Den}
use Rattle.fx_nums.specs.declared.fraction.Den.TheVariants.{Two, Ten}
use Rattle.fx_eqs.specs.Denominator.{two_part, ten_part, greatest}
use Rattle.fx_eqs.specs.declared.term.Term.{Term}
use Rattle.fx_eqs.specs.Laws.{CommonDividesEach}

-- a multiple of d
multiple : (d m n : ℕ) → 0 < d → n ≡ d * m → d * (n / d) ≡ n
multiple d m n h e = let whole : m * d / d ≡ m = mul-div_left m h in let same : n ≡ m * d =
    omega (arith, e) in rw same (rw whole (omega arith))

-- the greatest of powers is the power of the greatest exponent
max_power : (b i j : ℕ) → 1 ≤ b → max (b ^ i) (b ^ j) ≡ b ^ max i j
max_power b i j h =
    elim (cases_lt i j) [
      | inl less ↦
          let le : i ≤ j = omega arith in
          let powers : b ^ i ≤ b ^ j = pow-le-pow_right h le in
          max-eq_right powers ∙ ap (λ n. b ^ n) (sym (max-eq_right le))
      | inr le ↦
          let powers : b ^ j ≤ b ^ i = pow-le-pow_right h le in
          max-eq_left powers ∙ ap (λ n. b ^ n) (sym (max-eq_left le))
    ]

module _ (b : ℕ) (positive : 1 ≤ b) (part : Den → ℕ) (exponent : Den → ℕ) (is : (d : Den) →
    part d ≡ b ^ exponent d) where
  abbrev top : List Term → ℕ
  top [] = 0
  top (t ∷ ts) = max (exponent t.coef.den) (top ts)

  greatest_is : (ts : List Term) → greatest part ts ≡ b ^ top ts
  greatest_is [] = sym (pow-zero b)
  greatest_is (t ∷ ts) = ap₂ max (is t.coef.den) (greatest_is ts) ∙ max_power b (exponent t.coef.den) (top ts) positive

  top_high : (ts : List Term) (k : ℕ) (d : Term) → k < length ts → exponent (get_or ts k d).coef.den ≤ top ts
  top_high [] k d h = absurd (omega arith)
  top_high (t ∷ ts) zero d h = omega arith
  top_high (t ∷ ts) (suc k) d h = let rest = top_high ts k d (omega arith) in omega arith

  -- each term's part divides it
  pub each_divides : (ts : List Term) (k : ℕ) (d : Term) → k < length ts →
      (m : ℕ) × (greatest part ts ≡ part (get_or ts k d).coef.den * m)
  each_divides ts k d h =
      let e : ℕ = exponent (get_or ts k d).coef.den in
      let high : e ≤ top ts = top_high ts k d h in
      let same : e + (top ts - e) ≡ top ts = omega arith in (
        b ^ (top ts - e),
        greatest_is ts ∙ ap (λ n. b ^ n) (sym same) ∙ pow-add b e (top ts - e)
            ∙ ap (λ n. n * b ^ (top ts - e)) (sym (is (get_or ts k d).coef.den)),
      )

two_exponent : Den → ℕ
two_exponent (Two e) = e
two_exponent (Ten d) = 0

ten_exponent : Den → ℕ
ten_exponent (Two e) = 0
ten_exponent (Ten d) = d

two_is : (d : Den) → two_part d ≡ 2 ^ two_exponent d
unfolding two_exponent
two_is (Two e) = refl
two_is (Ten d) = refl

ten_is : (d : Den) → ten_part d ≡ 10 ^ ten_exponent d
unfolding ten_exponent
ten_is (Two e) = refl
ten_is (Ten d) = refl

-- a product whose factors the two parts divide
pub whole_product : (c : Den) (a b : ℕ) → (m : ℕ) × (a ≡ two_part c * m) → (m : ℕ) × (b ≡ ten_part c * m) →
    den_value c * (a * b / den_value c) ≡ a * b
whole_product (Two e) a b two ten =
    multiple (2 ^ e) (two.0 * b) (a * b) (one-le-pow e 2 (omega arith)) (omega (arith, ap (λ x. x * b) two.1))
whole_product (Ten d) a b two ten =
    multiple (10 ^ d) (a * ten.0) (a * b) (one-le-pow d 10 (omega arith)) (omega (arith, ap (λ x. a * x) ten.1))

one_at_least : (part : Den → ℕ) (ts : List Term) → 1 ≤ greatest part ts
one_at_least part [] = omega arith
one_at_least part (t ∷ ts) = let rest = one_at_least part ts in omega arith

pub common_is_denominator : CommonDividesEach
common_is_denominator s =
    let two = greatest two_part s.terms in
    let ten = greatest ten_part s.terms in (
      mul-pos two ten (one_at_least two_part s.terms) (one_at_least ten_part s.terms),
      λ m k d h.
          let p = each_divides 2 (omega arith) two_part two_exponent two_is s.terms k d h in
          let q = each_divides 10 (omega arith) ten_part ten_exponent ten_is s.terms k d h in
          let c = (get_or s.terms k d).coef.den in
          let multiple_of : (n : ℕ) × (ten * m ≡ ten_part c * n) = (q.0 * m, omega (arith, ap (λ n. n * m) q.1)) in
          let same : two * (ten * m) ≡ two * ten * m = omega arith in
          subst (λ n. den_value c * (n / den_value c) ≡ n) same (whole_product c two (ten * m) p multiple_of),
    )
  where
    mul-pos : (a b : ℕ) → 1 ≤ a → 1 ≤ b → 0 < a * b
    mul-pos zero b h l = absurd (omega arith)
    mul-pos (suc a) zero h l = absurd (omega arith)
    mul-pos (suc a) (suc b) h l = omega arith
