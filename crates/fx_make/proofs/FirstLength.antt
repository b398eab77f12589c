-- The first length that passes.
use Rattle.std.proofs.Common.{◌≡◌, ℕ, zero, suc, ◌+◌, ◌<◌, ◌≤◌, arith, refl, ap, ◌∙◌, subst, inl, inr, List}
use Rattle.std.proofs.Common.{cond, Bool, true, false}
use Rattle.std.specs.Prelude.{◌≢◌, Option, Some, None, is_none}
use Rattle.std.specs.Option.{option_or}
use Rattle.std.proofs.lemmas.Bool.{cases_lt}
use Rattle.fx_block.specs.Raising.{first_row}
use Rattle.fx_make.specs.Lengths.{fail_in}
use Rattle.fx_make.specs.declared.fail.Fail.{Fail}

-- one more that does not pass
pub none_more : (l : ℕ) (test : ℕ → Bool) → first_row l test ≡ None → test l ≡ false → first_row (l + 1) test ≡ None
none_more l test none here = (let s : l + 1 ≡ suc l = omega arith in rw (s, none, here) refl)

-- the first that passes stays the first
pub first_found : (l n : ℕ) (test : ℕ → Bool) → l < n → first_row l test ≡ None → test l ≡ true →
    first_row n test ≡ Some l
first_found l zero test inside none here = absurd (omega arith)
first_found l (suc n) test inside none here = elim (cases_lt l n) [
  | inl below ↦ ap (λ a. option_or a (cond (test n) (Some n) None)) (first_found l n test below none here)
  | inr last ↦ (
      let same : l ≡ n = omega (arith, inside, last) in
      ap (λ a. option_or a (cond (test n) (Some n) None)) (subst (λ k. first_row k test ≡ None) same none)
      ∙ subst (λ k. cond (test k) (Some k) None ≡ Some l) same (ap (λ b. cond b (Some l) None) here))
]

-- ---- what is told of the lengths so far

pub is_passing : (fail : Option Fail) → is_none fail ≡ true → fail ≡ None
is_passing (Some fail) e = cc
is_passing None e = refl

-- one more is told at its place
pub told_more : (before after : List (Option Fail)) (l : ℕ) (told : ℕ → Option Fail) (fail : Option Fail) →
    fail_in after l ≡ fail → ((k : ℕ) → k ≢ l → fail_in after k ≡ fail_in before k) →
    ((k : ℕ) → k < l → fail_in before k ≡ told k) → fail ≡ told l → (k : ℕ) → k < l + 1 → fail_in after k ≡ told k
told_more before after l told fail here others earlier is k h = elim (cases_lt k l) [
  | inl below ↦ others k (λ e. omega (arith, e, below)) ∙ earlier k below
  | inr last ↦ (let same : l ≡ k = omega (arith, h, last) in subst (λ i. fail_in after i ≡ told i) same (here ∙ is))
]

pub none_behind : (before after : List (Option Fail)) (l : ℕ) →
    ((k : ℕ) → k ≢ l → fail_in after k ≡ fail_in before k) → ((k : ℕ) → l ≤ k → fail_in before k ≡ None) →
    (k : ℕ) → l + 1 ≤ k → fail_in after k ≡ None
none_behind before after l others none k h = others k (λ e. omega (arith, e, h)) ∙ none k (omega (arith, h))
