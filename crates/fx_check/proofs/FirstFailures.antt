-- The first failure of several tests.
use Rattle.std.proofs.Common.{◌≡◌, ℕ, zero, suc, ◌+◌, ◌<◌, arith, refl, ap, ap₂, sym, ◌∙◌, subst, inl, inr}
use Rattle.std.specs.Prelude.{Option, Some, None}
use Rattle.std.specs.Option.{option_or}
use Rattle.std.proofs.lemmas.Bool.{cases_lt}
use Rattle.fx_block.specs.Failure.{Failure, first_of}

-- the first that fails stays the first
pub first_stays : (i n : ℕ) (f : ℕ → Option Failure) (x : Failure) → i < n → first_of i f ≡ None → f i ≡ Some x →
    first_of n f ≡ Some x
first_stays i zero f x l before here = elim l [ ]
first_stays i (suc n) f x l before here =
    elim (cases_lt i n) [
      | inl below ↦ ap (λ a. option_or a (f n)) (first_stays i n f x below before here)
      | inr at ↦
          let same : i ≡ n = omega arith in
          ap (λ a. option_or a (f n)) (subst (λ k. first_of k f ≡ None) same before)
          ∙ subst (λ k. f k ≡ Some x) same here
    ]

-- where one test fails and those before it hold, it tells what all tell
pub first_told : (i n : ℕ) (f : ℕ → Option Failure) (told here : Option Failure) (x : Failure) → i < n →
    first_of i f ≡ None → here ≡ f i → told ≡ here → here ≡ Some x → told ≡ first_of n f
first_told i n f told here x l before at same some =
    same ∙ some ∙ sym (first_stays i n f x l before (sym at ∙ some))

-- only what stands below n matters
pub first_same : (n : ℕ) (f g : ℕ → Option Failure) → ((i : ℕ) → i < n → f i ≡ g i) → first_of n f ≡ first_of n g
first_same zero f g same = refl
first_same (suc n) f g same =
    ap₂ (λ a b. option_or a b) (first_same n f g (λ i l. same i (omega arith))) (same n (omega arith))

or_grouped : (a b c : Option Failure) → option_or (option_or a b) c ≡ option_or a (option_or b c)
or_grouped None b c = refl
or_grouped (Some x) b c = refl

or_none : (a : Option Failure) → option_or a None ≡ a
or_none None = refl
or_none (Some x) = refl

-- the first of so many, else the first of those behind them
pub first_parts : (m n : ℕ) (f : ℕ → Option Failure) → first_of (m + n) f
    ≡ option_or (first_of m f) (first_of n (λ i. f (m + i)))
first_parts m zero f = (let same : m + 0 ≡ m = omega arith in rw same (sym (or_none (first_of m f))))
first_parts m (suc n) f =
    (let same : m + suc n ≡ suc (m + n) = omega arith in
    rw same (ap (λ a. option_or a (f (m + n))) (first_parts m n f)
    ∙ or_grouped (first_of m f) (first_of n (λ i. f (m + i))) (f (m + n))))
