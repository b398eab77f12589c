-- The first of some failures, and how raises end.
use Rattle.std.proofs.Common.{◌≡◌, ◌⊎◌, ℕ, zero, suc, ◌+◌, ◌<◌, arith, refl, subst, inl, inr}
use Rattle.std.proofs.Common.{Option, Some, None}
use Rattle.std.specs.Option.{option_map, option_or}
use Rattle.std.proofs.lemmas.Bool.{cases_eq, cases_lt}
use Rattle.fx_block.specs.Raising.{Raises}
use Rattle.fx_block.specs.Raising.Raises.{Rest, Over, Slow}
use Rattle.fx_gain.specs.Enclosing.{rest_of}
use Rattle.fx_gain.specs.Lengths.{first_of, unrest}

-- ---- none of two, of some, of what is made of another

pub none_left : {A : Type 0} (x y : Option A) → option_or x y ≡ None → x ≡ None
none_left None y e = refl
none_left (Some a) y e = cc

pub none_right : {A : Type 0} (x y : Option A) → option_or x y ≡ None → y ≡ None
none_right None y e = e
none_right (Some a) y e = cc

pub none_mapped : {A B : Type 0} (f : A → B) (x : Option A) → option_map f x ≡ None → x ≡ None
none_mapped f None e = refl
none_mapped f (Some a) e = cc

pub none_of : {A : Type 0} (n : ℕ) (f : ℕ → Option A) → first_of n f ≡ None → (j : ℕ) → j < n → f j ≡ None
none_of zero f e j l = absurd (omega (arith, l))
none_of (suc n) f e j l = elim (cases_lt j n) [
  | inl below ↦ none_of n f (none_left (first_of n f) (f n) e) j below
  | inr from ↦ subst (λ i. f i ≡ None) (let same : n ≡ j = omega (arith, l, from) in same)
      (none_right (first_of n f) (f n) e)
]

-- one more that is none, and the first that is not
pub none_more : {A : Type 0} (n : ℕ) (f : ℕ → Option A) → first_of n f ≡ None → f n ≡ None → first_of (n + 1) f ≡ None
none_more n f none here = (let s : n + 1 ≡ suc n = omega arith in rw (s, none) here)

pub first_is : {A : Type 0} (m n : ℕ) (f : ℕ → Option A) (a : A) → m < n → first_of m f ≡ None → f m ≡ Some a →
    first_of n f ≡ Some a
first_is m zero f a l none here = absurd (omega (arith, l))
first_is m (suc n) f a l none here = by_end (cases_eq m n) (first_is m n f a)
  where
    by_end : (m ≡ n) ⊎ (m ≡ n → ⊥) →
        (m < n → first_of m f ≡ None → f m ≡ Some a → first_of n f ≡ Some a) → first_of (suc n) f ≡ Some a
    by_end (inl e) _ = rw (← e, none) here
    by_end (inr ne) before = rw (before (omega (arith, l, ne)) none here) refl

-- ---- raises that do not fail rest

pub rests : (m j : ℕ) (r : Raises) → unrest m j r ≡ None → r ≡ Rest (rest_of r)
rests m j (Rest x) e = refl
rests m j (Over row value cap) e = cc
rests m j (Slow row before after) e = cc
