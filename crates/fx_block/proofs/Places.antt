-- Lists and arrays that are filled place by place.
use Rattle.std.proofs.Common.{◌≡◌, ℕ, ◌+◌, ◌<◌, ◌≤◌, List, [], ◌∷◌, ◌++◌, length, take, set, get_or}
use Rattle.std.proofs.Common.{◌⊎◌, inl, inr, arith, refl, ap, ap₂, sym, ◌∙◌, add-one, zero, suc}
use Rattle.std.proofs.Common.{get_or-set_same, get_or-set_other}
use Rattle.std.proofs.lemmas.Bool.{cases_eq, cases_lt}
use Rattle.std.proofs.lemmas.List.{get_or_append_left, get_or-append-add}
use Rattle.std.proofs.lemmas.List.{length-append, take_more_set}
use Rattle.fx_math.specs.Sums.{joined}

-- ---- the list f 0, f 1, .., f (n - 1)

abbrev pub listed : {A : Type 0} → ℕ → (ℕ → A) → List A
listed n f = joined n (λ t. f t ∷ [])

pub listed_more : {A : Type 0} (xs : List A) (t : ℕ) (f : ℕ → A) (x : A) → t < length xs →
    take t xs ≡ listed t f → x ≡ f t → take (t + 1) (set xs t x) ≡ listed (t + 1) f
listed_more xs t f x l before here =
    take_more_set xs t x l ∙ ap₂ (λ a b. a ++ b ∷ []) before here ∙ sym (ap (λ n. listed n f) (add-one t))

pub listed_length : {A : Type 0} (n : ℕ) (f : ℕ → A) → length (listed n f) ≡ n
listed_length zero f = refl
listed_length (suc n) f =
    length-append (listed n f) (f n ∷ []) ∙ ap (λ m. m + 1) (listed_length n f) ∙ add-one n

pub listed_at : {A : Type 0} (n : ℕ) (f : ℕ → A) (t : ℕ) (d : A) → t < n → get_or (listed n f) t d ≡ f t
listed_at zero f t d l = elim l [ ]
listed_at (suc n) f t d l =
    elim (cases_lt t n) [
      | inl below ↦
          get_or_append_left (listed n f) (f n ∷ []) d t (let e = listed_length n f in omega (arith, e))
          ∙ listed_at n f t d below
      | inr at ↦
          let same : t ≡ length (listed n f) + 0 = (let e = listed_length n f in omega (arith, e)) in
          ap (λ i. get_or (listed n f ++ f n ∷ []) i d) same
          ∙ get_or-append-add (listed n f) (f n ∷ []) 0 d ∙ ap f (let e : n ≡ t = omega arith in e)
    ]

pub listed_next : {A : Type 0} (n : ℕ) (f : ℕ → A) → listed (n + 1) f ≡ listed n f ++ f n ∷ []
listed_next n f = ap (λ m. listed m f) (add-one n)

-- ---- arrays with the first of f

pub first_more : {A : Type 0} (d : A) (xs : List A) (t : ℕ) (x : A) (f : ℕ → A) → t < length xs →
    ((k : ℕ) → k < t → get_or xs k d ≡ f k) → x ≡ f t → (k : ℕ) → k < t + 1 → get_or (set xs t x) k d ≡ f k
first_more {A} d xs t x f l before here k h = by_place (cases_eq k t)
  where
    by_place : (k ≡ t) ⊎ (k ≡ t → ⊥) → get_or (set xs t x) k d ≡ f k
    by_place (inl e) = rw e (get_or-set_same xs t x d l ∙ here)
    by_place (inr ne) = get_or-set_other xs t k x d ne ∙ before k (omega (arith, h, ne))

-- what stands behind stays as it is
pub behind_stays : {A : Type 0} (d : A) (xs : List A) (t : ℕ) (x : A) → ((k : ℕ) → t ≤ k → get_or xs k d ≡ d) →
    (k : ℕ) → t + 1 ≤ k → get_or (set xs t x) k d ≡ d
behind_stays d xs t x before k h =
    get_or-set_other xs t k x d (λ e. omega (arith, e, h)) ∙ before k (omega (arith, h))
