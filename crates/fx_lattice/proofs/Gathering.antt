-- Lists by their places: one more, and where one is missing.
use Rattle.std.proofs.Common.{◌≡◌, ℕ, zero, suc, ◌+◌, ◌-◌, ◌<◌, List, [], ◌∷◌, ◌++◌, Option, Some, None}
use Rattle.std.proofs.Common.{option_and_then, refl, sym, ap, arith, subst, ◌⊎◌, inl, inr}
use Rattle.std.proofs.lemmas.Bool.{cases_eq}
use Rattle.fx_nums.specs.Interval.{Interval}
use Rattle.fx_lattice.specs.Operations.{less_product, one_point}
use Rattle.fx_lattice.specs.StepDown.{behind, gathered, listed, lower_a, lower_b, lower_denominator, lower_numerator}

pub listed_next : (n : ℕ) (f : ℕ → Interval) → listed (n + 1) f ≡ listed n f ++ f n ∷ []
listed_next n f = let e : n + 1 ≡ suc n = omega arith in ap (λ m. listed m f) e

-- where one is missing, there is no list
pub gathered_stops : (n j : ℕ) (f : ℕ → Option Interval) → j < n → f j ≡ None → gathered n f ≡ None
gathered_stops zero j f l h = absurd (omega arith)
gathered_stops (suc n) j f l h = by_place (cases_eq j n) (λ k. gathered_stops n j f k h)
  where
    at_none : (o : Option (List Interval)) →
        option_and_then (λ xs. option_and_then (λ x. Some (xs ++ x ∷ [])) None) o ≡ None
    at_none None = refl
    at_none (Some xs) = refl

    before_none : (o : Option (List Interval)) → o ≡ None →
        option_and_then (λ xs. option_and_then (λ x. Some (xs ++ x ∷ [])) (f n)) o ≡ None
    before_none o e = rw e refl

    by_place : (j ≡ n) ⊎ (j ≡ n → ⊥) → (j < n → gathered n f ≡ None) → gathered (suc n) f ≡ None
    by_place (inl same) before = let g : f n ≡ None = subst (λ i. f i ≡ None) same h in rw g (at_none (gathered n f))
    by_place (inr other) before = before_none (gathered n f) (before (omega (arith, l, other)))

-- so it is with the coefficients of a denominator, and of a numerator
pub denominator_stops : (i j : ℕ) (a : List Interval) (d : Interval) →
    less_product one_point (behind a i) (behind a i) ≡ Some d → j < i - 1 → lower_a i a d (j + 1) ≡ None →
    None ≡ lower_denominator i a
unfolding lower_denominator
denominator_stops i j a d made l h = rw made (sym (gathered_stops (i - 1) j (λ p. lower_a i a d (p + 1)) l h))

pub numerator_stops : (i j : ℕ) (a b : List Interval) → j < i → lower_b i a b j ≡ None → None ≡ lower_numerator i a b
unfolding lower_numerator
numerator_stops i j a b l h = sym (gathered_stops i j (lower_b i a b) l h)
