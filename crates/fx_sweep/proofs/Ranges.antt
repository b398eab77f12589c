-- The first range in places that are joined.
use Rattle.std.proofs.Common.{◌≡◌, ℕ, zero, suc, ◌^◌, ◌<◌, ◌⊎◌, List, [], ◌∷◌, ◌++◌, Some}
use Rattle.std.proofs.Common.{None, Option, Bool, true, false, cond, nat_le, refl, sym, ◌∙◌, inl, inr, arith}
use Rattle.std.proofs.lemmas.Bool.{cases_eq}
use Rattle.std.specs.Prelude.{pos}
use Rattle.std.specs.Option.{option_or}
use Rattle.fx_math.specs.Sums.{joined}
use Rattle.fx_nums.specs.declared.limits.TheConstants.{OPERAND_BITS}
use Rattle.fx_sweep.specs.Range.{first_range}
use Rattle.fx_sweep.specs.declared.target.Place.{Place}
use Rattle.fx_sweep.specs.declared.target.RangeAt.{RangeAt}

pub first_none : {A : Type 0} (a b : Option A) → option_or a b ≡ None → a ≡ None
first_none None b h = refl
first_none (Some x) b h = h

pub range_append : (value : Place → ℕ) (ps qs : List Place) →
    first_range value (ps ++ qs) ≡ option_or (first_range value ps) (first_range value qs)
range_append value [] qs = refl
range_append value (p ∷ ps) qs = by_test (nat_le (2 ^ OPERAND_BITS) (value p)) (range_append value ps qs)
  where
    by_test : (b : Bool) → first_range value (ps ++ qs) ≡ option_or (first_range value ps) (first_range value qs) →
        cond b (Some (record { place = p; value = pos (value p) })) (first_range value (ps ++ qs))
        ≡ option_or (cond b (Some (record { place = p; value = pos (value p) })) (first_range value ps))
        (first_range value qs)
    by_test true h = refl
    by_test false h = h

-- none before, and this one
pub first_some : (value : Place → ℕ) (f : ℕ → List Place) (k n : ℕ) (r : RangeAt) → k < n →
    first_range value (joined k f) ≡ None → first_range value (f k) ≡ Some r →
    first_range value (joined n f) ≡ Some r
first_some value f k zero r h none some = absurd (omega arith)
first_some value f k (suc n) r h none some = range_append value (joined n f) (f n)
    ∙ by_place (cases_eq k n) (λ (less : k < n). first_some value f k n r less none some)
  where
    by_place : (k ≡ n) ⊎ (k ≡ n → ⊥) → (k < n → first_range value (joined n f) ≡ Some r) →
        option_or (first_range value (joined n f)) (first_range value (f n)) ≡ Some r
    by_place (inl e) later = rw (← e, none) some
    by_place (inr ne) later = rw (later (omega (arith, ne))) refl

-- none before, and none here
pub none_more : (value : Place → ℕ) (f : ℕ → List Place) (k : ℕ) → first_range value (joined k f) ≡ None →
    first_range value (f k) ≡ None → first_range value (joined (suc k) f) ≡ None
none_more value f k none here = range_append value (joined k f) (f k) ∙ rw (none, here) refl

-- where numbers are the same in these places, the first range is the same
pub same_range : (value other : Place → ℕ) (f : ℕ → List Place) (n : ℕ) →
    ((k : ℕ) → first_range value (f k) ≡ first_range other (f k)) →
    first_range value (joined n f) ≡ first_range other (joined n f)
same_range value other f zero h = refl
same_range value other f (suc n) h =
    range_append value (joined n f) (f n) ∙ rw (same_range value other f n h, h n) refl
    ∙ sym (range_append other (joined n f) (f n))
