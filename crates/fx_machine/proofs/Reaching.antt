-- Sums of scaled terms lie within the sums of their magnitudes.
use Rattle.std.proofs.Common.{◌≡◌, ℕ, ◌+◌, ◌<◌, ◌≤◌, ℤ, pos, negsuc, ◌+ℤ◌, ◌*ℤ◌, unsigned_abs, Bool, false}
use Rattle.std.proofs.Common.{◌||◌, List, [], ◌∷◌, refl, arith}
use Rattle.std.specs.List.{list_any}
use Rattle.std.proofs.lemmas.Bool.Decides.{nat_tests}
use Rattle.std.proofs.lemmas.Int.{ints, unsigned_abs-mul}
use Rattle.fx_machine.specs.Prepared.{word_in, half_of, scaled_sum, later_sums, magnitudes, is_outside}
use Rattle.fx_machine.specs.declared.prepared.ScaledTerm.{ScaledTerm}

terms_small : (words : List ℤ) (terms : List ScaledTerm) →
    unsigned_abs (scaled_sum words terms) ≤ magnitudes words terms
terms_small words [] = omega (arith, ints)
terms_small words (t ∷ ts) =
    omega (arith, ints, terms_small words ts, unsigned_abs-mul t.multiplier (word_in words t.place))

pub sum_small : (constant : ℤ) (words : List ℤ) (terms : List ScaledTerm) →
    unsigned_abs (constant +ℤ scaled_sum words terms) ≤ unsigned_abs constant + magnitudes words terms
sum_small constant words terms = omega (arith, ints, terms_small words terms)

pub small_inside : (bits : ℕ) (z : ℤ) → unsigned_abs z < half_of bits → is_outside bits z ≡ false
small_inside bits (pos n) h = grind (arith, nat_tests)
small_inside bits (negsuc n) h = grind (arith, nat_tests)

or_false : (a b : Bool) → a ≡ false → b ≡ false → (a || b) ≡ false
or_false a b e f = rw (e, f) refl

later_inside : (bits : ℕ) (sum : ℤ) (words : List ℤ) (terms : List ScaledTerm) →
    unsigned_abs sum + magnitudes words terms < half_of bits →
    list_any (is_outside bits) (later_sums sum words terms) ≡ false
later_inside bits sum words [] h = refl
later_inside bits sum words (t ∷ ts) h =
    let next : ℤ = sum +ℤ t.multiplier *ℤ word_in words t.place in
    let k : unsigned_abs next + magnitudes words ts < half_of bits =
    omega (arith, ints, h, unsigned_abs-mul t.multiplier (word_in words t.place)) in
    or_false _ _ (small_inside bits next (omega (arith, k))) (later_inside bits next words ts k)

-- where the magnitudes stay within the bits, so does each sum on the way
pub sums_inside : (bits : ℕ) (sum : ℤ) (words : List ℤ) (terms : List ScaledTerm) →
    unsigned_abs sum + magnitudes words terms < half_of bits →
    list_any (is_outside bits) (sum ∷ later_sums sum words terms) ≡ false
sums_inside bits sum words terms h =
    or_false _ _ (small_inside bits sum (omega (arith, h))) (later_inside bits sum words terms h)
