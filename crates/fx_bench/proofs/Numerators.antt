-- The numerators of a recipe are small.
use Rattle.std.proofs.Common.{◌≡◌, ℕ, ◌+◌, ◌-◌, ◌*◌, ◌%◌, ◌^◌, ◌<◌, ◌≤◌, pos, sym, subst, lit<}
use Rattle.std.proofs.Common.{arith, pow-add}
use Rattle.std.proofs.Math.Nat.{mod-lt, one-le-pow, div-le_self, mul-le-mul_right, pow-le-pow_right}
use Rattle.fx_nums.specs.Fraction.{FractionFits}
use Rattle.fx_nums.specs.declared.fraction.Den.TheVariants.{Ten}
use Rattle.fx_bench.specs.Recipe.{RecipeFits, numerator}
use Rattle.fx_bench.specs.declared.recipe.Recipe.{Recipe}

pub power_small : (places : ℕ) → places ≤ 18 → 10 ^ (places - 6) ≤ 10 ^ 12
power_small places high = let e : places - 6 ≤ 12 = omega arith in pow-le-pow_right (lit< tt) e

pub millionths_small : (n : ℕ) → 880000 + n % 200003 ≤ 1080002
millionths_small n = let h : n % 200003 < 200003 = mod-lt n (lit< tt) in omega arith

pub scaled_small : (n places : ℕ) → places ≤ 18 →
    (880000 + n % 200003) * 10 ^ (places - 6) ≤ 1080002 * 10 ^ (places - 6)
scaled_small n places high = mul-le-mul_right (10 ^ (places - 6)) (millionths_small n)

pub numerator_fits : (r : Recipe) (n : ℕ) → RecipeFits r → FractionFits (pos (numerator r n)) (Ten r.places)
numerator_fits r n fits =
    let m = 880000 + (n * 7919 + 104729) % 200003 in
    let up = 10 ^ (r.places - 6) in
    let least = fits.places_low in
    let most = fits.places_high in
    let scaled : m * up ≤ 1080002 * up = scaled_small (n * 7919 + 104729) r.places most in
    let part : numerator r n ≤ m * up = div-le_self (m * up) (r.now + r.old) in
    let small : up ≤ 10 ^ 12 = power_small r.places most in
    let sum : 6 + (r.places - 6) ≡ r.places = omega arith in
    let power : 10 ^ (6 + (r.places - 6)) ≡ 10 ^ 6 * up = pow-add 10 6 (r.places - 6) in
    let whole : 10 ^ r.places ≡ 10 ^ 6 * up = subst (λ p. 10 ^ p ≡ 10 ^ 6 * up) sum power in
    let low : 1 ≤ up = one-le-pow (r.places - 6) 10 (lit< tt) in
    record { den_fits = omega arith; num_fits = omega arith; value_fits = omega arith }

pub scaled_fits : (n places up : ℕ) → places ≤ 18 → up ≡ 10 ^ (places - 6) → (880000 + n % 200003) * up < 2 ^ 64
scaled_fits n places up high e =
    let scaled = scaled_small n places high in
    let small = power_small places high in
    let fits : (880000 + n % 200003) * 10 ^ (places - 6) < 2 ^ 64 = omega arith in
    subst (λ u. (880000 + n % 200003) * u < 2 ^ 64) (sym e) fits
