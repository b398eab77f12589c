-- A numeral is read as a fraction over a power of ten.
use Rattle.std.proofs.Common.{ℕ, length, ◌==◌, ◌*◌, ◌^◌, ◌+◌, nat_lt, List, Bool, true, false, Result, Ok, Err}
use Rattle.std.proofs.Common.{refl, if◌then◌else◌}
use Rattle.std.proofs.Math.IntN.{ℤ, pos, negsuc, ◌+ℤ◌, ◌-ℤ◌}
use Rattle.fx_nums.specs.Fraction.{Fraction}
use Rattle.fx_decimal.specs.Faults.{numeral, parts_in, and_then}
use Rattle.fx_nums.specs.Signs.{number_from}
use Rattle.fx_decimal.specs.Numeral.{Parts, bounded, scaled, limited, digits_value, meaning, without_zeros}
use Rattle.fx_decimal.specs.declared.fault.DecimalFault.{DecimalFault}
use Rattle.fx_nums.specs.Fraction.{OverTen}

-- a fraction over a power of ten, or a fault
abbrev pub IsOverTen : Result Fraction DecimalFault → Type 0
IsOverTen (Ok c) = OverTen c
IsOverTen (Err e) = Unit {0}

either : (b : Bool) (r s : Result Fraction DecimalFault) → IsOverTen r → IsOverTen s → IsOverTen (if b then r else s)
either true r s p q = p
either false r s p q = q

of_bounded : (negative : Bool) (n d : ℕ) → IsOverTen (bounded negative n d)
of_bounded negative n d = either (nat_lt n (2 ^ 24 * 10 ^ d)) _ _ refl tt

of_scaled : (negative : Bool) (n : ℕ) (p : ℤ) → IsOverTen (scaled negative n p)
of_scaled negative n (pos p) = of_bounded negative (n * 10 ^ p) 0
of_scaled negative n (negsuc q) = either (nat_lt q 28) _ _ (of_bounded negative n (q + 1)) tt

of_limited : (negative : Bool) (n : ℕ) (p : ℤ) → IsOverTen (limited negative n p)
of_limited negative n p = either (n == 0) _ _ refl (either (nat_lt n (10 ^ 18)) _ _ (of_scaled negative n p) tt)

of_digits : (negative : Bool) (ds : List ℕ) (after : ℕ) (exponent : ℤ) →
    IsOverTen (digits_value negative ds after exponent)
unfolding digits_value
of_digits negative ds after exponent =
    let kept = without_zeros (length ds) (number_from 0 ds) in
    of_limited negative kept.0 ((exponent -ℤ pos after) +ℤ pos kept.1)

of_parts : (r : Result Parts DecimalFault) → IsOverTen (and_then meaning r)
of_parts (Ok p) = of_digits _ _ _ _
of_parts (Err e) = tt

pub of_numeral : (text : List ℕ) → IsOverTen (numeral text)
unfolding numeral
of_numeral text = of_parts (parts_in text)
