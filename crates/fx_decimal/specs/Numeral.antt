-- Numerals, and the fractions that they mean.
use Rattle.std.specs.Prelude.{ℕ, zero, suc, ◌+◌, ◌*◌, ◌/◌, ◌%◌, ◌^◌, ◌==◌, min, nat_lt, Bool, if◌then◌else◌, ℤ}
use Rattle.std.specs.Prelude.{pos, negsuc, ◌+ℤ◌, ◌-ℤ◌, List, [], ◌∷◌, ◌++◌, length, Option, Some, None, Result}
use Rattle.std.specs.Prelude.{Ok, Err}
use Rattle.fx_nums.specs.Fraction.{Fraction, zero_fraction}
use Rattle.fx_nums.specs.Signs.{Sign, sign_text, is_minus, signed, AreDigits, number_from, point_mark}
use Rattle.fx_nums.specs.declared.fraction.Den.TheVariants.{Ten}
use Rattle.fx_nums.specs.declared.limits.TheConstants.{VALUE_BITS, GREATEST_TEN}
use Rattle.fx_decimal.specs.declared.limits.TheConstants.{MOST_DIGITS, GREATEST_EXPONENT}
use Rattle.fx_decimal.specs.declared.fault.DecimalFault.{DecimalFault}
use Rattle.fx_decimal.specs.declared.fault.DecimalFault.TheVariants.{TooManyDigits, TooFine, TooLarge}

-- ---- the text of a numeral

-- `e` or `E`, a sign and digits
pub record Exponent : Type 0 where
  pub upper : Bool
  pub sign : Sign
  pub digits : List ℕ

-- the digits before the point, and those after it where there is a point
pub record Parts : Type 0 where
  pub sign : Sign
  pub whole : List ℕ
  pub after : Option (List ℕ)
  pub exponent : Option Exponent

abbrev pub after_text : Option (List ℕ) → List ℕ
after_text None = []
after_text (Some ds) = point_mark ∷ ds

abbrev pub large_e : ℕ
large_e = 69

abbrev pub small_e : ℕ
small_e = 101

-- the letter before an exponent
abbrev pub letter_text : Bool → ℕ
letter_text upper = if upper then large_e else small_e

abbrev pub exponent_text : Option Exponent → List ℕ
exponent_text None = []
exponent_text (Some e) = letter_text e.upper ∷ (sign_text e.sign ++ e.digits)

abbrev pub parts_text : Parts → List ℕ
parts_text p = sign_text p.sign ++ (p.whole ++ (after_text p.after ++ exponent_text p.exponent))

abbrev pub after_digits : Option (List ℕ) → List ℕ
after_digits None = []
after_digits (Some ds) = ds

abbrev pub all_digits : Parts → List ℕ
all_digits p = p.whole ++ after_digits p.after

abbrev pub IsExponent : Option Exponent → Type 0
IsExponent None = Unit {0}
IsExponent (Some e) = AreDigits e.digits

-- at least one digit before or after the point, and at least one in an exponent
pub record IsNumeral (p : Parts) : Type 0 where
  pub digits : AreDigits (all_digits p)
  pub exponent : IsExponent p.exponent

-- ---- what it means

-- clipped in magnitude
abbrev pub exponent_value : Option Exponent → ℤ
exponent_value None = pos 0
exponent_value (Some e) = signed (is_minus e.sign) (min (number_from 0 e.digits) GREATEST_EXPONENT)

-- a number without the zeros at its end, at most k of them, and their count
abbrev pub without_zeros : ℕ → ℕ → ℕ × ℕ
without_zeros zero n = (n, 0)
without_zeros (suc k) n = if n % 10 == 0 then (let r = without_zeros k (n / 10) in (r.0, r.1 + 1)) else (n, 0)

-- n / 10 ^ d below the limit of a fraction
abbrev pub bounded : Bool → ℕ → ℕ → Result Fraction DecimalFault
bounded negative n d = if nat_lt n (2 ^ VALUE_BITS * 10 ^ d) then Ok
    (record { num = signed negative n; den = Ten d }) else Err TooLarge

-- n times the power of ten, no finer than a fraction may be
abbrev pub scaled : Bool → ℕ → ℤ → Result Fraction DecimalFault
scaled negative n (pos p) = bounded negative (n * 10 ^ p) 0
scaled negative n (negsuc q) = if nat_lt q GREATEST_TEN then bounded negative n (q + 1) else Err TooFine

-- n times the power of ten, where n has no zero at its end and not too many digits; a zero has the power 0
abbrev pub limited : Bool → ℕ → ℤ → Result Fraction DecimalFault
limited negative n p = if n == 0 then Ok zero_fraction else
    (if nat_lt n (10 ^ MOST_DIGITS) then scaled negative n p else Err TooManyDigits)

-- digits as one whole number, times ten to the power of the exponent less the count of digits after the point
unfoldable pub digits_value : Bool → List ℕ → ℕ → ℤ → Result Fraction DecimalFault
digits_value negative ds after exponent =
    let kept = without_zeros (length ds) (number_from 0 ds) in
    limited negative kept.0 ((exponent -ℤ pos after) +ℤ pos kept.1)

abbrev pub meaning : Parts → Result Fraction DecimalFault
meaning p = digits_value (is_minus p.sign) (all_digits p) (length (after_digits p.after)) (exponent_value p.exponent)
