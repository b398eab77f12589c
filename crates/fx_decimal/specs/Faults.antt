-- How a text is read from left to right, to its parts or to its first fault.
use Rattle.std.specs.Prelude.{◌≡◌, ◌↔◌, ℕ, ◌-◌, ◌==◌, ◌&&◌, ◌||◌, not, Bool, true, false, if◌then◌else◌, List}
use Rattle.std.specs.Prelude.{[], ◌∷◌, length, drop, min, ℤ, Option, Some, None, Result, Ok, Err}
use Rattle.std.specs.Char.{is_ascii_digit}
use Rattle.std.specs.List.{take_while}
use Rattle.fx_nums.specs.Fraction.{Fraction}
use Rattle.fx_nums.specs.Signs.{Sign, Bare, Plus, Minus, plus_sign, minus_sign, point_mark, number_from, signed}
use Rattle.fx_decimal.specs.declared.fault.DecimalFault.{DecimalFault}
use Rattle.fx_decimal.specs.declared.fault.DecimalFault.TheVariants.{Empty, BadByte}
use Rattle.fx_decimal.specs.Numeral.{Exponent, Parts, IsNumeral, after_digits, large_e, small_e, meaning, parts_text}
use Rattle.fx_decimal.specs.declared.limits.TheConstants.{GREATEST_EXPONENT}

-- at a byte that cannot go on, in a text of n bytes, or at its end
abbrev pub stop : ℕ → List ℕ → DecimalFault
stop n [] = Empty
stop n (c ∷ cs) = BadByte (n - length (c ∷ cs))

abbrev pub is_end : List ℕ → Bool
is_end [] = true
is_end _ = false

-- a sign or none, and what follows it
abbrev pub sign_in : List ℕ → Sign × List ℕ
sign_in [] = (Bare, [])
sign_in (c ∷ cs) = if c == plus_sign then (Plus, cs) else (if c == minus_sign then (Minus, cs) else (Bare, c ∷ cs))

-- the digits at the front
abbrev pub front_digits : List ℕ → List ℕ
front_digits text = take_while is_ascii_digit text

-- the digits at the front, and what follows them
abbrev pub digits_in : List ℕ → List ℕ × List ℕ
digits_in text = (front_digits text, drop (length (front_digits text)) text)

-- a point and the digits behind it, or none, and what follows them
abbrev pub after_in : List ℕ → Option (List ℕ) × List ℕ
after_in [] = (None, [])
after_in (c ∷ cs) = if c == point_mark then (Some (digits_in cs).0, (digits_in cs).1) else (None, c ∷ cs)

-- the digits of an exponent, to the end of the text
abbrev pub exponent_digits : ℕ → Bool → Sign → List ℕ × List ℕ → Result (Option Exponent) DecimalFault
exponent_digits n upper sign read =
    if is_end read.0 || not (is_end read.1) then Err (stop n read.1) else Ok
    (Some (record { upper = upper; sign = sign; digits = read.0 }))

-- the value of an exponent whose sign and digits are read, to the end of the text
abbrev pub exponent_number : ℕ → Bool → List ℕ × List ℕ → Result ℤ DecimalFault
exponent_number n negative read =
    if is_end read.0 || not (is_end read.1) then Err (stop n read.1) else Ok
    (signed negative (min (number_from 0 read.0) GREATEST_EXPONENT))

-- an exponent or none, to the end of a text of n bytes
unfoldable pub exponent_in : ℕ → List ℕ → Result (Option Exponent) DecimalFault
exponent_in n [] = Ok None
exponent_in n (c ∷ cs) =
    if c == large_e || c == small_e then exponent_digits n (c == large_e) (sign_in cs).0
    (digits_in (sign_in cs).1) else Err (stop n (c ∷ cs))

-- goes on with a value, and keeps a fault
abbrev pub and_then : {A B E : Type 0} → (A → Result B E) → Result A E → Result B E
and_then f (Ok a) = f a
and_then f (Err e) = Err e

-- the parts of a text of n bytes, whose sign, whole digits and digits after a point are read
abbrev pub ended : ℕ → Sign → List ℕ → Option (List ℕ) × List ℕ → Result Parts DecimalFault
ended n sign whole read =
    if is_end whole && is_end (after_digits read.0) then Err (stop n read.1) else
    and_then (λ e. Ok (record { sign = sign; whole = whole; after = read.0; exponent = e })) (exponent_in n read.1)

-- the parts of a text, or where it stops to be a numeral
unfoldable pub parts_in : List ℕ → Result Parts DecimalFault
parts_in text =
    let sign = sign_in text in
    let whole = digits_in sign.1 in
    ended (length text) sign.0 whole.0 (after_in whole.1)

-- the fraction that a text means, or its first fault
unfoldable pub numeral : List ℕ → Result Fraction DecimalFault
numeral text = and_then meaning (parts_in text)

-- ---- what the reading means

-- parts whose text this is, and which mean r
pub record Means (text : List ℕ) (r : Result Fraction DecimalFault) : Type 0 where
  pub parts : Parts
  pub proper : IsNumeral parts
  pub stands : text ≡ parts_text parts
  pub value : meaning parts ≡ r

-- a fraction is read exactly where the text is that of parts that mean it
abbrev pub NumeralLaw : Type 0
NumeralLaw = (text : List ℕ) (c : Fraction) → (numeral text ≡ Ok c) ↔ Means text (Ok c)

-- the text of parts is read as what they mean, also where that is out of the limits
abbrev pub TextLaw : Type 0
TextLaw = (p : Parts) → IsNumeral p → numeral (parts_text p) ≡ meaning p
