-- Whole numbers at the front of a text.
use Rattle.std.specs.Prelude.{◌≡◌, ◌↔◌, ◌≤◌, ◌<◌, ◌^◌, ℕ, ◌+◌, ◌*◌, ◌-◌, ◌==◌, ◌&&◌, Bool, false, not, nat_lt}
use Rattle.std.specs.Prelude.{if◌then◌else◌, List, [], ◌∷◌, ◌++◌, Option, Some, None}
use Rattle.std.specs.Char.{is_ascii_digit}
use Rattle.std.specs.Fmt.{decimal}
use Rattle.fx_nums.specs.Signs.{digit_value, digit_zero}

abbrev pub begins_with_digit : List ℕ → Bool
begins_with_digit [] = false
begins_with_digit (c ∷ cs) = is_ascii_digit c

-- a digit stands first, and no zero before another digit
abbrev pub begins_number : List ℕ → Bool
begins_number [] = false
begins_number (c ∷ cs) = is_ascii_digit c && not (c == digit_zero && begins_with_digit cs)

-- the number that the digits at the front write behind those of v, each step below the limit, and what follows them
unfoldable pub digits_from : ℕ → ℕ → List ℕ → Option (ℕ × List ℕ)
digits_from limit v [] = Some (v, [])
digits_from limit v (c ∷ cs) =
    if is_ascii_digit c then
    (if nat_lt (10 * v + digit_value c) limit then digits_from limit (10 * v + digit_value c) cs else None) else Some
    (v, c ∷ cs)

-- the number below the limit that stands at the front, and what follows its last digit
unfoldable pub whole_in : ℕ → List ℕ → Option (ℕ × List ℕ)
whole_in limit text = if begins_number text then digits_from limit 0 text else None

-- the decimal of the number stands at the front, with no digit behind it
pub record IsWholeAndRest (limit : ℕ) (text : List ℕ) (n : ℕ) (rest : List ℕ) : Type 0 where
  pub stands : text ≡ decimal n ++ rest
  pub below : n < limit
  pub no_digit : begins_with_digit rest ≡ false

-- a number is read exactly where its decimal stands
abbrev pub WholeLaw : Type 0
WholeLaw = (limit : ℕ) (text : List ℕ) (n : ℕ) (rest : List ℕ) → limit ≤ 2 ^ 128 →
    (whole_in limit text ≡ Some (n, rest)) ↔ IsWholeAndRest limit text n rest
