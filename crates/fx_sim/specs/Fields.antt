-- The number that a field of a record stands for.
use Rattle.std.specs.Prelude.{◌≡◌, ℕ, ℤ, ◌+◌, ◌*◌, ◌≤◌, ◌==◌, ◌&&◌, ◌||◌, nat_lt, true, false, List, [], ◌∷◌}
use Rattle.std.specs.Prelude.{◌++◌, length, Option, Some, None, option_map, if◌then◌else◌}
use Rattle.std.specs.List.{AllByRecursion}
use Rattle.fx_nums.specs.Signs.{digit_nine, digit_value, digit_zero, is_blank, is_minus, IsDigit, minus_sign}
use Rattle.fx_nums.specs.Signs.{number_from, plus_sign, Sign, sign_text, signed}
use Rattle.fx_sim.specs.declared.field.TheConstants.{FIELD_DIGITS}

-- ---- what a field is

abbrev pub IsBlank : ℕ → Type 0
IsBlank c = is_blank c ≡ true

-- a field is blanks, perhaps a sign, at least one and at most so many digits, and blanks
pub record IsField (field : List ℕ) (number : ℤ) : Type 0 where
  pub before : List ℕ
  pub sign : Sign
  pub digits : List ℕ
  pub behind : List ℕ
  pub front_blank : AllByRecursion IsBlank before
  pub end_blank : AllByRecursion IsBlank behind
  pub are_digits : AllByRecursion IsDigit digits
  pub some : 1 ≤ length digits
  pub few : length digits ≤ FIELD_DIGITS
  pub text : field ≡ before ++ (sign_text sign ++ (digits ++ behind))
  pub value : number ≡ signed (is_minus sign) (number_from 0 digits)

-- ---- how it is read

-- what follows the blanks at the front
unfoldable pub skipped : List ℕ → List ℕ
skipped [] = []
skipped (c ∷ cs) = if is_blank c then skipped cs else c ∷ cs

-- a number that was read, where it has digits and only blanks follow
abbrev pub ended : ℕ → ℕ → List ℕ → Option ℕ
ended count value rest = if nat_lt 0 count && length (skipped rest) == 0 then Some value else None

-- digits behind so many that have this value, and then only blanks
unfoldable pub magnitude : ℕ → ℕ → List ℕ → Option ℕ
magnitude count value [] = ended count value []
magnitude count value (c ∷ cs) =
    if nat_lt c digit_zero || nat_lt digit_nine c then ended count value (c ∷ cs)
    else if count == FIELD_DIGITS then None
    else magnitude (count + 1) (10 * value + digit_value c) cs

-- a sign, if there is one, and digits
unfoldable pub number_in : List ℕ → Option ℤ
number_in [] = None
number_in (c ∷ cs) =
    if c == minus_sign then option_map (signed true) (magnitude 0 0 cs)
    else if c == plus_sign then option_map (signed false) (magnitude 0 0 cs)
    else option_map (signed false) (magnitude 0 0 (c ∷ cs))

-- the number of a field
abbrev pub field_value : List ℕ → Option ℤ
field_value bytes = number_in (skipped bytes)
