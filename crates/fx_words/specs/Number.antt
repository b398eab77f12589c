-- The number that a word writes.
use Rattle.std.specs.Prelude.{ℕ, ◌^◌, ◌&&◌, nat_le, nat_lt, Bool, false, if◌then◌else◌, List, [], ◌∷◌, length}
use Rattle.std.specs.Prelude.{Option, Some, None}
use Rattle.std.specs.Str.{all_ascii_digits}
use Rattle.std.specs.Str.Parse.{digits_value}

-- 1 to 10 decimal digits, zeros before others among them, of value at most 4294967295
abbrev pub is_number : List ℕ → Bool
is_number word =
    (nat_le 1 (length word) && nat_le (length word) 10)
    && (all_ascii_digits word && nat_lt (digits_value 10 word) (2 ^ 32))

abbrev pub number_of : List ℕ → Option ℕ
number_of word = if is_number word then Some (digits_value 10 word) else None

-- one word alone, which writes a number
abbrev pub is_one_number : List (List ℕ) → Bool
is_one_number (word ∷ []) = is_number word
is_one_number _ = false
