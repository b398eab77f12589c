-- A key that no line names, as a line shows it.
use Rattle.std.specs.Prelude.{ℕ, ◌/◌, ◌%◌, ◌==◌, ◌||◌, nat_lt, Bool, true, List, [], ◌∷◌, ◌++◌, codes, if◌then◌else◌}
use Rattle.std.specs.List.{flat_map}
use Rattle.std.specs.Fmt.{digit_glyph}
use Rattle.fx_nums.specs.Signs.{space}

abbrev pub delete : ℕ
delete = 127

-- a byte below the space, or the one that deletes
abbrev pub is_control : ℕ → Bool
is_control c = nat_lt c space || c == delete

-- `\x` and two hexadecimal digits, with capital letters
abbrev pub escaped : ℕ → List ℕ
escaped c = codes "\\x" ++ (digit_glyph true (c / 16) ∷ digit_glyph true (c % 16) ∷ [])

-- a control byte is escaped, each other byte stands as it is
abbrev pub shown_byte : ℕ → List ℕ
shown_byte c = if is_control c then escaped c else c ∷ []

abbrev pub shown_key : List ℕ → List ℕ
shown_key key = flat_map shown_byte key
