-- What tokens a text has.
use Rattle.std.specs.Prelude.{◌≡◌, ℕ, ◌==◌, ◌&&◌, ◌||◌, Bool, true, false, nat_le, List, [], ◌∷◌, ◌++◌, codes, ⊤}
use Rattle.std.specs.Fmt.{decimal}
use Rattle.std.specs.List.{list_all, list_any}
use Rattle.std.specs.Str.{bytes_eq}
use Rattle.fx_nums.specs.Signs.{is_blank, is_digit}

-- ---- bytes

-- the letters of a row's word of this moment, of its word of the moment before, and of an input's word
abbrev pub row_letter : ℕ
row_letter = 114

abbrev pub old_letter : ℕ
old_letter = 115

abbrev pub input_letter : ℕ
input_letter = 117

abbrev pub small_a : ℕ
small_a = 97

abbrev pub small_z : ℕ
small_z = 122

abbrev pub capital_a : ℕ
capital_a = 65

abbrev pub capital_z : ℕ
capital_z = 90

abbrev pub underscore : ℕ
underscore = 95

abbrev pub equals_mark : ℕ
equals_mark = 61

abbrev pub number_mark : ℕ
number_mark = 35

abbrev pub is_letter : ℕ → Bool
is_letter c = (nat_le small_a c && nat_le c small_z) || (nat_le capital_a c && nat_le c capital_z)

-- a byte of a name behind its first
abbrev pub is_word : ℕ → Bool
is_word c = (is_letter c || is_digit c) || c == underscore

-- the first byte passes a test
abbrev pub begins : (ℕ → Bool) → List ℕ → Bool
begins test [] = false
begins test (c ∷ cs) = test c

-- ---- tokens

-- a letter, then letters, digits and `_`
abbrev pub is_name : List ℕ → Bool
is_name [] = false
is_name (c ∷ cs) = is_letter c && list_all is_word cs

abbrev pub signs : List (List ℕ)
signs =
    codes "{" ∷ codes "}" ∷ codes "(" ∷ codes ")" ∷ codes "," ∷ codes ";" ∷ codes "=" ∷ codes "+="
    ∷ codes "-" ∷ []

abbrev pub is_sign : List ℕ → Bool
is_sign s = list_any (bytes_eq s) signs

-- a name, a number or a sign
pub data Lexeme : Type 0 where
  name : List ℕ → Lexeme
  number : ℕ → Lexeme
  sign : List ℕ → Lexeme

-- how it is written; a number in plain decimal
abbrev pub text_of : Lexeme → List ℕ
text_of (name w) = w
text_of (number n) = decimal n
text_of (sign s) = s

abbrev pub IsLexeme : Lexeme → Type 0
IsLexeme (name w) = is_name w ≡ true
IsLexeme (number n) = ⊤
IsLexeme (sign s) = is_sign s ≡ true

-- a name goes on to the last byte of a word, a number to the last digit
abbrev pub IsEnd : Lexeme → List ℕ → Type 0
IsEnd (name w) rest = begins is_word rest ≡ false
IsEnd (number n) rest = begins is_digit rest ≡ false
IsEnd (sign s) rest = ⊤

-- ---- a text

-- behind blanks the text begins with this token, and the rest follows
pub record FirstLexeme (text : List ℕ) (t : Lexeme) (rest : List ℕ) : Type 0 where
  pub blanks : List ℕ
  pub are_blank : list_all is_blank blanks ≡ true
  pub valid : IsLexeme t
  pub stands : text ≡ blanks ++ (text_of t ++ rest)
  pub ends : IsEnd t rest

-- the text has these tokens, between blanks
unfoldable pub HasLexemes : List ℕ → List Lexeme → Type 0
HasLexemes text [] = list_all is_blank text ≡ true
HasLexemes text (t ∷ ts) = (rest : List ℕ) × FirstLexeme text t rest × HasLexemes rest ts
