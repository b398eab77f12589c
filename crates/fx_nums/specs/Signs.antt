-- Blanks, digits and signs of texts.
use Rattle.std.specs.Prelude.{ℕ, ◌+◌, ◌-◌, ◌*◌, ◌≤◌, ◌==◌, ◌&&◌, ◌||◌, nat_le, Bool, true, false, if◌then◌else◌}
use Rattle.std.specs.Prelude.{ℤ, pos, neg_ℤ, List, [], ◌∷◌, length}
use Rattle.std.specs.List.{AllByRecursion}

-- ---- marks

abbrev pub space : ℕ
space = 32

abbrev pub tab : ℕ
tab = 9

abbrev pub carriage_return : ℕ
carriage_return = 13

abbrev pub line_feed : ℕ
line_feed = 10

abbrev pub plus_sign : ℕ
plus_sign = 43

abbrev pub minus_sign : ℕ
minus_sign = 45

abbrev pub point_mark : ℕ
point_mark = 46

abbrev pub digit_zero : ℕ
digit_zero = 48

abbrev pub digit_nine : ℕ
digit_nine = 57

-- ---- blanks

-- a space, a tab, a carriage return or a line feed
abbrev pub is_blank : ℕ → Bool
is_blank c = ((c == space || c == tab) || c == carriage_return) || c == line_feed

-- ---- digits

abbrev pub is_digit : ℕ → Bool
is_digit c = nat_le digit_zero c && nat_le c digit_nine

abbrev pub IsDigit : ℕ → Type 0
IsDigit c = (digit_zero ≤ c) × (c ≤ digit_nine)

-- at least one digit, and digits alone
pub record AreDigits (ds : List ℕ) : Type 0 where
  pub some : 1 ≤ length ds
  pub all : AllByRecursion IsDigit ds

-- what a digit counts
abbrev pub digit_value : ℕ → ℕ
digit_value c = c - digit_zero

-- digits, read as one whole number behind another
abbrev pub number_from : ℕ → List ℕ → ℕ
number_from n [] = n
number_from n (c ∷ cs) = number_from (10 * n + digit_value c) cs

-- ---- signs

-- what may stand before a number
pub data Sign : Type 0 where
  Bare : Sign
  Plus : Sign
  Minus : Sign

abbrev pub sign_text : Sign → List ℕ
sign_text Bare = []
sign_text Plus = plus_sign ∷ []
sign_text Minus = minus_sign ∷ []

abbrev pub is_minus : Sign → Bool
is_minus Minus = true
is_minus _ = false

-- the text of the sign that is printed: none before a number that is not negative
abbrev pub minus_text : Bool → List ℕ
minus_text negative = if negative then minus_sign ∷ [] else []

-- a magnitude with its sign
abbrev pub signed : Bool → ℕ → ℤ
signed negative n = if negative then neg_ℤ (pos n) else pos n
