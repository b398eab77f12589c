-- Tokens as they are read from left to right, with the offset of the first fault.
use Rattle.std.specs.Prelude.{ℕ, zero, suc, ◌+◌, ◌^◌, ◌==◌, ◌&&◌, ◌||◌, Bool, true, false, not, List, []}
use Rattle.std.specs.Prelude.{◌∷◌, length, take, drop, codes, pos, Option, Some, None, Result, Ok, Err}
use Rattle.std.specs.Prelude.{if◌then◌else◌}
use Rattle.std.specs.List.{list_any, starts_with}
use Rattle.std.specs.Prelude.{nat_eq}
use Rattle.std.specs.Str.{bytes_eq}
use Rattle.fx_math.specs.Faults.{or_fault, ◌>>=◌}
use Rattle.fx_code.specs.declared.limits.TheConstants.{CODE_ROWS}
use Rattle.fx_code.specs.Limits.{is_outside}
use Rattle.fx_code.specs.declared.fault.LimitOf.{LimitOf}
use Rattle.fx_nums.specs.Whole.{whole_in}
use Rattle.fx_text.specs.declared.fault.CodeFault.{CodeFault}
use Rattle.fx_text.specs.declared.fault.CodeFault.TheVariants.{Token, Unexpected, Name, Number, Limit, NoMemory}
use Rattle.fx_nums.specs.Signs.{digit_zero, is_blank, is_digit, plus_sign}
use Rattle.fx_text.specs.Tokens.{begins, equals_mark, is_letter, is_word, number_mark}
use Rattle.fx_text.specs.Grammar.{first_line}

-- ---- answers

-- the one fault that may come at any time
abbrev pub is_memory : CodeFault → Bool
is_memory NoMemory = true
is_memory _ = false

-- a step, this many times
abbrev pub repeated : {S : Type 0} → ℕ → (S → Result S CodeFault) → S → Result S CodeFault
repeated zero step s = Ok s
repeated (suc k) step s = step s >>= repeated k step

-- ---- how long

-- the bytes at the front that pass a test
unfoldable pub front_len : (ℕ → Bool) → List ℕ → ℕ
front_len test [] = 0
front_len test (c ∷ cs) = if test c then suc (front_len test cs) else 0

-- a sign of one byte
abbrev pub is_mark : ℕ → Bool
is_mark c = list_any (λ (mark : ℕ). mark == c) (codes "{}(),;=-")

abbrev pub is_equals : ℕ → Bool
is_equals c = c == equals_mark

-- the token at the front; 0 where none begins
unfoldable pub token_len : List ℕ → ℕ
token_len [] = 0
token_len (c ∷ cs) =
    if is_letter c then front_len is_word (c ∷ cs)
    else if is_digit c then front_len is_digit (c ∷ cs)
    else if is_mark c then 1
    else if c == plus_sign && begins is_equals cs then 2
    else 0

-- ---- tokens

abbrev pub is_nothing : List ℕ → Bool
is_nothing [] = true
is_nothing (c ∷ cs) = false

-- where the token begins, its text, which is empty at the end, and where it ends
abbrev pub token_of : ℕ → List ℕ → Result (ℕ × List ℕ × ℕ) CodeFault
token_of start rest =
    if token_len rest == 0 && not (is_nothing rest)
    then Err (Token start)
    else Ok (start, take (token_len rest) rest, start + token_len rest)

-- the next token
unfoldable pub token_at : List ℕ → ℕ → Result (ℕ × List ℕ × ℕ) CodeFault
token_at text at =
    token_of (at + front_len is_blank (drop at text)) (drop (at + front_len is_blank (drop at text)) text)

-- the place after this token
unfoldable pub expect_at : List ℕ → List ℕ → ℕ → Result ℕ CodeFault
expect_at word text at = do
  t ← token_at text at
  if bytes_eq t.1 word then Ok t.2 else Err (Unexpected t.0)

-- the place after these two
unfoldable pub pair_at : List ℕ → List ℕ → List ℕ → ℕ → Result ℕ CodeFault
pair_at first second text at = do
  middle ← expect_at first text at
  expect_at second text middle

-- the first line, and what refuses another
abbrev pub front_fault : List ℕ → CodeFault
front_fault [] = Unexpected 0
front_fault (c ∷ cs) =
    if is_blank c || (c == number_mark || not (token_len (c ∷ cs) == 0)) then Unexpected 0 else Token 0

unfoldable pub first_line_at : List ℕ → Result ℕ CodeFault
first_line_at bytes =
    if starts_with nat_eq bytes first_line then Ok (length first_line) else Err (front_fault bytes)

-- ---- numbers

-- a number below 2^63 without a zero before other digits, and the place after it
unfoldable pub number_at : List ℕ → ℕ → Result (ℕ × ℕ) CodeFault
number_at text at = do
  t ← token_at text at
  if begins is_digit t.1
      then (or_fault (Number t.0) (whole_in (2 ^ 63) t.1) >>= λ n. Ok (n.0, t.2))
      else Err (Unexpected t.0)

-- a number from low to high
unfoldable pub ranged_at : LimitOf → ℕ → ℕ → List ℕ → ℕ → Result (ℕ × ℕ) CodeFault
ranged_at what low high text at = do
  n ← number_at text at
  if is_outside low high n.0 then Err (Limit what (pos n.0)) else Ok n

-- one after a comma
unfoldable pub next_at : LimitOf → ℕ → ℕ → List ℕ → ℕ → Result (ℕ × ℕ) CodeFault
next_at what low high text at = do
  b ← expect_at (codes ",") text at
  ranged_at what low high text b

abbrev pub is_zero : ℕ → Bool
is_zero c = c == digit_zero

-- the digits write this number below ten, zeros before it left out
abbrev pub writes_digit : ℕ → List ℕ → Bool
writes_digit due digits =
    let significant = drop (front_len is_zero digits) digits in
    if due == 0 then is_nothing significant else bytes_eq significant ((digit_zero + due) ∷ [])

-- the place after the number that is due
unfoldable pub index_at : ℕ → List ℕ → ℕ → Result ℕ CodeFault
index_at due text at = do
  t ← token_at text at
  if begins is_digit t.1 then (
      if writes_digit due t.1 then (if length t.1 == 1 then Ok t.2 else Err (Number t.0)) else Err (Name t.0)
      ) else Err (Unexpected t.0)

-- ---- names

abbrev pub is_letter_of : ℕ → ℕ → Bool
is_letter_of letter c = c == letter

-- a number with nothing after it
abbrev pub alone : ℕ × List ℕ → Option ℕ
alone n = if is_nothing n.1 then Some n.0 else None

abbrev pub then_alone : Option (ℕ × List ℕ) → Option ℕ
then_alone (Some n) = alone n
then_alone None = None

-- the number below the limit of a name with this letter
unfoldable pub name_number : ℕ → ℕ → List ℕ → Option ℕ
name_number letter limit word =
    if begins (is_letter_of letter) word then then_alone (whole_in limit (drop 1 word)) else None

abbrev pub is_some_of : ℕ → Option ℕ → Bool
is_some_of n (Some m) = m == n
is_some_of n None = false

-- the place after the name that is due
unfoldable pub due_at : ℕ → ℕ → List ℕ → ℕ → Result ℕ CodeFault
due_at letter n text at = do
  t ← token_at text at
  if begins is_letter t.1
      then (if is_some_of n (name_number letter CODE_ROWS t.1) then Ok t.2 else Err (Name t.0))
      else Err (Unexpected t.0)
