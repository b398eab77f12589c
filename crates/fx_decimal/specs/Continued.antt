-- Texts that go on to a numeral, and where a text stops to be one of them.
use Rattle.std.specs.Prelude.{◌≡◌, ◌↔◌, ℕ, ◌+◌, List, ◌++◌, take, Err}
use Rattle.fx_decimal.specs.Faults.{numeral}
use Rattle.fx_decimal.specs.Numeral.{Parts, IsNumeral, parts_text}
use Rattle.fx_decimal.specs.declared.fault.DecimalFault.TheVariants.{Empty, BadByte}

-- the text of a numeral
pub record IsNumeralText (text : List ℕ) : Type 0 where
  pub parts : Parts
  pub proper : IsNumeral parts
  pub stands : text ≡ parts_text parts

-- some bytes behind the text, or none, make it the text of a numeral
pub record CanContinue (text : List ℕ) : Type 0 where
  pub more : List ℕ
  pub numeral : IsNumeralText (text ++ more)

-- the text can be continued to a numeral, and is none
pub record IsUnfinished (text : List ℕ) : Type 0 where
  pub continued : CanContinue text
  pub no_numeral : ¬ IsNumeralText text

-- the bytes before a place can be continued to a numeral, and those up to this place can not
pub record StopsAt (place : ℕ) (text : List ℕ) : Type 0 where
  pub before : CanContinue (take place text)
  pub behind : ¬ CanContinue (take (place + 1) text)

-- a digit is told as wanted exactly where the text is unfinished
abbrev pub EmptyLaw : Type 0
EmptyLaw = (text : List ℕ) → (numeral text ≡ Err Empty) ↔ IsUnfinished text

-- a byte is told as bad exactly where the text stops at it
abbrev pub BadByteLaw : Type 0
BadByteLaw = (text : List ℕ) (place : ℕ) → (numeral text ≡ Err (BadByte place)) ↔ StopsAt place text
