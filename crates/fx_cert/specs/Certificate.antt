-- Certificates, and the one text of each.
use Rattle.std.specs.Prelude.{◌≡◌, ℕ, ◌≤◌, ℤ, pos, ◌≤ℤ◌, List, ◌++◌, length, codes, All}
use Rattle.std.specs.Fmt.{decimal, signed_decimal}
use Rattle.std.specs.List.{flat_map}
use Rattle.fx_msb.specs.Widths.{IsBound}
use Rattle.fx_cert.specs.declared.limits.TheConstants.{LEAST_LENGTH, GREATEST_LENGTH, GREATEST_ROWS}
use Rattle.fx_cert.specs.declared.limits.TheConstants.{GREATEST_OUTPUTS, GREATEST_ERROR}

-- how many moments a block has, the bound of each row, and the error of each output at the scale 2 ^ -64
pub record Certificate : Type 0 where
  pub length : ℕ
  pub bounds : List ℤ
  pub errors : List ℤ

-- the block length of row i, and of output o
abbrev pub row_length : Certificate → ℕ → ℕ
row_length c i = c.length

abbrev pub output_length : Certificate → ℕ → ℕ
output_length c o = c.length

-- ---- the ranges of its numbers

pub record IsError (e : ℤ) : Type 0 where
  pub low : pos 0 ≤ℤ e
  pub high : e ≤ℤ pos GREATEST_ERROR

pub record CertificateFits (c : Certificate) : Type 0 where
  pub length_low : LEAST_LENGTH ≤ c.length
  pub length_high : c.length ≤ GREATEST_LENGTH
  pub rows_low : 1 ≤ length c.bounds
  pub rows_high : length c.bounds ≤ GREATEST_ROWS
  pub bounds : All IsBound c.bounds
  pub outputs_low : 1 ≤ length c.errors
  pub outputs_high : length c.errors ≤ GREATEST_OUTPUTS
  pub errors : All IsError c.errors

-- ---- its text

-- a line of a word, with the blank behind it, and the digits of a number
abbrev pub numbered : List ℕ → List ℕ → List ℕ
numbered word digits = word ++ (digits ++ codes "\n")

-- such a line for each number
abbrev pub numbered_each : List ℕ → List ℤ → List ℕ
numbered_each word zs = flat_map (λ z. numbered word (signed_decimal z)) zs

abbrev pub first_line : List ℕ
first_line = codes "fixif certificate 1"

-- each certificate's one text
abbrev pub text_of : Certificate → List ℕ
text_of c =
    (first_line ++ codes "\n")
    ++ (numbered (codes "length ") (decimal c.length)
    ++ (numbered (codes "rows ") (decimal (length c.bounds))
    ++ (numbered_each (codes "X ") c.bounds
    ++ (numbered (codes "outputs ") (decimal (length c.errors))
    ++ (numbered_each (codes "E ") c.errors
    ++ codes "end\n")))))

-- the bytes are the text of this certificate, whose numbers are in their ranges
pub record IsTextOf (bytes : List ℕ) (c : Certificate) : Type 0 where
  pub text : bytes ≡ text_of c
  pub fits : CertificateFits c
