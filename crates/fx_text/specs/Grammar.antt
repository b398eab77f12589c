-- Which texts spell a program.
use Rattle.std.specs.Prelude.{◌≡◌, ℕ, zero, suc, ◌+◌, ℤ, pos, neg_ℤ, List, [], ◌∷◌, ◌++◌, length, codes, ◌⊎◌}
use Rattle.std.specs.Fmt.{decimal}
use Rattle.fx_eqs.specs.declared.mode.Mode.{Mode}
use Rattle.fx_eqs.specs.declared.mode.Mode.TheVariants.{Nearest, Floor}
use Rattle.fx_code.specs.Code.{Row, Code, IsWhole, constant_of}
use Rattle.fx_code.specs.Fits.{CodeFits}
use Rattle.fx_code.specs.declared.term.CodeTerm.{CodeTerm}
use Rattle.fx_code.specs.declared.term.Read.{Read}
use Rattle.fx_code.specs.declared.term.Read.TheVariants.{Now, Old, In}
use Rattle.fx_text.specs.Tokens.{input_letter, Lexeme, old_letter, row_letter, name, number, sign, HasLexemes}

-- ---- names

-- a row's word of this moment, of the moment before, and an input's word, each with its number
abbrev pub row_name : ℕ → Lexeme
row_name i = name (row_letter ∷ decimal i)

abbrev pub old_name : ℕ → Lexeme
old_name i = name (old_letter ∷ decimal i)

abbrev pub input_name : ℕ → Lexeme
input_name j = name (input_letter ∷ decimal j)

abbrev pub source_name : Read → Lexeme
source_name (Now i) = row_name i
source_name (Old i) = old_name i
source_name (In j) = input_name j

abbrev pub accumulator_name : Lexeme
accumulator_name = name (codes "a")

-- ---- the parts, each before the tokens that follow it

-- `, number`
abbrev pub next_number : ℕ → List Lexeme → List Lexeme
next_number n rest = sign (codes ",") ∷ number n ∷ rest

-- `) ;`
abbrev pub closed : List Lexeme → List Lexeme
closed rest = sign (codes ")") ∷ sign (codes ";") ∷ rest

-- `STEP ( W , inputs , rows , outputs ) {`
abbrev pub head_tokens : Code → List Lexeme → List Lexeme
head_tokens p rest =
    name (codes "STEP") ∷ sign (codes "(") ∷ number p.accumulator
    ∷ next_number (length p.inputs) (next_number (length p.rows) (next_number (length p.outputs) (
    sign (codes ")") ∷ sign (codes "{") ∷ rest)))

-- `IN ( uJ , width ) ;`, from input j on
abbrev pub inputs_tokens : ℕ → List ℕ → List Lexeme → List Lexeme
inputs_tokens j [] rest = rest
inputs_tokens j (w ∷ ws) rest =
    name (codes "IN") ∷ sign (codes "(") ∷ input_name j ∷ next_number w (closed (inputs_tokens (j + 1) ws rest))

-- `a = number ;`
abbrev pub constant_tokens : ℕ → List Lexeme → List Lexeme
constant_tokens n rest = accumulator_name ∷ sign (codes "=") ∷ number n ∷ sign (codes ";") ∷ rest

-- the coefficient is a number, or a `-` and the number of its magnitude
abbrev pub SpellsCoefficient : ℤ → List Lexeme → List Lexeme → Type 0
SpellsCoefficient z tokens rest =
    ((n : ℕ) × (tokens ≡ number n ∷ rest) × (z ≡ pos n))
    ⊎ ((n : ℕ) × (tokens ≡ sign (codes "-") ∷ number n ∷ rest) × (z ≡ neg_ℤ (pos n)))

-- `, source , left ) ;`
abbrev pub factors_tokens : Read → ℕ → List Lexeme → List Lexeme
factors_tokens from left rest = sign (codes ",") ∷ source_name from ∷ next_number left (closed rest)

-- `a += MUL ( coef , source , left ) ;`
pub record SpellsTerm (t : CodeTerm) (tokens rest : List Lexeme) : Type 0 where
  pub factors : List Lexeme
  pub begins : tokens
      ≡ accumulator_name ∷ sign (codes "+=") ∷ name (codes "MUL") ∷ sign (codes "(") ∷ factors
  pub coefficient : SpellsCoefficient t.coef factors (factors_tokens t.from t.left rest)

-- the terms of a row, one after the other
abbrev pub SpellsTerms : List CodeTerm → List Lexeme → List Lexeme → Type 0
SpellsTerms [] tokens rest = tokens ≡ rest
SpellsTerms (t ∷ ts) tokens rest =
    (more : List Lexeme) × SpellsTerm t tokens more × SpellsTerms ts more rest

-- what a row's right shift is written with: to the nearest, or down
abbrev pub shift_word : Mode → List ℕ
shift_word Nearest = codes "SAR"
shift_word Floor = codes "FLR"

-- `rI = LOW ( SAR ( a , shift ) , width ) ;`, with `FLR` in place of `SAR` where the row floors
abbrev pub store_tokens : ℕ → Row → List Lexeme → List Lexeme
store_tokens i row rest =
    row_name i ∷ sign (codes "=") ∷ name (codes "LOW") ∷ sign (codes "(")
    ∷ name (shift_word row.own.mode) ∷ sign (codes "(") ∷ accumulator_name ∷ next_number row.own.shift (
    sign (codes ")") ∷ next_number row.width (closed rest))

-- row i: its constant, its terms and its store
pub record SpellsRow (i : ℕ) (row : Row) (tokens rest : List Lexeme) : Type 0 where
  pub terms : List Lexeme
  pub constant : tokens ≡ constant_tokens (constant_of row.own) terms
  pub each : SpellsTerms row.own.terms terms (store_tokens i row rest)

-- the rows from row i on
abbrev pub SpellsRows : ℕ → List Row → List Lexeme → List Lexeme → Type 0
SpellsRows i [] tokens rest = tokens ≡ rest
SpellsRows i (row ∷ rows) tokens rest =
    (more : List Lexeme) × SpellsRow i row tokens more × SpellsRows (i + 1) rows more rest

-- `OUT ( J , rI ) ;`, from output j on
abbrev pub outputs_tokens : ℕ → List ℕ → List Lexeme → List Lexeme
outputs_tokens j [] rest = rest
outputs_tokens j (i ∷ rows) rest =
    name (codes "OUT") ∷ sign (codes "(") ∷ number j ∷ sign (codes ",") ∷ row_name i
    ∷ closed (outputs_tokens (j + 1) rows rest)

-- `sI = rI ;`, for this many rows from row i on
abbrev pub keeps_tokens : ℕ → ℕ → List Lexeme → List Lexeme
keeps_tokens i zero rest = rest
keeps_tokens i (suc k) rest =
    old_name i ∷ sign (codes "=") ∷ row_name i ∷ sign (codes ";") ∷ keeps_tokens (i + 1) k rest

-- what follows the rows: the outputs, the words that are kept, and `}`
abbrev pub last_tokens : Code → List Lexeme
last_tokens p = outputs_tokens 0 p.outputs (keeps_tokens 0 (length p.rows) (sign (codes "}") ∷ []))

-- the tokens are a program's
pub record SpellsProgram (p : Code) (tokens : List Lexeme) : Type 0 where
  pub rows : List Lexeme
  pub begins : tokens ≡ head_tokens p (inputs_tokens 0 p.inputs rows)
  pub each : SpellsRows 0 p.rows rows (last_tokens p)

-- ---- the text

-- its first line
abbrev pub first_line : List ℕ
first_line = codes "#include \"fixif.h\"\n"

-- the bytes are the first line and a text of a program's tokens; the program meets its limits, and
-- is whole
pub record Spells (bytes : List ℕ) (p : Code) : Type 0 where
  pub text : List ℕ
  pub begins : bytes ≡ first_line ++ text
  pub tokens : List Lexeme
  pub has : HasLexemes text tokens
  pub program : SpellsProgram p tokens
  pub fits : CodeFits p
  pub whole : IsWhole p
