-- A machine's fields, as the machine that contracts see, and a moment row by row.
use Rattle.fx_machine.specs.declared.places.TheConstants.{FIRST_INPUT, FIRST_OLD, WORD_COUNT}
use Rattle.fx_code.specs.declared.limits.TheConstants.{CODE_ROWS}
use Rattle.std.specs.Prelude.{◌≡◌, ℕ, zero, suc, ◌+◌, ◌<◌, ◌≤◌, ℤ, pos, Bool, cond, List, length}
use Rattle.std.specs.Prelude.{map, take, slice_index, slice_set}
use Rattle.std.specs.Int.{bit_at}
use Rattle.fx_math.specs.Residue.{FitsBits}
use Rattle.fx_code.specs.Code.{Code, row_at}
use Rattle.fx_code.specs.Fits.{CodeFits}
use Rattle.fx_machine.specs.Moments.{State}
use Rattle.fx_machine.specs.Prepared.{plan_of, plan_for, word_in, word_of, is_partial, is_lost}
use Rattle.fx_machine.specs.declared.prepared.PreparedRow.{PreparedRow}
use Rattle.fx_machine.specs.declared.machine.Machine.TheInside.{Inside}

abbrev pub state_of : Inside → State
state_of m = record { program = m.program.now; words = take (length m.program.now.rows) m.words }

-- the words after the first rows of a moment
abbrev pub rows_done : Code → List ℤ → ℕ → List ℤ
rows_done p words zero = words
rows_done p words (suc i) = slice_set (rows_done p words i) i (word_of (plan_for p (row_at p i)) (rows_done p words i))

-- the words of rows and inputs lie within their bits, and those of rows that are not there are 0
pub record WordsFit (p : Code) (words : List ℤ) : Type 0 where
  pub count : length words ≡ WORD_COUNT
  pub now : (i : ℕ) → i < length p.rows → FitsBits (row_at p i).width (word_in words i)
  pub old : (i : ℕ) → i < length p.rows → FitsBits (row_at p i).width (word_in words (FIRST_OLD + i))
  pub missing : (i : ℕ) → length p.rows ≤ i → i < CODE_ROWS → word_in words (FIRST_OLD + i) ≡ pos 0
  pub input : (j : ℕ) → j < length p.inputs →
      FitsBits (slice_index p.inputs j) (word_in words (FIRST_INPUT + j))

-- the rows of a program, prepared
abbrev pub ArePrepared : Code → List PreparedRow → Type 0
ArePrepared p rows = map plan_of rows ≡ map (plan_for p) p.rows

-- the program keeps its limits, its rows are prepared, and each word lies within its bits
pub record IsReady (m : Inside) : Type 0 where
  pub fits : CodeFits m.program.now
  pub rows : ArePrepared m.program.now m.rows.items
  pub words : WordsFit m.program.now m.words

-- ---- a moment

-- the words as a moment begins: those of the rows are kept as those of the moment before, and the inputs are taken
pub record Begins (words begun : List ℤ) (rows : ℕ) (taken : List ℤ) : Type 0 where
  pub count : length begun ≡ WORD_COUNT
  pub now : (i : ℕ) → i < CODE_ROWS → word_in begun i ≡ word_in words i
  pub old : (i : ℕ) → i < rows → word_in begun (FIRST_OLD + i) ≡ word_in words i
  pub missing : (i : ℕ) → rows ≤ i → i < CODE_ROWS → word_in begun (FIRST_OLD + i) ≡ word_in words (FIRST_OLD + i)
  pub input : (j : ℕ) → j < length taken → word_in begun (FIRST_INPUT + j) ≡ word_in taken j

-- marks of n rows: a row's bit is 1 where the test says so, else 0, and no further bit is set
pub record HasBits (test : ℕ → Bool) (n marks : ℕ) : Type 0 where
  pub bits : (i : ℕ) → i < n → bit_at marks i ≡ cond (test i) 1 0
  pub rest : (i : ℕ) → n ≤ i → bit_at marks i ≡ 0

-- the marks of row i, from the words as a moment begins
abbrev pub partial_at : Code → List ℤ → ℕ → Bool
partial_at p words i = is_partial (plan_for p (row_at p i)) (rows_done p words i)

abbrev pub lost_at : Code → List ℤ → ℕ → Bool
lost_at p words i = is_lost (plan_for p (row_at p i)) (rows_done p words i)
