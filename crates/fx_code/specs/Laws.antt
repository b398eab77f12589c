-- What the laws of this crate say.
use Rattle.std.specs.Prelude.{◌≡◌, ℕ, ◌+◌, ◌*◌, ◌^◌, ◌<◌, ◌≤◌, None, ℤ, pos, ◌-ℤ◌, ◌*ℤ◌, unsigned_abs, List}
use Rattle.std.specs.Prelude.{◌++◌, length, slice_index_or}
use Rattle.fx_math.specs.Division.{floor_div}
use Rattle.fx_math.specs.Unroll.{before}
use Rattle.fx_net.specs.Net.{Net}
use Rattle.fx_net.specs.Run.{IsDenominator, row_sum, row_time}
use Rattle.fx_eqs.specs.declared.limits.TheConstants.{PORTS}
use Rattle.fx_code.specs.Code.{BareRow, Row, Code, row_at, IsWhole}
use Rattle.fx_code.specs.Fits.{RowFits, ReadsFit, CodeFits}
use Rattle.fx_code.specs.Inputs.{word_at}
use Rattle.fx_code.specs.declared.limits.TheConstants.{CODE_ROWS, CODE_TERMS}
use Rattle.fx_code.specs.Limits.{term_count, start_fault, row_fault, output_fault}
use Rattle.fx_code.specs.NetRows.{put_bare_rows, HoldsBareRows, put_code, HoldsCode}
use Rattle.fx_code.specs.Run.{whole_sum, word_step, words, output_word, outputs_at, sum_at, IsExact}

-- the word of an exact row is its whole-number sum, floored by the shift
abbrev pub ExactWords : Code → Type 0
ExactWords p = (u : ℕ → ℕ → ℤ) (k i : ℕ) → i < length p.rows → IsExact p u k i →
    words p u k i ≡ floor_div (sum_at p u k i) (2 ^ (row_at p i).own.shift)

-- the words of a moment are the step of the finished moment and of the one before
abbrev pub WordsAreTheirStep : Code → Type 0
WordsAreTheirStep p = (u : ℕ → ℕ → ℤ) (k i : ℕ) → i < length p.rows →
    words p u k i ≡ word_step p u k i (words p u k) (before (words p u) k)

-- words at a moment read inputs up to that moment alone
abbrev pub EarlierInputs : Type 0
EarlierInputs = (p : Code) (list rest : List (List ℤ)) (k : ℕ) → k < length list →
    words p (word_at (list ++ rest)) k ≡ words p (word_at list) k

-- what is put out at a moment are its output words
abbrev pub OutputsInOrder : Type 0
OutputsInOrder = (p : Code) (u : ℕ → ℕ → ℤ) (k o : ℕ) → o < length p.outputs →
    slice_index_or (outputs_at p u k) o (pos 0) ≡ output_word p u k o

-- ---- a program in a net

-- rows that are put stand there
abbrev pub BareRowsStand : Type 0
BareRowsStand = (rows : List BareRow) (at : ℕ) (net : Net) → at + length rows ≤ net.rows →
    HoldsBareRows (put_bare_rows rows at net) at rows

-- so do the rows of a program
abbrev pub CodeStands : Type 0
CodeStands = (p : Code) (at : ℕ) (net : Net) → at + length p.rows ≤ net.rows → HoldsCode (put_code p at net) at p

-- the rows of a program have these numbers in the net, at all moments
abbrev pub HasNumbers : Code → Net → ℕ → ℕ → (ℕ → ℕ → ℤ) → (ℕ → ℕ → ℤ) → Type 0
HasNumbers p net at q y z = (k i : ℕ) → i < length p.rows →
    z k (at + i) ≡ y k i *ℤ pos (q ^ (row_time net k (at + i) + 1))

-- row i has what it reads at moment k, up to its half steps
abbrev pub IsWithinClass : Net → ℕ → (ℕ → ℕ → ℤ) → (ℕ → ℕ → ℤ) → ℕ → ℕ → Type 0
IsWithinClass net q u z k i =
    2 * unsigned_abs (z k i -ℤ row_sum net q u z k i) ≤ net.class i * q ^ (row_time net k i + 1)

-- the number of row i at moment k is the row's whole-number sum over the numbers, floored by the shift
abbrev pub IsFloored : Code → (ℕ → ℕ → ℤ) → (ℕ → ℕ → ℤ) → ℕ → ℕ → Type 0
IsFloored p u y k i = y k i ≡ floor_div (whole_sum (row_at p i) (y k) (before y k) (u k)) (2 ^ (row_at p i).own.shift)

-- in a net that holds the program, whose rows have these numbers there, each row whose number is floored has what it
-- reads, up to its half steps; the other rows of the net are free
abbrev pub FlooredRowsRun : Code → Type 0
FlooredRowsRun p =
    (net : Net) (at q : ℕ) (u y z : ℕ → ℕ → ℤ) →
    IsWhole p → HoldsCode net at p → IsDenominator net q → HasNumbers p net at q y z →
    (k i : ℕ) → i < length p.rows → IsFloored p u y k i → IsWithinClass net q u z k (at + i)

-- so the words of exact rows are such a run
abbrev pub WordsRun : Code → Type 0
WordsRun p =
    (net : Net) (at q : ℕ) (u z : ℕ → ℕ → ℤ) →
    IsWhole p → HoldsCode net at p → IsDenominator net q → HasNumbers p net at q (words p u) z →
    (k i : ℕ) → i < length p.rows → IsExact p u k i → IsWithinClass net q u z k (at + i)

-- ---- the limits

-- what a program begins with, where it keeps the limits, has no fault
abbrev pub FittingStarts : Type 0
FittingStarts = (p : Code) → CodeFits p → start_fault p.accumulator p.inputs ≡ None

-- a row has none that fits behind the others
abbrev pub FittingRows : Type 0
FittingRows =
    (p : Code) (row : Row) →
    length p.rows < CODE_ROWS → 16 ≤ p.accumulator → RowFits p.accumulator row →
    ReadsFit (length p.rows) (length p.inputs) row → term_count p.rows + length row.own.terms ≤ CODE_TERMS →
    row_fault p row ≡ None

-- nor has an output that is a row
abbrev pub FittingOutputs : Type 0
FittingOutputs = (p : Code) (row : ℕ) → length p.outputs < PORTS → row < length p.rows → output_fault p row ≡ None
