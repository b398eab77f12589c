-- What a program's words are, and when a row is exact. Inputs are a function of moment and input.
use Rattle.std.specs.Prelude.{◌≡◌, ℕ, ◌^◌, ℤ, pos, ◌+ℤ◌, ◌*ℤ◌, List, [], ◌∷◌, map, length, slice_index}
use Rattle.fx_math.specs.Division.{floor_div}
use Rattle.fx_math.specs.Residue.{wrap, FitsBits}
use Rattle.fx_math.specs.Unroll.{Step, last, so_far, unroll}
use Rattle.fx_code.specs.Code.{Row, Code, row_at, constant_of, weight}
use Rattle.fx_code.specs.declared.term.CodeTerm.{CodeTerm}
use Rattle.fx_code.specs.declared.term.Read.{Read}
use Rattle.fx_code.specs.declared.term.Read.TheVariants.{Now, Old, In}

-- the word that a term reads: of this moment, of the moment before, or of an input
abbrev pub word_read : (ℕ → ℤ) → (ℕ → ℤ) → (ℕ → ℤ) → Read → ℤ
word_read now old input (Now i) = now i
word_read now old input (Old i) = old i
word_read now old input (In j) = input j

-- the whole-number sum of terms
abbrev pub terms_sum : (ℕ → ℤ) → (ℕ → ℤ) → (ℕ → ℤ) → List CodeTerm → ℤ
terms_sum now old input [] = pos 0
terms_sum now old input (t ∷ ts) = weight t *ℤ word_read now old input t.from +ℤ terms_sum now old input ts

-- the whole-number sum of a row: its constant and its terms
abbrev pub whole_sum : Row → (ℕ → ℤ) → (ℕ → ℤ) → (ℕ → ℤ) → ℤ
whole_sum row now old input = pos (constant_of row.own) +ℤ terms_sum now old input row.own.terms

-- the word of row i: the accumulator is read as two's complement and floored by the shift, and its low bits are kept,
-- read as signed
abbrev pub word_step : Code → (ℕ → ℕ → ℤ) → Step
word_step p u k i now old =
    wrap (row_at p i).width (floor_div (wrap p.accumulator (whole_sum (row_at p i) now old (u k)))
    (2 ^ (row_at p i).own.shift))

-- the words of a program on an input: moment, then row
abbrev pub words : Code → (ℕ → ℕ → ℤ) → ℕ → ℕ → ℤ
words p u = unroll (length p.rows) (word_step p u)

-- the word of output o at moment k
abbrev pub output_word : Code → (ℕ → ℕ → ℤ) → ℕ → ℕ → ℤ
output_word p u k o = words p u k (slice_index p.outputs o)

-- the words that are put out at moment k, in the order of the outputs
abbrev pub outputs_at : Code → (ℕ → ℕ → ℤ) → ℕ → List ℤ
outputs_at p u k = map (words p u k) p.outputs

-- the whole-number sum of row i at moment k, over the words
abbrev pub sum_at : Code → (ℕ → ℕ → ℤ) → ℕ → ℕ → ℤ
sum_at p u k i =
    whole_sum (row_at p i) (so_far (length p.rows) (word_step p u) k i) (last (length p.rows) (word_step p u) k) (u k)

-- row i is exact at moment k: its accumulator is read as the whole-number sum, and the floored sum lies in its width
pub record IsExact (p : Code) (u : ℕ → ℕ → ℤ) (k i : ℕ) : Type 0 where
  pub sum : wrap p.accumulator (sum_at p u k i) ≡ sum_at p u k i
  pub store : FitsBits (row_at p i).width (floor_div (sum_at p u k i) (2 ^ (row_at p i).own.shift))
