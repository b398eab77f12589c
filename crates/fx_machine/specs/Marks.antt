-- What the marks of a moment say.
use Rattle.std.specs.Prelude.{◌≡◌, ◌↔◌, ℕ, ◌<◌, ◌≤◌, ℤ, pos, ◌+ℤ◌, ◌*ℤ◌, List, [], ◌∷◌, length, All}
use Rattle.std.specs.Int.{bit_at}
use Rattle.fx_math.specs.Residue.{FitsBits}
use Rattle.fx_math.specs.Unroll.{last, so_far}
use Rattle.fx_code.specs.Code.{Code, row_at, constant_of, weight}
use Rattle.fx_code.specs.Run.{word_read, word_step}
use Rattle.fx_code.specs.declared.term.CodeTerm.{CodeTerm}

-- a sum, and the sums after it as the terms are added one by one
abbrev pub sums_from : ℤ → (ℕ → ℤ) → (ℕ → ℤ) → (ℕ → ℤ) → List CodeTerm → List ℤ
sums_from sum now old input [] = sum ∷ []
sums_from sum now old input (t ∷ ts) =
    sum ∷ sums_from (sum +ℤ weight t *ℤ word_read now old input t.from) now old input ts

-- the whole-number sums of row i at moment k: after its constant, and after each of its terms in their order
abbrev pub sums_at : Code → (ℕ → ℕ → ℤ) → ℕ → ℕ → List ℤ
sums_at p u k i =
    sums_from (pos (constant_of (row_at p i).own)) (so_far (length p.rows) (word_step p u) k i)
    (last (length p.rows) (word_step p u) k) (u k) (row_at p i).own.terms

-- none of these sums lies outside the accumulator
abbrev pub StaysInside : Code → (ℕ → ℕ → ℤ) → ℕ → ℕ → Type 0
StaysInside p u k i = All (FitsBits p.accumulator) (sums_at p u k i)

-- marks of n rows: a row's bit is 0 exactly where the claim holds of the row, and no further bit is set
pub record IsClearWhere (claim : ℕ → Type 0) (n marks : ℕ) : Type 0 where
  pub bits : (i : ℕ) → i < n → bit_at marks i ≡ 0 ↔ claim i
  pub rest : (i : ℕ) → n ≤ i → bit_at marks i ≡ 0
