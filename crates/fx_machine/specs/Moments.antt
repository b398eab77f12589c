-- Machines that run a program moment by moment.
use Rattle.std.specs.Prelude.{◌≡◌, ℕ, ◌<◌, ℤ, pos, List, [], ◌∷◌, ◌++◌, length, slice_index_or}
use Rattle.fx_math.specs.Unroll.{last}
use Rattle.fx_code.specs.Code.{Code}
use Rattle.fx_code.specs.Inputs.{word_at}
use Rattle.fx_code.specs.Run.{IsExact, outputs_at, word_step}
use Rattle.fx_machine.specs.Marks.{IsClearWhere, StaysInside}
use Rattle.fx_machine.specs.declared.moment.Marks.{Marks}

-- a machine: its program, and the words of the rows at the moment before
pub record State : Type 0 where
  pub program : Code
  pub words : List ℤ

-- a machine that has run a program on a list of moments
pub record StandsAfter (m : State) (p : Code) (list : List (List ℤ)) : Type 0 where
  pub program : m.program ≡ p
  pub words : (i : ℕ) → i < length p.rows → slice_index_or m.words i (pos 0)
      ≡ last (length p.rows) (word_step p (word_at list)) (length list) i

-- what the moment after a list gives, where it takes this input: the machine then, the words put out, and marks of the
-- rows that are not exact and of those whose sums left the accumulator on the way
pub record GivesMoment (m : State) (p : Code) (list : List (List ℤ)) (input words : List ℤ) (marks : Marks) : Type 0 where
  pub stands : StandsAfter m p (list ++ input ∷ [])
  pub output : words ≡ outputs_at p (word_at (list ++ input ∷ [])) (length list)
  pub lost : IsClearWhere (IsExact p (word_at (list ++ input ∷ [])) (length list)) (length p.rows) marks.lost
  pub partial : IsClearWhere (StaysInside p (word_at (list ++ input ∷ [])) (length list)) (length p.rows) marks.partial
