-- The answer of a run: a status, the files that are placed, and a text. And what a run delivers of it.
use Rattle.std.specs.Prelude.{◌≡◌, ◌⊎◌, ℕ, List, [], Option, Result, IfOk}
use Rattle.fx_tool.specs.Writing.{GrowsBy, GrowsByPrefix}
use Rattle.fx_tool.specs.declared.status.Status.{Status}
use Rattle.fx_tool.specs.declared.status.Status.TheVariants.{Done, ReadFault, WriteFault, NoMemory}

-- of the files that are placed, the contents, in the order of their names
pub record Answer : Type 0 where
  pub status : Status
  pub placed : List (List ℕ)
  pub text : List ℕ

-- nothing is placed
abbrev pub says : Status → List ℕ → Answer
says status text = record { status = status; placed = []; text = text }

-- a file is absent
abbrev pub absent : Answer
absent = says ReadFault []

-- P holds where the answer is one with status 0
abbrev pub WhereDone : {E : Type 0} → Result Answer E → Type 0 → Type 0
WhereDone result P = IfOk result (λ a. a.status ≡ Done → P)

-- The status is the answer's, or a read, a write or memory failed. With the answer's status its whole text was put, and
-- else the first bytes of the text.
pub record Delivers (answer : Answer) (status : Status) (before after : Option (List ℕ)) : Type 0 where
  pub which : (status ≡ answer.status) ⊎ ((status ≡ ReadFault) ⊎ ((status ≡ WriteFault) ⊎ (status ≡ NoMemory)))
  pub whole : status ≡ answer.status → GrowsBy answer.text before after
  pub prefix : GrowsByPrefix answer.text before after
