-- What a command does with the contents of its files: it reads one after another, and then has its answer.
use Rattle.std.specs.Prelude.{◌≡◌, ◌⊎◌, ℕ, ◌+◌, ◌≤◌, nat_le, if◌then◌else◌, List, [], ◌∷◌, length, Option, Some, None}
use Rattle.std.specs.Prelude.{Result, IfOk, IsTrue, All, ⊤}
use Rattle.std.specs.FinMap.{get}
use Rattle.fx_io.specs.Shelf.{Files}
use Rattle.fx_io.specs.Outside.{Outside, OnlyReads}
use Rattle.fx_io.specs.declared.shelf.IoFault.{IoFault}
use Rattle.fx_tool.specs.Answer.{Answer, absent}
use Rattle.fx_words.specs.Operand.{limit_of}
use Rattle.fx_tool.specs.Operand.{too_long}
use Rattle.fx_tool.specs.Reading.{read_calls}
use Rattle.fx_words.specs.declared.operand.Operand.{Operand}

-- an answer, or the next file's content first
pub data Plan : Type 0 where
  Ends : Answer → Plan
  Reads : (List ℕ → Plan) → Plan

-- ---- by a list of operands, with the names that were given for them

-- what comes of a content within the limit, and of a longer one
abbrev pub when_short : {X : Type 0} → Operand → X → (List ℕ → X) → List ℕ → X
when_short o long next content = if nat_le (length content) (limit_of o) then next content else long

-- and of a file, that may be absent
abbrev pub by_content : {X : Type 0} → Operand → X → X → (List ℕ → X) → Option (List ℕ) → X
by_content o none long next None = none
by_content o none long next (Some content) = when_short o long next content

-- the answer
abbrev pub answer_by : List Operand → List (List ℕ) → Plan → Files → Answer
answer_by os names (Ends answer) files = answer
answer_by (o ∷ os) (name ∷ names) (Reads next) files =
    by_content o absent (too_long o) (λ content. answer_by os names (next content) files) (get files name)
answer_by _ _ (Reads next) files = absent

-- the most calls on files that are told: those of a later file only where the plan comes to it
abbrev pub calls_by : List Operand → List (List ℕ) → Plan → Files → ℕ
calls_by os names (Ends answer) files = 0
calls_by (o ∷ os) (name ∷ names) (Reads next) files =
    read_calls (limit_of o) (Some files) name + by_content o 0 0 (λ content.
    calls_by os names (next content) files) (get files name)
calls_by _ _ (Reads next) files = 0

-- and on files that are not
abbrev pub most_calls : List Operand → ℕ
most_calls [] = 0
most_calls (o ∷ os) = (limit_of o + 1) + most_calls os

abbrev pub plan_calls : List Operand → List (List ℕ) → Plan → Option Files → ℕ
plan_calls os names (Ends answer) told = 0
plan_calls os names (Reads next) None = most_calls os
plan_calls os names (Reads next) (Some files) = calls_by os names (Reads next) files

-- ---- on a shelf

-- where the shelf tells its files
abbrev pub WhereTold : Option Files → (Files → Type 0) → Type 0
WhereTold None P = ⊤
WhereTold (Some files) P = P files

-- P holds of the answer on some contents, one after another: one is longer than its limit, or within it
abbrev pub OnContents : List Operand → Plan → (Answer → Type 0) → Type 0
OnContents os (Ends answer) P = P answer
OnContents [] (Reads next) P = P absent
OnContents (o ∷ os) (Reads next) P =
    P (too_long o) ⊎ ((content : List ℕ) × (length content ≤ limit_of o) × OnContents os (next content) P)

-- P holds of the answer: on the files, where the shelf tells them, and else on some contents
abbrev pub OfAnswer : List Operand → List (List ℕ) → Plan → Option Files → (Answer → Type 0) → Type 0
OfAnswer os names (Ends answer) told P = P answer
OfAnswer os names (Reads next) None P = OnContents os (Reads next) P
OfAnswer os names (Reads next) (Some files) P = P (answer_by os names (Reads next) files)

-- each name may be read
abbrev pub MayRead : Outside → List (List ℕ) → Type 0
MayRead outside names = All (λ name. IsTrue (outside.readable name)) names

-- the answer is that of the plan, and the files were only read, in no more calls than the plan takes
pub record Follows (os : List Operand) (names : List (List ℕ)) (plan : Plan) (before now : Outside)
    (result : Result Answer IoFault) : Type 0 where
  pub answer : IfOk result (λ answer. OfAnswer os names plan before.files (λ a. a ≡ answer))
  pub shelf : OnlyReads (plan_calls os names plan before.files) before now result
