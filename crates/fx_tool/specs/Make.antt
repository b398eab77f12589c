-- Of `make`: its plan, and what status 0 claims.
use Rattle.std.specs.Prelude.{◌≡◌, ◌≤◌, ℕ, List, [], ◌∷◌, length, Option, Result, Ok, Err}
use Rattle.std.specs.Prelude.{IsSomeAnd, IsOkAnd}
use Rattle.std.specs.FinMap.{get}
use Rattle.fx_io.specs.Shelf.{Files}
use Rattle.fx_files.specs.Describes.{IsFileOf}
use Rattle.fx_files.specs.Filter.{Filter}
use Rattle.fx_files.specs.Reading.{filter_of_bytes}
use Rattle.fx_keys.specs.declared.fault.FilterFault.{FilterFault}
use Rattle.fx_code.specs.Code.{Code}
use Rattle.fx_text.specs.Grammar.{Spells}
use Rattle.fx_text.specs.Writing.{code_text}
use Rattle.fx_cert.specs.Certificate.{Certificate, IsTextOf, text_of}
use Rattle.fx_block.specs.Certified.{PassesSound}
use Rattle.fx_block.specs.Passes.{Passes}
use Rattle.fx_block.specs.Sound.{IsSound}
use Rattle.fx_make.specs.Candidates.{Candidate, Passing}
use Rattle.fx_make.specs.Made.{HasLeastBounds, found}
use Rattle.fx_make.specs.Search.{Progress}
use Rattle.fx_make.specs.Search.Progress.{AllFailed, Found}
use Rattle.fx_make.specs.declared.answer.Made.{Made}
use Rattle.fx_make.specs.declared.refusal.StructureFault.{StructureFault}
use Rattle.fx_findings.specs.Designs.{design_lines, no_design_lines}
use Rattle.fx_findings.specs.Structures.{structure_fault_line}
use Rattle.fx_tool.specs.Answer.{Answer, says}
use Rattle.fx_tool.specs.Check.{check_plan}
use Rattle.fx_tool.specs.Made.{made_program, made_certificate}
use Rattle.fx_tool.specs.Plan.{Plan, Ends, Reads, answer_by}
use Rattle.fx_tool.specs.Refused.{refused_filter}
use Rattle.fx_tool.specs.Writing.{GrowsBy}
use Rattle.fx_tool.specs.declared.judgement.Detail.TheVariants.{Brief}
use Rattle.fx_words.specs.declared.operand.Operand.TheVariants as operand
use Rattle.fx_words.specs.declared.operand.TheConstants.{LONGEST_FILE}
use Rattle.fx_tool.specs.declared.status.Status.TheVariants.{Done, NoDesign, Unbuildable}

-- ---- the plan

-- a design, with its program and its certificate, which are placed in this order
abbrev pub design_placed : ℕ → ℕ → ℕ → Code → Certificate → Answer
design_placed guard fraction moments p c = record {
  status = Done;
  placed = code_text p ∷ text_of c ∷ [];
  text = design_lines guard fraction moments c.errors;
}

-- what is made
abbrev pub files_of : Made → Answer
files_of m = design_placed m.guard m.fraction m.length m.program m.cert

-- what is made of a candidate that passes
abbrev pub placed_for : Filter → Candidate → Passing → Answer
placed_for f c p = design_placed c.guard c.fraction c.length (made_program f p) (made_certificate f c.length p)

-- what is told of the first candidate that passes, or the failure of each
abbrev pub of_search : (Candidate → Passing → Answer) → Progress → Answer
of_search tell (AllFailed fails) = says NoDesign (no_design_lines fails)
of_search tell (Found c p) = tell c p

-- or why there is no structure
abbrev pub of_found : (Candidate → Passing → Answer) → Result Progress StructureFault → Answer
of_found tell (Ok p) = of_search tell p
of_found tell (Err why) = says Unbuildable (structure_fault_line why)

unfoldable pub made_answer : Filter → Answer
made_answer f = of_found (λ c p. placed_for f c p) (found f)

-- the filter's files are made, or its first fault is told
abbrev pub made_of_bytes : Result Filter FilterFault → Answer
made_of_bytes (Ok f) = made_answer f
made_of_bytes (Err fault) = refused_filter fault

abbrev pub make_plan : Plan
make_plan = Reads (λ filter. Ends (made_of_bytes (filter_of_bytes filter)))

-- ---- what holds beside the answer, where that is status 0

-- both texts are within the limit of the files that are read
abbrev pub AreShort : Code → Certificate → Type 0
AreShort p c = (length (code_text p) ≤ LONGEST_FILE) × (length (text_of c) ≤ LONGEST_FILE)

-- a whole program and a certificate, which pass for the filter, so that the program is sound for it
pub record Serves (f : Filter) (p : Code) (c : Certificate) : Type 0 where
  pub spelled : Spells (code_text p) p
  pub text : IsTextOf (text_of c) c
  pub short : AreShort p c
  pub judged : PassesSound f p c

-- the bounds of a candidate that passes are the least that serve at its length, and P holds of what is made of it
pub record HoldsOf (f : Filter) (P : Code → Certificate → Type 0) (c : Candidate) (p : Passing) : Type 0 where
  pub least : HasLeastBounds f c p
  pub made : P (made_program f p) (made_certificate f c.length p)

-- so it is of the first candidate that passes
abbrev pub OfFirst : Filter → (Code → Certificate → Type 0) → Type 0
OfFirst f P = (c : Candidate) (p : Passing) → found f ≡ Ok (Found c p) → HoldsOf f P c p

abbrev pub IsServed : Filter → Type 0
IsServed f = OfFirst f (λ p c. Serves f p c)

-- the same of a filter's bytes
abbrev pub FilterIsServed : List ℕ → Type 0
FilterIsServed bytes = IsOkAnd (filter_of_bytes bytes) IsServed

-- ---- status 0

-- The three files, as the run leaves them, are those of a filter and of the program and the certificate that are made
-- of the first candidate that passes for it: its bounds are the least that serve, all inequalities hold, the program
-- is sound for the filter with the certificate's errors, `check` of the files ends with status 0, and the design and
-- its errors were put.
pub record Makes (files : Files) (filter_name code_name certificate_name : List ℕ)
    (before after : Option (List ℕ)) : Type 0 where
  pub filter : Filter
  pub candidate : Candidate
  pub passing : Passing
  pub filter_file : IsSomeAnd (get files filter_name) (λ bytes. IsFileOf bytes filter)
  pub first : found filter ≡ Ok (Found candidate passing)
  pub least : HasLeastBounds filter candidate passing
  pub code_text : IsSomeAnd (get files code_name) (λ bytes. Spells bytes (made_program filter passing))
  pub certificate_text : IsSomeAnd (get files certificate_name) (λ bytes.
      IsTextOf bytes (made_certificate filter candidate.length passing))
  pub passes : Passes filter (made_program filter passing) (made_certificate filter candidate.length passing)
  pub sound : IsSound filter (made_program filter passing) (made_certificate filter candidate.length passing).errors
  pub accepted : (answer_by (operand.Filter ∷ operand.Code ∷ operand.Certificate ∷ [])
      (filter_name ∷ code_name ∷ certificate_name ∷ []) (check_plan Brief) files).status ≡ Done
  pub printed : GrowsBy (design_lines candidate.guard candidate.fraction candidate.length
      (made_certificate filter candidate.length passing).errors) before after
