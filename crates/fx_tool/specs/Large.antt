-- Of `large`: its plan, and what status 0 claims.
use Rattle.std.specs.Prelude.{◌≡◌, ℕ, List, [], ◌∷◌, Option, Ok}
use Rattle.std.specs.Str.Parse.{digits_value}
use Rattle.fx_code.specs.Code.{Code}
use Rattle.fx_cert.specs.Certificate.{Certificate}
use Rattle.fx_files.specs.Filter.{Filter}
use Rattle.fx_block.specs.Certified.{PassesSound}
use Rattle.fx_make.specs.Candidates.{Candidate, Passing}
use Rattle.fx_make.specs.Made.{HasLeastBounds, found}
use Rattle.fx_make.specs.Search.Progress.{Found}
use Rattle.fx_large.specs.Job.{job_filter, job_summary}
use Rattle.fx_large.specs.Sections.{samples_state, sections_of}
use Rattle.fx_findings.specs.Large.{large_lines}
use Rattle.fx_tool.specs.Answer.{Answer, says}
use Rattle.fx_tool.specs.Made.{made_certificate, made_program}
use Rattle.fx_tool.specs.Make.{of_found, OfFirst}
use Rattle.fx_tool.specs.Plan.{Plan, Ends}
use Rattle.fx_tool.specs.Writing.{GrowsBy}
use Rattle.fx_tool.specs.declared.status.Status.TheVariants.{Done}

-- ---- the plan

-- the filter of a number
unfoldable pub number_filter : ℕ → Filter
number_filter number = job_filter (sections_of number)

-- the lines of a design: it, and the run of its program on the number's samples
abbrev pub run_lines : ℕ → ℕ → ℕ → ℕ → Code → Certificate → List ℕ
run_lines number guard fraction moments p c =
    large_lines number guard fraction moments c.errors (job_summary p (samples_state number))

-- those of what is made of a candidate that passes
abbrev pub first_lines : ℕ → Candidate → Passing → List ℕ
first_lines number c p =
    run_lines number c.guard c.fraction c.length (made_program (number_filter number) p)
    (made_certificate (number_filter number) c.length p)

abbrev pub run_for : ℕ → Candidate → Passing → Answer
run_for number c p = says Done (first_lines number c p)

-- of the first that passes, or the failure of each; the filter of each number has its structure
unfoldable pub large_answer : ℕ → Answer
large_answer number = of_found (λ c p. run_for number c p) (found (number_filter number))

-- the number that the operand writes
abbrev pub operand_number : List (List ℕ) → ℕ
operand_number (word ∷ _) = digits_value 10 word
operand_number [] = 0

-- no file is read
abbrev pub large_plan : List (List ℕ) → Plan
large_plan names = Ends (large_answer (operand_number names))

-- ---- what holds beside the answer, where that is status 0

-- what is made passes for the number's filter, and is sound for it
unfoldable pub NumberIsServed : ℕ → Type 0
NumberIsServed number = OfFirst (number_filter number) (λ p c. PassesSound (number_filter number) p c)

-- ---- status 0

-- What is made of the first candidate that passes for the number's filter, with the least bounds that serve, meets all
-- inequalities, so that its program is sound for the filter with the certificate's errors; and its design and the
-- summary of its run on the number's samples were put.
pub record Larges (number : ℕ) (before after : Option (List ℕ)) : Type 0 where
  pub candidate : Candidate
  pub passing : Passing
  pub first : found (number_filter number) ≡ Ok (Found candidate passing)
  pub least : HasLeastBounds (number_filter number) candidate passing
  pub serves : PassesSound (number_filter number) (made_program (number_filter number) passing)
      (made_certificate (number_filter number) candidate.length passing)
  pub printed : GrowsBy (first_lines number candidate passing) before after
