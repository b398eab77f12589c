-- What is made of sections, and its run on samples.
use Rattle.std.specs.Prelude.{◌≡◌, ℕ, pos, List, Result, Ok, Err, IsOk, ⊤}
use Rattle.fx_nums.specs.Fraction.{Fraction}
use Rattle.fx_nums.specs.declared.fraction.Den.TheVariants.{Ten}
use Rattle.fx_files.specs.Filter.{Filter}
use Rattle.fx_files.specs.Plan.{filter_of_sections}
use Rattle.fx_files.specs.declared.forms.Structure.TheVariants.{Df2t}
use Rattle.fx_files.specs.declared.plan.Plan.{Plan}
use Rattle.fx_code.specs.Code.{Code, IsWhole}
use Rattle.fx_block.specs.Certified.{PassesSound}
use Rattle.fx_make.specs.Made.{Makes, found}
use Rattle.fx_make.specs.declared.answer.Made.{Made}
use Rattle.fx_make.specs.declared.answer.MakeFault.TheVariants as fault
use Rattle.fx_large.specs.Runs.{run_summary}
use Rattle.fx_large.specs.declared.job.Job.{Job}
use Rattle.fx_large.specs.declared.job.JobFault.{JobFault}
use Rattle.fx_large.specs.declared.job.JobFault.TheVariants.{NoDesign, NoMemory}
use Rattle.fx_large.specs.declared.limits.TheConstants.{SAMPLES}
use Rattle.fx_large.specs.declared.summary.Summary.{Summary}

-- 4 over 10^0
abbrev pub four : Fraction
four = record { num = pos 4; den = Ten 0 }

-- structure df2t, an input of width 16, an output of width 32, an error of 4 steps, and one candidate
abbrev pub job_plan : Plan
job_plan = record {
  structure = Df2t;
  input_low = pos 0;
  input = record { width = 16; bound = pos 1000 };
  width = 32;
  low = pos 0;
  error = four;
  accumulator = 64;
  word = 32;
  guard = 8;
  fraction = 24;
  length = 256;
}

-- the filter of sections
unfoldable pub job_filter : List Fraction → Filter
job_filter sections = filter_of_sections sections job_plan

-- the structure that a filter asks for is there
unfoldable pub HasStructure : Filter → Type 0
HasStructure f = IsOk (found f)

-- ---- what is made

-- of a filter: a whole program and a certificate, which pass, so that the program is sound for it with the
-- certificate's errors; or the failure of each candidate
pub record IsMadeOfFilter (f : Filter) (made : Made) : Type 0 where
  pub first : Makes f (Ok made)
  pub whole : IsWhole made.program
  pub judged : PassesSound f made.program made.cert

abbrev pub IsMade : Filter → Result Made JobFault → Type 0
IsMade f (Ok made) = IsMadeOfFilter f made
IsMade f (Err (NoDesign fails)) = Makes f (Err (fault.NoDesign fails))
IsMade f (Err NoMemory) = ⊤

-- ---- its run

-- the summary of a program's words on the samples that follow a state
unfoldable pub job_summary : Code → ℕ → Summary
job_summary program s = run_summary program SAMPLES s

-- what is made for the filter, which passes, and the summary of its run
pub record IsRun (sections : List Fraction) (s : ℕ) (job : Job) : Type 0 where
  pub made : IsMadeOfFilter (job_filter sections) job.made
  pub summary : job.summary ≡ job_summary job.made.program s

-- or the failure of each candidate, exactly where none passes
abbrev pub IsJob : List Fraction → ℕ → Result Job JobFault → Type 0
IsJob sections s (Ok job) = IsRun sections s job
IsJob sections s (Err (NoDesign fails)) = Makes (job_filter sections) (Err (fault.NoDesign fails))
IsJob sections s (Err NoMemory) = ⊤
