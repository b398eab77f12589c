-- The first candidate that passes, or the failure of each.
use Rattle.std.specs.Prelude.{List, [], ◌∷◌, ◌++◌, Option, Some, None, Result, Ok, Err}
use Rattle.fx_files.specs.Filter.{Filter}
use Rattle.fx_sif.specs.Implicit.{Implicit}
use Rattle.fx_make.specs.Candidates.{Candidate, Passing, candidates, tried}
use Rattle.fx_make.specs.declared.fail.Fail.{Fail}
use Rattle.fx_make.specs.declared.fail.Failed.{Failed}

-- how far a search came: each candidate so far has failed, or one is the first that passes
pub data Progress : Type 0 where
  AllFailed : List Failed → Progress
  Found : Candidate → Passing → Progress

abbrev pub failed : Candidate → Fail → Failed
failed c why = record { guard = c.guard; fraction = c.fraction; length = c.length; why = why }

abbrev pub with_next : Candidate → List Failed → Result Passing Fail → Progress
with_next c fails (Ok passing) = Found c passing
with_next c fails (Err why) = AllFailed (fails ++ failed c why ∷ [])

-- one candidate more; what was found stays
abbrev pub and_then : (Candidate → Result Passing Fail) → Progress → Candidate → Progress
and_then try (AllFailed fails) c = with_next c fails (try c)
and_then try (Found first passing) c = Found first passing

-- candidate after candidate
abbrev pub searched : (Candidate → Result Passing Fail) → Progress → List Candidate → Progress
searched try p [] = p
searched try p (c ∷ cs) = searched try (and_then try p c) cs

-- all candidates of a filter whose structure has this form
abbrev pub search : Filter → Implicit → Progress
search f s = searched (tried f s) (AllFailed []) (candidates f.settings)

-- ---- the failures of one candidate after the other

-- of a candidate that fails
abbrev pub failed_of : Candidate → Option Fail → List Failed
failed_of c None = []
failed_of c (Some why) = failed c why ∷ []
