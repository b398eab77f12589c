-- What a search tells, in the words of lists: the first candidate that passes, and how each that is tried fails.
use Rattle.std.specs.Prelude.{◌≡◌, List, ◌∷◌, ◌++◌, map, Option, Some, None, Result, Ok, Err}
use Rattle.fx_files.specs.Filter.{Filter}
use Rattle.fx_sif.specs.Implicit.{Implicit}
use Rattle.fx_make.specs.Candidates.{Candidate, Passing, candidates, tried}
use Rattle.fx_make.specs.Search.{failed, search}
use Rattle.fx_make.specs.Search.Progress.{AllFailed, Found}
use Rattle.fx_make.specs.declared.fail.Fail.{Fail}
use Rattle.fx_make.specs.declared.fail.Failed.{Failed}

-- how a candidate fails, if it does
abbrev pub failure_of : Candidate → Result Passing Fail → Option Failed
failure_of c (Ok passing) = None
failure_of c (Err why) = Some (failed c why)

-- each of these candidates fails, and these are the failures in the same order
abbrev pub EachFails : (Candidate → Result Passing Fail) → List Candidate → List Failed → Type 0
EachFails try cs fails = map (λ c. failure_of c (try c)) cs ≡ map Some fails

-- this candidate of a list passes, and each before it fails
pub record IsFirst (try : Candidate → Result Passing Fail) (cs : List Candidate) (c : Candidate) (passing : Passing) :
    Type 0 where
  pub before : List Candidate
  pub after : List Candidate
  pub fails : List Failed
  pub order : cs ≡ before ++ c ∷ after
  pub earlier : EachFails try before fails
  pub passes : try c ≡ Ok passing

-- what is found is the first of the filter's candidates that passes
abbrev pub FirstIsFound : Type 0
FirstIsFound =
    (f : Filter) (s : Implicit) (c : Candidate) (passing : Passing) → search f s ≡ Found c passing →
    IsFirst (tried f s) (candidates f.settings) c passing

-- where nothing is found, each of the filter's candidates fails as is told
abbrev pub EachFailureIsTold : Type 0
EachFailureIsTold =
    (f : Filter) (s : Implicit) (fails : List Failed) → search f s ≡ AllFailed fails →
    EachFails (tried f s) (candidates f.settings) fails
