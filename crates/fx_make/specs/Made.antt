-- What is made of the first candidate that passes, and what an answer tells of a search.
use Rattle.std.specs.Prelude.{◌≡◌, ⊤, false, List, [], Option, Some, None, Result, Ok, Err}
use Rattle.fx_math.specs.Faults.{◌>>=◌}
use Rattle.fx_files.specs.Filter.{Filter}
use Rattle.fx_code.specs.Code.{IsWhole}
use Rattle.fx_block.specs.Candidate.{candidate_count, candidate_net}
use Rattle.fx_block.specs.Formats.{bound_of}
use Rattle.fx_block.specs.Least.{AreLeastBounds}
use Rattle.fx_block.specs.Made.{IsCertificateOf, IsProgramOf}
use Rattle.fx_block.specs.Passes.{Passes}
use Rattle.fx_make.specs.Candidates.{Candidate, Passing}
use Rattle.fx_make.specs.Search.{Progress, search}
use Rattle.fx_make.specs.Search.Progress.{AllFailed, Found}
use Rattle.fx_make.specs.Structures.{is_memory, structure_form}
use Rattle.fx_make.specs.declared.fail.Failed.{Failed}
use Rattle.fx_make.specs.declared.answer.MakeFault.{MakeFault}
use Rattle.fx_make.specs.declared.answer.MakeFault.TheVariants.{NoDesign, NoMemory, Unbuildable}
use Rattle.fx_make.specs.declared.answer.Made.{Made}
use Rattle.fx_make.specs.declared.refusal.StructureFault.{StructureFault}

-- the bounds with which a candidate passes are the least of all that serve at its length
abbrev pub HasLeastBounds : Filter → Candidate → Passing → Type 0
HasLeastBounds f c p =
    AreLeastBounds (candidate_net f p.design.rows) (candidate_count f p.design.rows) (λ j. c.length) (bound_of f)
    p.bounds

-- A program with the rows of a candidate that passes, whose inner words have the least widths that take their bounds,
-- and a certificate with its bounds, the least that serve at the candidate's length, and its totals; they meet all
-- inequalities.
pub record IsMadeOf (f : Filter) (c : Candidate) (p : Passing) (m : Made) : Type 0 where
  pub guard : m.guard ≡ c.guard
  pub fraction : m.fraction ≡ c.fraction
  pub length : m.length ≡ c.length
  pub program : IsProgramOf f p.design.rows p.bounds m.program
  pub certificate : IsCertificateOf f p.design.rows c.length p.bounds m.cert
  pub least : HasLeastBounds f c p
  pub whole : IsWhole m.program
  pub passes : Passes f m.program m.cert

-- how far a search came: what was made of the first candidate that passes, or the failure of each so far
abbrev pub TellsSearch : Filter → Progress → Option Made → List Failed → Type 0
TellsSearch f (AllFailed fs) None fails = fails ≡ fs
TellsSearch f (AllFailed fs) (Some made) fails = ⊥
TellsSearch f (Found c p) None fails = ⊥
TellsSearch f (Found c p) (Some made) fails = IsMadeOf f c p made

-- the same of the answer of a search that is done
abbrev pub Finds : Filter → Progress → Result Made MakeFault → Type 0
Finds f p (Ok made) = TellsSearch f p (Some made) []
Finds f p (Err (Unbuildable why)) = ⊥
Finds f p (Err (NoDesign fails)) = p ≡ AllFailed fails
Finds f p (Err NoMemory) = ⊤

-- ---- the answer for a filter

-- the search of all candidates, or why there is no structure
abbrev pub found : Filter → Result Progress StructureFault
found f = structure_form f >>= λ s. Ok (search f s)

abbrev pub IsFoundIn : Filter → Made → Result Progress StructureFault → Type 0
IsFoundIn f made (Ok p) = TellsSearch f p (Some made) []
IsFoundIn f made (Err why) = ⊥

-- what was made is of the first candidate that passes; there is no structure; or each candidate fails
abbrev pub Makes : Filter → Result Made MakeFault → Type 0
Makes f (Ok made) = IsFoundIn f made (found f)
Makes f (Err (Unbuildable why)) = (is_memory why ≡ false) × (found f ≡ Err why)
Makes f (Err (NoDesign fails)) = found f ≡ Ok (AllFailed fails)
Makes f (Err NoMemory) = ⊤
