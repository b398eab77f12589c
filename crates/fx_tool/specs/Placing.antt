-- What a run leaves of the files that it places.
use Rattle.std.specs.Prelude.{◌≡◌, ◌⊎◌, ◌+◌, ◌<◌, ◌≤◌, ℕ, List, [], ◌∷◌, length, take, slice_index_or, Option, Result}
use Rattle.std.specs.Prelude.{OnOk}
use Rattle.std.specs.FinMap.{insert}
use Rattle.std.specs.Option.{option_map}
use Rattle.fx_io.specs.Causes.{HasCause, Rose}
use Rattle.fx_io.specs.Outside.{Outside, Output}
use Rattle.fx_io.specs.Shelf.{Files, KeepsNames, SameBut}
use Rattle.fx_io.specs.declared.shelf.IoFault.{IoFault}
use Rattle.fx_tool.specs.Answer.{Answer, Delivers}
use Rattle.fx_tool.specs.declared.status.Status.{Status}
use Rattle.fx_tool.specs.declared.status.Status.TheVariants.{ReadFault, WriteFault}

-- ---- the files of a shelf

-- names with the contents that they are to have
abbrev pub placings : List (List ℕ) → List (List ℕ) → List (List ℕ × List ℕ)
placings (name ∷ names) (content ∷ contents) = (name, content) ∷ placings names contents
placings _ _ = []

-- the files with what was placed
abbrev pub with_placed : List (List ℕ × List ℕ) → Files → Files
with_placed [] files = files
with_placed (p ∷ ps) files = with_placed ps (insert files p.0 p.1)

abbrev pub all_placed : List (List ℕ × List ℕ) → Option Files → Option Files
all_placed ps told = option_map (with_placed ps) told

abbrev pub name_at : List (List ℕ × List ℕ) → ℕ → List ℕ
name_at ps k = (slice_index_or ps k ([], [])).0

-- The first so many were placed, and no other. Or there is a next one, whose placing failed too; then its file may hold
-- anything.
pub record ArePlaced (ps : List (List ℕ × List ℕ)) (failed : Type 0) (before after : Option Files) : Type 0 where
  pub count : ℕ
  pub files : (after ≡ all_placed (take count ps) before)
      ⊎ ((count < length ps) × (failed × SameBut (name_at ps count) (all_placed (take count ps) before) after))

-- ---- a shelf

-- all is as before
pub record PlacesNothing (before after : Outside) : Type 0 where
  pub files : after.files ≡ before.files
  pub place_faults : after.place_faults ≡ before.place_faults

-- files were placed one after another, all of them or the first few
pub record PlacesAll (ps : List (List ℕ × List ℕ)) (before after : Outside) (result : Result (Unit {0}) IoFault) :
    Type 0 where
  pub whole : OnOk result (after.files ≡ all_placed ps before.files)
  pub files : ArePlaced ps (Rose before.place_faults after.place_faults) before.files after.files
  pub none : ps ≡ [] → PlacesNothing before after
  pub cause : HasCause before.place_faults after.place_faults result
  pub read_faults : after.read_faults ≡ before.read_faults
  pub later : before.calls ≤ after.calls
  pub few : after.calls ≤ before.calls + length ps
  pub names : KeepsNames before.readable after.readable

-- all files are placed and no placing failed
abbrev pub AllPlaced : List (List ℕ × List ℕ) → Outside → Outside → Type 0
AllPlaced ps before after = (after.files ≡ all_placed ps before.files) × (after.place_faults ≡ before.place_faults)

-- the same, and behind all of them the text of an answer was put
pub record DeliversAll (wanted : Answer) (ps : List (List ℕ × List ℕ)) (before after : Outside) (out out' : Output)
    (status : Status) : Type 0 where
  pub answer : Delivers wanted status out.told out'.told
  pub whole : status ≡ wanted.status → after.files ≡ all_placed ps before.files
  pub files : ArePlaced ps (Rose before.place_faults after.place_faults) before.files after.files
  pub none : ps ≡ [] → PlacesNothing before after
  pub text_last : AllPlaced ps before after ⊎ (out' ≡ out)
  pub spoken : status ≡ ReadFault → ⊥
  pub write_fault : status ≡ WriteFault →
      Rose before.place_faults after.place_faults ⊎ Rose out.faults out'.faults
  pub kept_places : (after.place_faults ≡ before.place_faults) ⊎ (status ≡ WriteFault)
  pub kept_writes : (out'.faults ≡ out.faults) ⊎ (status ≡ WriteFault)
  pub later_places : before.place_faults ≤ after.place_faults
  pub later_writes : out.faults ≤ out'.faults
  pub read_faults : after.read_faults ≡ before.read_faults
  pub later : before.calls ≤ after.calls
  pub few : after.calls ≤ before.calls + length ps
  pub names : KeepsNames before.readable after.readable
