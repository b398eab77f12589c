-- The first fault is never want of memory, so the answer that carries it tells it.
use Rattle.std.proofs.Common.{◌≡◌, List, [], ◌∷◌, ◌++◌, Some, rules}
use Rattle.fx_math.specs.Answers.{told}
use Rattle.fx_math.proofs.Faults.{IsTold, none_told, if_told, or_told}
use Rattle.fx_sif.specs.Faults.{entry_fault, entries_fault, sif_fault, is_memory}
use Rattle.fx_sif.specs.declared.parts.Entry.{Entry}
use Rattle.fx_sif.specs.declared.parts.Sizes.{Sizes}
use Rattle.fx_sif.specs.declared.fault.SifFault.{SifFault}

entry_told : (s : Sizes) (earlier : List Entry) (e : Entry) → IsTold (told is_memory) (entry_fault s earlier e)
entry_told s earlier e = search (rules, if_told, none_told) depth 9

entries_told : (s : Sizes) (earlier es : List Entry) → IsTold (told is_memory) (entries_fault s earlier es)
entries_told s earlier [] = none_told (told is_memory)
entries_told s earlier (e ∷ es) =
    or_told (told is_memory) _ _ (entry_told s earlier e) (entries_told s (earlier ++ e ∷ []) es)

all_told : (s : Sizes) (entries : List Entry) → IsTold (told is_memory) (sif_fault s entries)
all_told s entries = search (rules, if_told, entries_told) depth 9

pub fault_told : (s : Sizes) (entries : List Entry) (fault : SifFault) → sif_fault s entries ≡ Some fault →
    sif_fault s entries ≡ told is_memory fault
fault_told s entries = (all_told s entries).says
