-- A scan of the files from the front.
use Rattle.std.proofs.Common.{◌≡◌, ℕ, suc, ◌+◌, ◌<◌, ◌≤◌, Bool, true, false, cond, List, ◌∷◌, get_or, length}
use Rattle.std.proofs.Common.{drop, refl, ap, add-one, ◌∙◌, sym, nat_eq, Option, Some, None, IsTrue, is_some}
use Rattle.std.proofs.Common.{Result, Ok, Err, OnOk, OnErr}
use Rattle.std.proofs.Math.Seq.{drop-cons}
use Rattle.std.specs.Ordering.{nat_cmp, eq_by_cmp}
use Rattle.std.specs.Cmp.Lexicographic.{slice_cmp, texts_ties}
use Rattle.std.proofs.lemmas.Cmp.{nat_list_cmp_total, eq_by_cmp_equiv}
use Rattle.std.specs.FinMap.{find, get, insert, contains_key, get-insert, get-from_entries}
use Rattle.fx_io.specs.Shelf.{Files, KeepsNames}
use Rattle.std.specs.String.{string_bytes}
use Rattle.std.proofs.lemmas.List.{drop_all}
use lib.Pointwise.{pointwise}
use Rattle.fx_io.specs.FileList.{entries_of, files_of}
use Rattle.fx_io.specs.declared.file_list.MemFile.{MemFile}

-- the content that a scan of these files finds
abbrev pub found : List ℕ → List MemFile → Option (List ℕ)
found name files = find (slice_cmp nat_cmp) name (entries_of files)

pub found_is : (name : List ℕ) (files : List MemFile) → get (files_of files) name ≡ found name files
found_is name files = get-from_entries nat_list_cmp_total (entries_of files) name

-- one file further
pub found_step : (name : List ℕ) (files : List MemFile) (i : ℕ) (f : MemFile) (text : List ℕ) (b : Bool) →
    i < length files → f ≡ get_or files i f → text ≡ string_bytes f.name → b ≡ pointwise nat_eq name text →
    found name (drop i files) ≡ cond b (Some f.bytes.items) (found name (drop (i + 1) files))
found_step name files i f text b h e s t =
    rw add-one (ap (found name) (drop-cons files i f h ∙ ap (λ x. x ∷ drop (suc i) files) (sym e))
    ∙ ap (λ v. cond v (Some f.bytes.items) (found name (drop (suc i) files)))
    (sym (t ∙ texts_ties name text ∙ ap (λ x. eq_by_cmp (slice_cmp nat_cmp) name x) s)))

pub found_none : (name : List ℕ) (files : List MemFile) (i : ℕ) → length files ≤ i → found name (drop i files) ≡ None
found_none name files i h = ap (found name) (drop_all i files h)

cond_some : (b : Bool) (x : List ℕ) (o : Option (List ℕ)) → IsTrue (is_some o) → IsTrue (is_some (cond b (Some x) o))
cond_some true x o h = refl
cond_some false x o h = h

is_some-insert : (m : Files) (name bytes q : List ℕ) → IsTrue (is_some (get m q)) →
    IsTrue (is_some (get (insert m name bytes) q))
is_some-insert m name bytes q h =
    rw (get-insert nat_list_cmp_total m name bytes q)
    (cond_some (eq_by_cmp (slice_cmp nat_cmp) q name) bytes (get m q) h)

-- a name that is there stays there, whether a file was added or memory ran out
pub keeps_names : {T E : Type 0} (old new : Files) (name bytes : List ℕ) (result : Result T E) →
    OnOk result (new ≡ insert old name bytes) → OnErr result (new ≡ old) →
    KeepsNames (contains_key old) (contains_key new)
keeps_names old new name bytes (Ok v) ok err q h = rw ok (is_some-insert old name bytes q h)
keeps_names old new name bytes (Err e) ok err q h = rw err h

has_inserted : (m : Files) (name bytes : List ℕ) → IsTrue (contains_key (insert m name bytes) name)
has_inserted m name bytes =
    rw (get-insert nat_list_cmp_total m name bytes name, (eq_by_cmp_equiv nat_list_cmp_total).refl name) refl

-- the name of a file that was added is there
pub has_added : {T E : Type 0} (old new : Files) (name bytes : List ℕ) (result : Result T E) →
    OnOk result (new ≡ insert old name bytes) → OnOk result (IsTrue (contains_key new name))
has_added old new name bytes (Ok v) ok = rw ok (has_inserted old name bytes)
has_added old new name bytes (Err e) ok = tt
