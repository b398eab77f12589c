-- Files that are placed one after another.
use Rattle.std.proofs.Common.{◌≡◌, ◌⊎◌, inl, inr, ◌∙◌, ℕ, suc, List, [], ◌∷◌, length, take, Option}
use Rattle.std.proofs.Common.{Result, Ok, Err, OnOk, refl, sym, ap, ap₂, subst, arith, Bor, map, drop, ◌-◌, ◌<◌}
use Rattle.std.proofs.Common.{String, Global, slice_index_or, Some, None}
use Rattle.std.proofs.Math.Seq.{take-length}
use Rattle.std.specs.String.{string_bytes}
use Rattle.std.proofs.Common.{IsTrue, true, false}
use Rattle.fx_tool.specs.Answer.{Answer}
use Rattle.fx_words.specs.Command.{texts}
use Rattle.fx_tool.specs.Placing.{DeliversAll}
use Rattle.fx_tool.specs.Status.{is_spoken}
use Rattle.fx_tool.specs.declared.status.Status.{Status}
use Rattle.fx_tool.specs.declared.status.Status.TheVariants.{ReadFault, WriteFault}
use Rattle.fx_tool.specs.declared.status.Status.TheVariants.{NoMemory as MemoryStatus}
use Rattle.std.specs.FinMap.{insert}
use Rattle.std.specs.Option.{option_map}
use Rattle.fx_io.specs.Causes.{HasCause, Rose}
use Rattle.fx_io.specs.Outside.{Outside, Output, Places}
use Rattle.fx_io.specs.Shelf.{Files, SameBut}
use Rattle.fx_io.specs.declared.shelf.IoFault.{IoFault}
use Rattle.fx_io.specs.declared.shelf.IoFault.TheVariants.{Failed, NoMemory}
use Rattle.fx_tool.specs.Placing.{ArePlaced, PlacesAll, all_placed, name_at, placings}
use Rattle.fx_tool.proofs.Counted.{none_where_no_memory, none_where_ok}
use Rattle.fx_tool.proofs.WrittenSoFar.{grows_nothing}

-- none was placed
placed_none : (told : Option Files) → told ≡ all_placed [] told
placed_none None = refl
placed_none (Some files) = refl

pub nothing_placed : (ps : List (List ℕ × List ℕ)) (failed : Type 0) (told : Option Files) →
    ArePlaced ps failed told told
nothing_placed ps failed told = record { count = 0; files = inl (placed_none told) }

-- of no files
pub all_of_none : (outside : Outside) → PlacesAll [] outside outside (Ok tt)
all_of_none outside = record {
  whole = placed_none outside.files;
  files = nothing_placed [] (Rose outside.place_faults outside.place_faults) outside.files;
  none = λ e. record { files = refl; place_faults = refl };
  cause = record { later = omega arith; failed = λ e. cc; kept = inl refl };
  read_faults = refl;
  later = omega arith;
  few = omega arith;
  names = λ q h. h;
}

-- one more before the others
placed_first : (name bytes : List ℕ) (ps : List (List ℕ × List ℕ)) (told middle : Option Files) →
    middle ≡ option_map (λ m. insert m name bytes) told → all_placed ps middle ≡ all_placed ((name, bytes) ∷ ps) told
placed_first name bytes ps None middle e = ap (all_placed ps) e
placed_first name bytes ps (Some files) middle e = ap (all_placed ps) e

go_on : (name bytes : List ℕ) (ps : List (List ℕ × List ℕ)) (failed : Type 0) (before middle after : Option Files) →
    middle ≡ option_map (λ m. insert m name bytes) before → ArePlaced ps failed middle after →
    ArePlaced ((name, bytes) ∷ ps) failed before after
go_on name bytes ps failed before middle after e h = record {
  count = suc h.count;
  files = elim h.files [
    | inl same ↦ inl (same ∙ placed_first name bytes (take h.count ps) before middle e)
    | inr (next, (failed, others)) ↦ inr (
      omega (arith, next),
      (
        failed,
        subst (λ told. SameBut (name_at ps h.count) told after)
            (placed_first name bytes (take h.count ps) before middle e) others,
      ),
    )
  ];
}

pub then_others : (name bytes : List ℕ) (ps : List (List ℕ × List ℕ)) (before middle after : Outside)
    (first rest : Result (Unit {0}) IoFault) → first ≡ Ok tt → Places name bytes before middle first →
    PlacesAll ps middle after rest → PlacesAll ((name, bytes) ∷ ps) before after rest
then_others name bytes ps before middle after first rest ok one others =
    let placed : middle.files ≡ option_map (λ m. insert m name bytes) before.files =
    subst (λ r. OnOk r (middle.files ≡ option_map (λ m. insert m name bytes) before.files)) ok one.placed in
    let same : middle.place_faults ≡ before.place_faults =
    none_where_ok before.place_faults middle.place_faults first tt ok one.cause in
    record {
      whole = on_ok rest (after.files ≡ all_placed ps middle.files)
          (after.files ≡ all_placed ((name, bytes) ∷ ps) before.files)
          (λ e. e ∙ placed_first name bytes ps before.files middle.files placed) others.whole;
      files = go_on name bytes ps (Rose before.place_faults after.place_faults) before.files middle.files after.files
          placed (subst (λ n. ArePlaced ps (Rose n after.place_faults) middle.files after.files) same others.files);
      none = λ e. cc;
      cause = subst (λ n. HasCause n after.place_faults rest) same others.cause;
      read_faults = others.read_faults ∙ one.read_faults;
      later = omega (arith, one.later, others.later);
      few = omega (arith, one.few, others.few);
      names = λ q h. others.names q (one.names q h);
    }
  where
    on_ok : (r : Result (Unit {0}) IoFault) (P Q : Type 0) → (P → Q) → OnOk r P → OnOk r Q
    on_ok (Ok x) P Q f h = f h
    on_ok (Err e) P Q f h = tt

-- ---- names and contents as the code has them

abbrev pub contents_in : List (Bor (List ℕ)) → List (List ℕ)
contents_in contents = map (λ (c : Bor (List ℕ)). c.now) contents

pub first_placing : (names : List (String Global)) (contents : List (Bor (List ℕ))) (n : String Global)
    (c : Bor (List ℕ)) (name : List ℕ) → name ≡ string_bytes (slice_index_or names 0 n) → 0 < length names →
    0 < length contents → placings (texts names) (contents_in contents)
    ≡ (name, (slice_index_or contents 0 c).now)
    ∷ placings (texts (take (length names - 1) (drop 1 names)))
    (contents_in (take (length contents - 1) (drop 1 contents)))
first_placing [] contents n c name e h k = absurd (omega arith)
first_placing (x ∷ xs) [] n c name e h k = absurd (omega arith)
first_placing (x ∷ xs) (y ∷ ys) n c name e h k =
    let m : suc (length xs) - 1 ≡ length xs = omega arith in
    let n : suc (length ys) - 1 ≡ length ys = omega arith in
    ap (λ t. (t, y.now) ∷ placings (texts xs) (contents_in ys)) (sym e)
    ∙ ap₂ (λ names contents. (name, y.now) ∷ placings (texts names) (contents_in contents))
    (sym (ap (λ k. take k xs) m ∙ take-length xs)) (sym (ap (λ k. take k ys) n ∙ take-length ys))

-- ---- an ending without files

pub placings_none : (names : List (List ℕ)) → placings names [] ≡ []
placings_none [] = refl
placings_none (name ∷ names) = refl

pub places_none : (names : List (List ℕ)) (contents : List (List ℕ)) (outside : Outside) → contents ≡ [] →
    PlacesAll (placings names contents) outside outside (Ok tt)
places_none names contents outside e =
    subst (λ ps. PlacesAll ps outside outside (Ok tt)) (sym (ap (placings names) e ∙ placings_none names))
    (all_of_none outside)

-- ---- files, then a text

-- nothing is put where a placing fails
nothing_put : (a : Answer) (ps : List (List ℕ × List ℕ)) (before after : Outside) (out : Output)
    (placed : Result (Unit {0}) IoFault) (status : Status) → PlacesAll ps before after placed →
    (status ≡ a.status → ⊥) → (status ≡ WriteFault) ⊎ (status ≡ MemoryStatus) →
    (status ≡ WriteFault → Rose before.place_faults after.place_faults) →
    (after.place_faults ≡ before.place_faults) ⊎ (status ≡ WriteFault) → DeliversAll a ps before after out out status
nothing_put a ps before after out placed status h other which fault kept = record {
  answer = record { which = inr (inr which); whole = λ e. absurd (other e); prefix = (0, grows_nothing out.told) };
  whole = λ e. absurd (other e);
  files = h.files;
  none = h.none;
  text_last = inr refl;
  spoken = λ e. unread which e;
  write_fault = λ e. inl (fault e);
  kept_places = kept;
  kept_writes = inl refl;
  later_places = h.cause.later;
  later_writes = omega arith;
  read_faults = h.read_faults;
  later = h.later;
  few = h.few;
  names = h.names;
}
  where
    unread : {s : Status} → (s ≡ WriteFault) ⊎ (s ≡ MemoryStatus) → s ≡ ReadFault → ⊥
    unread (inl w) e = let no : WriteFault ≡ ReadFault = sym w ∙ e in cc
    unread (inr m) e = let no : MemoryStatus ≡ ReadFault = sym m ∙ e in cc

pub not_delivered : (a : Answer) (ps : List (List ℕ × List ℕ)) (before after : Outside) (out : Output)
    (placed : Result (Unit {0}) IoFault) → placed ≡ Err Failed → (WriteFault ≡ a.status → ⊥) →
    PlacesAll ps before after placed → DeliversAll a ps before after out out WriteFault
not_delivered a ps before after out placed e other h =
    nothing_put a ps before after out placed WriteFault h other (inl refl) (λ _. h.cause.failed e) (inr refl)

pub not_delivered_memory : (a : Answer) (ps : List (List ℕ × List ℕ)) (before after : Outside) (out : Output)
    (placed : Result (Unit {0}) IoFault) → placed ≡ Err NoMemory → (MemoryStatus ≡ a.status → ⊥) →
    PlacesAll ps before after placed → DeliversAll a ps before after out out MemoryStatus
not_delivered_memory a ps before after out placed e other h =
    nothing_put a ps before after out placed MemoryStatus h other (inr refl) (λ w. cc)
    (inl (none_where_no_memory before.place_faults after.place_faults placed e h.cause))

-- an answer with a text of its own is no fault
pub spoken_text : (a : Answer) (s : Status) → IsTrue (is_spoken s) → a.status ≡ s →
    (WriteFault ≡ a.status → ⊥) × (MemoryStatus ≡ a.status → ⊥)
spoken_text a s h e = (
  λ f. (let no : false ≡ true = subst (λ (s : Status). IsTrue (is_spoken s)) (sym (f ∙ e)) h in cc),
  λ f. (let no : false ≡ true = subst (λ (s : Status). IsTrue (is_spoken s)) (sym (f ∙ e)) h in cc),
)
