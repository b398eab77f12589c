-- What the answers of the plans have in common, and what a run gives of them that fails before its text.
use Rattle.std.proofs.Common.{◌≡◌, ◌⊎◌, inl, inr, ℕ, ◌≤◌, ℤ, true, false, IsTrue, arith, List, []}
use Rattle.std.proofs.Common.{◌∷◌, length, take, Option, Some, None, Result, Ok, Err, refl, sym, ap, subst, ◌∙◌}
use Rattle.std.specs.FinMap.{get}
use Rattle.fx_io.specs.Outside.{Outside, Output}
use Rattle.fx_io.specs.Shelf.{Files}
use Rattle.fx_io.specs.declared.shelf.IoFault.{IoFault}
use Rattle.fx_io.specs.declared.shelf.IoFault.TheVariants as io
use Rattle.fx_block.specs.Failure.{Failure, first_failure}
use Rattle.fx_cert.specs.Certificate.{Certificate}
use Rattle.fx_cert.specs.Lines.{lines_of}
use Rattle.fx_cert.specs.Reading.{certificate_in}
use Rattle.fx_cert.specs.declared.fault.CertFault.{CertFault}
use Rattle.fx_code.specs.Code.{Code}
use Rattle.fx_files.specs.Reading.{filter_of_bytes}
use Rattle.fx_files.specs.Filter.{Filter}
use Rattle.fx_keys.specs.declared.fault.FilterFault.{FilterFault}
use Rattle.fx_text.specs.Reading.{code_in}
use Rattle.fx_text.specs.declared.fault.CodeFault.{CodeFault}
use Rattle.fx_sim.specs.Simulation.{simulation}
use Rattle.fx_sim.specs.declared.fault.SampleFault.{SampleFault}
use Rattle.fx_tool.specs.Answer.{Answer, absent, Delivers}
use Rattle.fx_tool.specs.Check.{certified, code_plan, filter_plan}
use Rattle.fx_words.specs.Command.{Command}
use Rattle.fx_words.specs.Words.{command_of}
use Rattle.fx_tool.specs.Gain.{by_serving, gained, gains, serving}
use Rattle.fx_tool.specs.Large.{large_answer, number_filter, operand_number, run_for}
use Rattle.fx_tool.specs.Judgement.{by_failure, judged, reported, told}
use Rattle.fx_tool.specs.Operand.{too_long}
use Rattle.fx_tool.specs.Plan.{Plan, Ends, Reads, answer_by, OfAnswer, OnContents, WhereTold}
use Rattle.fx_make.specs.Candidates.{Candidate, Passing}
use Rattle.fx_make.specs.Made.{found}
use Rattle.fx_make.specs.Search.{Progress}
use Rattle.fx_make.specs.Search.Progress.{AllFailed, Found}
use Rattle.fx_make.specs.declared.refusal.StructureFault.{StructureFault}
use Rattle.fx_io.specs.Causes.{HasCause, Rose}
use Rattle.fx_tool.specs.Make.{made_answer, made_of_bytes, of_found, of_search, placed_for}
use Rattle.fx_tool.specs.Placing.{ArePlaced, DeliversAll, PlacesNothing, all_placed, placings, with_placed}
use Rattle.fx_tool.specs.Running.{plan_of, operands_to, names_to, targets_to, plan_to, answer_of, placings_of}
use Rattle.fx_tool.specs.Running.{Answers, FollowsAsked, FollowsWords, Leaves, LeavesFiles, OfWords, PlacesAnswer}
use Rattle.fx_tool.proofs.Counted.{none_where_no_memory, none_where_ok}
use Rattle.fx_tool.proofs.Followed.{content_holds, long_status, told_answer}
use Rattle.fx_tool.proofs.Placed.{nothing_placed, placings_none}
use Rattle.fx_tool.specs.Show.{shown}
use Rattle.fx_tool.specs.Simulate.{outputs, samples_plan}
use Rattle.fx_tool.specs.Status.{is_spoken}
use Rattle.fx_tool.specs.Writing.{GrowsBy}
use Rattle.fx_tool.proofs.WrittenSoFar.{grows_nothing}
use Rattle.fx_words.specs.declared.command.Verb.{Verb}
use Rattle.fx_words.specs.declared.command.Verb.TheVariants.{Check, Gain, Large, Make, Report, Show, Simulate}
use Rattle.fx_tool.specs.declared.judgement.Detail.{Detail}
use Rattle.fx_tool.specs.declared.judgement.Detail.TheVariants.{Brief, Full}
use Rattle.fx_words.specs.declared.operand.Operand.{Operand}
use Rattle.fx_tool.specs.declared.status.Status.{Status}
use Rattle.fx_tool.specs.declared.status.Status.TheVariants.{ReadFault, WriteFault, NoMemory}

-- ---- each answer of a plan has a text of its own

abbrev IsSpoken : Answer → Type 0
IsSpoken a = IsTrue (is_spoken a.status)

abbrev AllSpoken : Plan → Type 0
AllSpoken (Ends a) = IsSpoken a
AllSpoken (Reads next) = (content : List ℕ) → AllSpoken (next content)

shown_spoken : (r : Result Filter FilterFault) → IsSpoken (shown r)
shown_spoken (Ok filter) = refl
shown_spoken (Err fault) = refl

outputs_spoken : (r : Result (List ℕ) SampleFault) → IsSpoken (outputs r)
outputs_spoken (Ok text) = refl
outputs_spoken (Err fault) = refl

samples_spoken : (r : Result Code CodeFault) → AllSpoken (samples_plan r)
samples_spoken (Ok p) = λ samples. outputs_spoken (simulation p samples)
samples_spoken (Err fault) = refl

failure_spoken : (r : Option Failure) (errors : List ℤ) → IsSpoken (by_failure r errors)
failure_spoken None errors = refl
failure_spoken (Some failure) errors = refl

judged_spoken : (f : Filter) (p : Code) (c : Certificate) → IsSpoken (judged f p c)
unfolding judged
judged_spoken f p c = failure_spoken (first_failure f p c) c.errors

reported_spoken : (f : Filter) (p : Code) (c : Certificate) → IsSpoken (reported f p c)
unfolding reported
reported_spoken f p c = judged_spoken f p c

told_spoken : (detail : Detail) (f : Filter) (p : Code) (c : Certificate) → IsSpoken (told detail f p c)
told_spoken Brief f p c = judged_spoken f p c
told_spoken Full f p c = reported_spoken f p c

certificate_spoken : (detail : Detail) (f : Filter) (p : Code) (r : Result Certificate CertFault) →
    IsSpoken (certified detail f p r)
certificate_spoken detail f p (Ok c) = told_spoken detail f p c
certificate_spoken detail f p (Err fault) = refl

code_spoken : (detail : Detail) (f : Filter) (r : Result Code CodeFault) → AllSpoken (code_plan detail f r)
code_spoken detail f (Ok p) = λ cert. certificate_spoken detail f p (certificate_in (lines_of cert))
code_spoken detail f (Err fault) = refl

filter_spoken : (detail : Detail) (r : Result Filter FilterFault) → AllSpoken (filter_plan detail r)
filter_spoken detail (Ok f) = λ code. code_spoken detail f (code_in code)
filter_spoken detail (Err fault) = refl

search_spoken : (tell : Candidate → Passing → Answer) → ((c : Candidate) (p : Passing) → IsSpoken (tell c p)) →
    (p : Progress) → IsSpoken (of_search tell p)
search_spoken tell spoken (AllFailed fails) = refl
search_spoken tell spoken (Found c p) = spoken c p

found_spoken : (tell : Candidate → Passing → Answer) → ((c : Candidate) (p : Passing) → IsSpoken (tell c p)) →
    (r : Result Progress StructureFault) → IsSpoken (of_found tell r)
found_spoken tell spoken (Ok p) = search_spoken tell spoken p
found_spoken tell spoken (Err why) = refl

answer_spoken : (f : Filter) → IsSpoken (made_answer f)
unfolding made_answer
answer_spoken f = found_spoken (λ c p. placed_for f c p) (λ c p. refl) (found f)

made_spoken : (r : Result Filter FilterFault) → IsSpoken (made_of_bytes r)
made_spoken (Ok f) = answer_spoken f
made_spoken (Err fault) = refl

serving_spoken : (f : Filter) (m : Option ℕ) → IsSpoken (by_serving f m)
serving_spoken f (Some m) = refl
serving_spoken f None = refl

gains_spoken : (f : Filter) → IsSpoken (gains f)
unfolding gains
gains_spoken f = serving_spoken f (serving f)

gained_spoken : (r : Result Filter FilterFault) → IsSpoken (gained r)
gained_spoken (Ok f) = gains_spoken f
gained_spoken (Err fault) = refl

large_spoken : (number : ℕ) → IsSpoken (large_answer number)
unfolding large_answer
large_spoken number = found_spoken (λ c p. run_for number c p) (λ c p. refl) (found (number_filter number))

verb_spoken : (v : Verb) (names : List (List ℕ)) → AllSpoken (plan_of v names)
verb_spoken Check names = λ bytes. filter_spoken Brief (filter_of_bytes bytes)
verb_spoken Gain names = λ bytes. gained_spoken (filter_of_bytes bytes)
verb_spoken Large names = large_spoken (operand_number names)
verb_spoken Make names = λ bytes. made_spoken (filter_of_bytes bytes)
verb_spoken Report names = λ bytes. filter_spoken Full (filter_of_bytes bytes)
verb_spoken Show names = λ bytes. shown_spoken (filter_of_bytes bytes)
verb_spoken Simulate names = λ bytes. samples_spoken (code_in bytes)

words_spoken : (c : Option Command) → AllSpoken (plan_to c)
words_spoken None = refl
words_spoken (Some c) = verb_spoken c.verb c.names

-- ---- so each answer on files is such, or a file is absent

abbrev IsUsual : Answer → Type 0
IsUsual a = IsSpoken a ⊎ (a ≡ absent)

long_spoken : (o : Operand) → IsSpoken (too_long o)
long_spoken o = subst (λ (s : Status). IsTrue (is_spoken s)) (sym (long_status o)) refl

plan_usual : (os : List Operand) (names : List (List ℕ)) (plan : Plan) (files : Files) → AllSpoken plan →
    IsUsual (answer_by os names plan files)
plan_usual os names (Ends a) files h = inl h
plan_usual [] names (Reads next) files h = inr refl
plan_usual (o ∷ os) [] (Reads next) files h = inr refl
plan_usual (o ∷ os) (name ∷ names) (Reads next) files h =
    content_holds (λ a. IsUsual a) o (λ content. answer_by os names (next content) files) (get files name) (inr refl)
    (inl (long_spoken o)) (λ content. plan_usual os names (next content) files (h content))

of_plan : (os : List Operand) (names : List (List ℕ)) (plan : Plan) (told : Option Files) (P : Answer →
    Type 0) → AllSpoken plan → ((a : Answer) → IsUsual a → P a) → OfAnswer os names plan told P
of_plan os names (Ends a) told P h p = p a (inl h)
of_plan [] names (Reads next) None P h p = p absent (inr refl)
of_plan (o ∷ os) names (Reads next) None P h p = inl (p (too_long o) (inl (long_spoken o)))
of_plan os names (Reads next) (Some files) P h p = p _ (plan_usual os names (Reads next) files h)

-- ---- faults before the text

grows_text : (text : List ℕ) (before : Option (List ℕ)) → text ≡ [] → GrowsBy text before before
grows_text text before e = let P : List ℕ → Type 0 = λ t. GrowsBy t before before in
    subst P (sym e) (grows_nothing before)

silent : (s : Status) → s ≡ ReadFault ⊎ (s ≡ NoMemory) → IsTrue (is_spoken s) → ⊥
silent s (inl e) h = let no : false ≡ true = subst (λ (s : Status). IsTrue (is_spoken s)) e h in cc
silent s (inr e) h = let no : false ≡ true = subst (λ (s : Status). IsTrue (is_spoken s)) e h in cc

-- an absent file says nothing
fault_says_nothing : (a : Answer) → IsUsual a → ReadFault ≡ a.status → a.text ≡ []
fault_says_nothing a (inl s) h = absurd (silent a.status (inl (sym h)) s)
fault_says_nothing a (inr e) h = ap (λ (a : Answer). a.text) e

-- no answer is want of memory
memory_is_no_answer : (a : Answer) → IsUsual a → NoMemory ≡ a.status → ⊥
memory_is_no_answer a (inl s) h = silent a.status (inr (sym h)) s
memory_is_no_answer a (inr e) h = let e : NoMemory ≡ ReadFault = h ∙ ap (λ (a : Answer). a.status) e in cc

-- the status of a run whose read failed so
abbrev pub read_status : IoFault → Status
read_status io.Failed = ReadFault
read_status io.NoMemory = NoMemory

delivers_fault : (fault : IoFault) (a : Answer) (before : Option (List ℕ)) → IsUsual a →
    Delivers a (read_status fault) before before
delivers_fault io.Failed a before u = record {
  which = inr (inl refl);
  whole = λ h. grows_text a.text before (fault_says_nothing a u h);
  prefix = (0, grows_nothing before);
}
delivers_fault io.NoMemory a before u = record {
  which = inr (inr (inr refl));
  whole = λ h. absurd (memory_is_no_answer a u h);
  prefix = (0, grows_nothing before);
}

gives_fault : (fault : IoFault) (words : List (List ℕ)) (told : Option Files) (before : Option (List ℕ)) →
    OfWords words told (λ a. Delivers a (read_status fault) before before)
gives_fault fault words told before =
    let c = command_of words in
    of_plan (operands_to c) (names_to c) (plan_to c) told (λ a. Delivers a (read_status fault) before before)
    (words_spoken c) (λ a u. delivers_fault fault a before u)

-- ---- the files of such a run

where_told : (told : Option Files) (P : Files → Type 0) → ((files : Files) → told ≡ Some files → P files) →
    WhereTold told P
where_told None P h = tt
where_told (Some files) P h = h files refl

leaves_all : (words targets : List (List ℕ)) (before after : Outside) → PlacesNothing before after →
    LeavesFiles words targets before after
leaves_all words [] before after h = h
leaves_all words (t ∷ ts) before after h =
    where_told before.files _ (λ files e.
    subst (λ told. ArePlaced (placings_of words (answer_of words files))
    (Rose before.place_faults after.place_faults) before.files told) (sym h.files)
    (nothing_placed (placings_of words (answer_of words files)) (Rose before.place_faults after.place_faults)
    before.files))

-- an absent file places nothing
fault_places_nothing : (a : Answer) → IsUsual a → ReadFault ≡ a.status → a.placed ≡ []
fault_places_nothing a (inl s) h = absurd (silent a.status (inl (sym h)) s)
fault_places_nothing a (inr e) h = ap (λ (a : Answer). a.placed) e

usual_answer : (words : List (List ℕ)) (files : Files) → IsUsual (answer_of words files)
usual_answer words files =
    let c = command_of words in plan_usual (operands_to c) (names_to c) (plan_to c) files (words_spoken c)

places_at_fault : (fault : IoFault) (words : List (List ℕ)) (before after : Option Files) → after ≡ before →
    PlacesAnswer words before after (read_status fault)
places_at_fault io.Failed words None after e = tt
places_at_fault io.NoMemory words None after e = tt
places_at_fault io.Failed words (Some files) after e = λ h.
    e ∙ ap (λ ps. Some (with_placed ps files))
    (sym (ap (placings (targets_to (command_of words)))
    (fault_places_nothing (answer_of words files) (usual_answer words files) h)
    ∙ placings_none (targets_to (command_of words))))
places_at_fault io.NoMemory words (Some files) after e = λ h.
    absurd (memory_is_no_answer (answer_of words files) (usual_answer words files) h)

-- a run that ends before it reads follows any plan
pub follows_nothing : (words : List (List ℕ)) (shelf : Outside) → FollowsWords words shelf shelf (Err io.NoMemory)
follows_nothing words shelf = record {
  answer = tt;
  shelf = record {
    files = refl;
    cause = record { later = omega arith; failed = λ e. cc; kept = inl refl };
    place_faults = refl;
    later = omega arith;
    few = omega arith;
    names = λ q h. h;
  };
}

-- ---- what such a run leaves

unwritten : (fault : IoFault) → read_status fault ≡ WriteFault → ⊥
unwritten io.Failed e = cc
unwritten io.NoMemory e = cc

counted : (fault : IoFault) (before now : ℕ) (result : Result Answer IoFault) → result ≡ Err fault →
    HasCause before now result → read_status fault ≡ ReadFault → Rose before now
counted io.Failed before now result e h s = h.failed e
counted io.NoMemory before now result e h s = cc

counted_so : (fault : IoFault) (before now : ℕ) (result : Result Answer IoFault) → result ≡ Err fault →
    HasCause before now result → (now ≡ before) ⊎ (read_status fault ≡ ReadFault)
counted_so io.Failed before now result e h = inr refl
counted_so io.NoMemory before now result e h = inl (none_where_no_memory before now result e h)

leaves_fault : (words : List (List ℕ)) (shelf shelf' : Outside) (out : Output) (result : Result Answer IoFault)
    (fault : IoFault) → result ≡ Err fault → FollowsWords words shelf shelf' result →
    Leaves words shelf shelf' out out (read_status fault)
leaves_fault words shelf shelf' out result fault e f = record {
  answer = gives_fault fault words shelf.files out.told;
  quiet = λ h. refl;
  grows = ([], grows_nothing out.told);
  text_last = inr refl;
  read_fault = counted fault shelf.read_faults shelf'.read_faults result e f.shelf.cause;
  write_fault = λ h. absurd (unwritten fault h);
  kept_reads = counted_so fault shelf.read_faults shelf'.read_faults result e f.shelf.cause;
  kept_places = inl f.shelf.place_faults;
  kept_writes = inl refl;
  later_reads = f.shelf.cause.later;
  later_places = omega (arith, f.shelf.place_faults);
  later_writes = omega arith;
  unread = λ h. f.shelf.files;
  files = leaves_all words (targets_to (command_of words)) shelf shelf'
      (record { files = f.shelf.files; place_faults = f.shelf.place_faults });
  later = f.shelf.later;
  calls = omega (arith, f.shelf.few);
  names = f.shelf.names;
}

-- of the command that is asked, where that is the one of the words
pub answers_fault : (words : List (List ℕ)) (asked : Option Command) (shelf shelf' : Outside) (out : Output)
    (result : Result Answer IoFault) (fault : IoFault) → asked ≡ command_of words →
    FollowsAsked asked shelf shelf' result → result ≡ Err fault →
    Answers words shelf shelf' out out (read_status fault)
answers_fault words asked shelf shelf' out result fault is follows e =
    let f : FollowsWords words shelf shelf' result =
    subst (λ (c : Option Command). FollowsAsked c shelf shelf' result) is follows in
    record {
      placed = places_at_fault fault words shelf.files shelf'.files f.shelf.files;
      leaves = leaves_fault words shelf shelf' out result fault e f;
    }

-- ---- what a run leaves that comes to its text

on_contents : (os : List Operand) (plan : Plan) (P Q : Answer → Type 0) → ((a : Answer) → P a → Q a) →
    OnContents os plan P → OnContents os plan Q
on_contents os (Ends a) P Q f h = f a h
on_contents [] (Reads next) P Q f h = f absent h
on_contents (o ∷ os) (Reads next) P Q f (inl h) = inl (f (too_long o) h)
on_contents (o ∷ os) (Reads next) P Q f (inr (content, short, h)) =
    inr (content, short, on_contents os (next content) P Q f h)

of_answer : (os : List Operand) (names : List (List ℕ)) (plan : Plan) (told : Option Files) (P Q : Answer → Type 0) →
    ((a : Answer) → P a → Q a) → OfAnswer os names plan told P → OfAnswer os names plan told Q
of_answer os names (Ends a) told P Q f h = f a h
of_answer os names (Reads next) None P Q f h = on_contents os (Reads next) P Q f h
of_answer os names (Reads next) (Some files) P Q f h = f _ h

-- the answer of an ending is that of the words
follows_answer : (words : List (List ℕ)) (before now : Outside) (answer : Answer) →
    FollowsWords words before now (Ok answer) → OfWords words before.files (λ a. a ≡ answer)
follows_answer words before now answer f = f.answer

is_answer : (words : List (List ℕ)) (told : Option Files) (files : Files) (answer : Answer) → told ≡ Some files →
    OfWords words told (λ a. a ≡ answer) → answer_of words files ≡ answer
is_answer words told files answer e h =
    let c = command_of words in
    told_answer (operands_to c) (names_to c) (plan_to c) files (λ a. a ≡ answer)
    (subst (λ told. OfWords words told (λ a. a ≡ answer)) e h)

few_placings : (names contents : List (List ℕ)) → length (placings names contents) ≤ length names
few_placings [] contents = omega arith
few_placings (name ∷ names) [] = omega arith
few_placings (name ∷ names) (content ∷ contents) = omega (arith, few_placings names contents)

leaves_placed : (words targets : List (List ℕ)) (before now after : Outside) (answer : Answer) →
    now.files ≡ before.files → now.place_faults ≡ before.place_faults →
    OfWords words before.files (λ a. a ≡ answer) → targets_to (command_of words) ≡ targets →
    (placings targets answer.placed ≡ [] → PlacesNothing now after) →
    ArePlaced (placings_of words answer) (Rose now.place_faults after.place_faults) now.files after.files →
    LeavesFiles words targets before after
leaves_placed words [] before now after answer same faults is targets none placed =
    let h = none refl in record { files = h.files ∙ same; place_faults = h.place_faults ∙ faults }
leaves_placed words (t ∷ ts) before now after answer same faults is targets none placed =
    where_told before.files _ (λ files e.
    subst (λ a. ArePlaced (placings_of words a) (Rose before.place_faults after.place_faults) before.files after.files)
    (sym (is_answer words before.files files answer e is))
    (subst (λ n. ArePlaced (placings_of words answer) (Rose n after.place_faults) before.files after.files) faults
    (subst (λ told. ArePlaced (placings_of words answer) (Rose now.place_faults after.place_faults) told after.files)
    same placed)))

-- what an ending places is what the answer of the words does
places_all_of : (words : List (List ℕ)) (before now after : Outside) (answer : Answer) → now.files ≡ before.files →
    OfWords words before.files (λ a. a ≡ answer) → after.files ≡ all_placed (placings_of words answer) now.files →
    WhereTold before.files (λ files. after.files ≡ Some (with_placed (placings_of words (answer_of words files)) files))
places_all_of words before now after answer same is placed =
    where_told before.files _ (λ files e.
    placed ∙ ap (all_placed (placings_of words answer)) (same ∙ e)
    ∙ ap (λ a. Some (with_placed (placings_of words a) files)) (sym (is_answer words before.files files answer e is)))

leaves_delivered : (words : List (List ℕ)) (before now after : Outside) (out out' : Output) (answer : Answer)
    (status : Status) → FollowsWords words before now (Ok answer) →
    DeliversAll answer (placings_of words answer) now after out out' status →
    Leaves words before after out out' status
leaves_delivered words before now after out out' answer status f d =
    let c = command_of words in
    let few = few_placings (targets_to c) answer.placed in
    record {
      answer = of_answer (operands_to c) (names_to c) (plan_to c) before.files (λ a. a ≡ answer)
          (λ a. Delivers a status out.told out'.told)
          (λ a e. subst (λ a. Delivers a status out.told out'.told) (sym e) d.answer)
          (follows_answer words before now answer f);
      quiet = λ e. absurd (d.spoken e);
      grows = (take d.answer.prefix.0 answer.text, d.answer.prefix.1);
      text_last = elim d.text_last [
        | inl placed ↦ inl (
          places_all_of words before now after answer f.shelf.files (follows_answer words before now answer f) placed.0,
          placed.1 ∙ f.shelf.place_faults,
        )
        | inr same ↦ inr same
      ];
      read_fault = λ e. absurd (d.spoken e);
      write_fault = λ e. subst (λ n. Rose n after.place_faults ⊎ Rose out.faults out'.faults) f.shelf.place_faults
          (d.write_fault e);
      kept_reads = inl (d.read_faults
          ∙ none_where_ok before.read_faults now.read_faults (Ok answer) answer refl f.shelf.cause);
      kept_places = elim d.kept_places [ inl e ↦ inl (e ∙ f.shelf.place_faults) | inr e ↦ inr e ];
      kept_writes = d.kept_writes;
      later_reads = omega (arith, d.read_faults, f.shelf.cause.later);
      later_places = omega (arith, d.later_places, f.shelf.place_faults);
      later_writes = d.later_writes;
      unread = λ e. absurd (d.spoken e);
      files = leaves_placed words (targets_to c) before now after answer f.shelf.files f.shelf.place_faults
          (follows_answer words before now answer f) refl d.none d.files;
      later = omega (arith, d.later, f.shelf.later);
      calls = omega (arith, d.few, f.shelf.few, few);
      names = λ q h. d.names q (f.shelf.names q h);
    }

places_delivered : (words : List (List ℕ)) (before now after : Outside) (out out' : Output) (answer : Answer)
    (status : Status) → FollowsWords words before now (Ok answer) →
    DeliversAll answer (placings_of words answer) now after out out' status →
    PlacesAnswer words before.files after.files status
places_delivered words before now after out out' answer status f d =
    where_told before.files _ (λ files e h.
    (let is = is_answer words before.files files answer e (follows_answer words before now answer f) in
    d.whole (h ∙ ap (λ (a : Answer). a.status) is) ∙ ap (all_placed (placings_of words answer)) (f.shelf.files ∙ e)
    ∙ ap (λ a. Some (with_placed (placings_of words a) files)) (sym is)))

pub answers_delivered : (words names : List (List ℕ)) (asked : Option Command) (before now after : Outside)
    (out out' : Output) (result : Result Answer IoFault) (answer : Answer) (status : Status) →
    asked ≡ command_of words → FollowsAsked asked before now result → result ≡ Ok answer →
    names ≡ targets_to asked → DeliversAll answer (placings names answer.placed) now after out out' status →
    Answers words before after out out' status
answers_delivered words names asked before now after out out' result answer status is follows e targets delivered =
    let f : FollowsWords words before now (Ok answer) =
    subst (λ (r : Result Answer IoFault). FollowsWords words before now r) e
    (subst (λ (c : Option Command). FollowsAsked c before now result) is follows) in
    let d : DeliversAll answer (placings_of words answer) now after out out' status =
    subst (λ (ns : List (List ℕ)). DeliversAll answer (placings ns answer.placed) now after out out' status)
    (targets ∙ ap targets_to is) delivered in
    record {
      placed = places_delivered words before now after out out' answer status f d;
      leaves = leaves_delivered words before now after out out' answer status f d;
    }
