-- What follows a plan behind the first file, follows the plan from that file on.
use Rattle.std.proofs.Common.{◌≡◌, ◌∙◌, inr, ℕ, ◌+◌, ◌≤◌, nat_le, Bool, true, false, cond, List, ◌∷◌, length}
use Rattle.std.proofs.Common.{Option, Some, None, IsSomeAnd, IfSome, Result, Ok, Err, IfOk, refl, sym, ap, subst, arith}
use Rattle.std.specs.FinMap.{get}
use Rattle.fx_io.specs.Causes.{HasCause}
use Rattle.fx_io.specs.Outside.{Outside, OnlyReads}
use Rattle.fx_io.specs.Shelf.{Files}
use Rattle.fx_io.specs.declared.shelf.IoFault.{IoFault}
use Rattle.fx_tool.specs.Answer.{Answer, absent}
use Rattle.fx_words.specs.Operand.{limit_of}
use Rattle.fx_tool.specs.Operand.{too_long}
use Rattle.fx_tool.specs.Plan.{Plan, Ends, Reads, by_content, answer_by, calls_by, most_calls, plan_calls, OfAnswer}
use Rattle.fx_tool.specs.Plan.{OnContents}
use Rattle.fx_tool.specs.Plan.{Follows}
use Rattle.fx_tool.specs.Reading.{Has, HoldsContent, read_calls}
use Rattle.fx_words.specs.declared.operand.Operand.{Operand}
use Rattle.fx_words.specs.declared.operand.Operand.TheVariants as operand
use Rattle.fx_tool.specs.declared.status.Status.TheVariants.{TooLong}
use Rattle.std.proofs.lemmas.Bool.{le-leb}
use Rattle.fx_tool.proofs.Counted.{none_where_ok}

-- ---- what comes of a file

pub long_status : (o : Operand) → (too_long o).status ≡ TooLong
long_status operand.Filter = refl
long_status operand.Code = refl
long_status operand.Certificate = refl
long_status operand.Samples = refl

either : (P : Answer → Type 0) (b : Bool) (next long : Answer) → P next → P long → P (cond b next long)
either P true next long n l = n
either P false next long n l = l

-- P holds of it, where it holds of an absent file, of a longer one and of what comes of each content
pub content_holds : (P : Answer → Type 0) (o : Operand) (next : List ℕ → Answer) (file : Option (List ℕ)) → P absent →
    P (too_long o) → ((content : List ℕ) → P (next content)) → P (by_content o absent (too_long o) next file)
content_holds P o next None none long each = none
content_holds P o next (Some content) none long each =
    either P (nat_le (length content) (limit_of o)) (next content) (too_long o) (each content) long

-- ---- the answer

-- a file that is there and short enough goes on
goes_on : {X : Type 0} (o : Operand) (none long : X) (next : List ℕ → X) (bytes : List ℕ) (file : Option (List ℕ)) →
    IsSomeAnd file (HoldsContent (limit_of o) (Some bytes)) → by_content o none long next file ≡ next bytes
goes_on o none long next bytes None h = absurd h
goes_on o none long next bytes (Some content) h =
    ap (λ b. cond b (next content) long) (le-leb (length content) (limit_of o) h.1) ∙ ap next h.0

pub told_answer : (os : List Operand) (names : List (List ℕ)) (plan : Plan) (files : Files) (P : Answer → Type 0) →
    OfAnswer os names plan (Some files) P → P (answer_by os names plan files)
told_answer os names (Ends a) files P h = h
told_answer os names (Reads next) files P h = h

on_contents : (os : List Operand) (names : List (List ℕ)) (plan : Plan) (P : Answer → Type 0) →
    OfAnswer os names plan None P → OnContents os plan P
on_contents os names (Ends a) P h = h
on_contents os names (Reads next) P h = h

answer_goes_on : (o : Operand) (os : List Operand) (name : List ℕ) (names : List (List ℕ)) (next : List ℕ → Plan)
    (told : Option Files) (bytes : List ℕ) (answer : Answer) → length bytes ≤ limit_of o →
    Has told name (HoldsContent (limit_of o) (Some bytes)) → OfAnswer os names (next bytes) told (λ a. a ≡ answer) →
    OfAnswer (o ∷ os) (name ∷ names) (Reads next) told (λ a. a ≡ answer)
answer_goes_on o os name names next None bytes answer short there h =
    inr (bytes, short, on_contents os names (next bytes) (λ a. a ≡ answer) h)
answer_goes_on o os name names next (Some files) bytes answer short there h =
    goes_on o absent (too_long o) (λ content. answer_by os names (next content) files) bytes (get files name) there
    ∙ told_answer os names (next bytes) files (λ a. a ≡ answer) h

if_answer_goes_on : (o : Operand) (os : List Operand) (name : List ℕ) (names : List (List ℕ)) (next : List ℕ → Plan)
    (told : Option Files) (bytes : List ℕ) (result : Result Answer IoFault) → length bytes ≤ limit_of o →
    Has told name (HoldsContent (limit_of o) (Some bytes)) →
    IfOk result (λ answer. OfAnswer os names (next bytes) told (λ a. a ≡ answer)) →
    IfOk result (λ answer. OfAnswer (o ∷ os) (name ∷ names) (Reads next) told (λ a. a ≡ answer))
if_answer_goes_on o os name names next told bytes (Ok answer) short there h =
    answer_goes_on o os name names next told bytes answer short there h
if_answer_goes_on o os name names next told bytes (Err fault) short there h = tt

-- ---- the calls

told_calls : (os : List Operand) (names : List (List ℕ)) (plan : Plan) (files : Files) →
    plan_calls os names plan (Some files) ≡ calls_by os names plan files
told_calls os names (Ends a) files = refl
told_calls os names (Reads next) files = refl

untold_calls : (os : List Operand) (names : List (List ℕ)) (plan : Plan) →
    plan_calls os names plan None ≤ most_calls os
untold_calls os names (Ends a) = omega arith
untold_calls os names (Reads next) = omega arith

calls_go_on : (o : Operand) (os : List Operand) (name : List ℕ) (names : List (List ℕ)) (next : List ℕ → Plan)
    (told : Option Files) (bytes : List ℕ) → Has told name (HoldsContent (limit_of o) (Some bytes)) →
    read_calls (limit_of o) told name + plan_calls os names (next bytes) told
    ≤ plan_calls (o ∷ os) (name ∷ names) (Reads next) told
calls_go_on o os name names next None bytes there =
    let few : plan_calls os names (next bytes) None ≤ most_calls os = untold_calls os names (next bytes) in
    omega (arith, few)
calls_go_on o os name names next (Some files) bytes there =
    let later : by_content o 0 0 (λ content. calls_by os names (next content) files) (get files name)
    ≡ plan_calls os names (next bytes) (Some files) =
    goes_on o 0 0 (λ content. calls_by os names (next content) files) bytes (get files name) there
    ∙ sym (told_calls os names (next bytes) files) in
    omega (arith, later)

-- ---- both

pub after_read : {X : Type 0} (o : Operand) (os : List Operand) (name : List ℕ) (names : List (List ℕ))
    (next : List ℕ → Plan) (before middle now : Outside) (found : Option (List ℕ)) (bytes : List ℕ)
    (read : Result X IoFault) (value : X) (result : Result Answer IoFault) → read ≡ Ok value → found ≡ Some bytes →
    IfSome found (λ bytes. length bytes ≤ limit_of o) →
    Has before.files name (HoldsContent (limit_of o) found) →
    OnlyReads (read_calls (limit_of o) before.files name) before middle read →
    Follows os names (next bytes) middle now result →
    Follows (o ∷ os) (name ∷ names) (Reads next) before now result
after_read o os name names next before middle now found bytes read value result ok is within there first later =
    let short : length bytes ≤ limit_of o = subst (λ found. IfSome found (λ bytes. length bytes ≤ limit_of o))
    is within in
    let there : Has before.files name (HoldsContent (limit_of o) (Some bytes)) =
    subst (λ found. Has before.files name (HoldsContent (limit_of o) found)) is there in
    let calls = calls_go_on o os name names next before.files bytes there in
    let few : now.calls ≤ middle.calls + plan_calls os names (next bytes) before.files =
    subst (λ told. now.calls ≤ middle.calls + plan_calls os names (next bytes) told) first.files later.shelf.few in
    let same : middle.read_faults ≡ before.read_faults =
    none_where_ok before.read_faults middle.read_faults read value ok first.cause in
    record {
      answer = if_answer_goes_on o os name names next before.files bytes result short there
          (subst (λ told. IfOk result (λ answer. OfAnswer os names (next bytes) told (λ a. a ≡ answer)))
          first.files later.answer);
      shelf = record {
        files = later.shelf.files ∙ first.files;
        cause = subst (λ faults. HasCause faults now.read_faults result) same later.shelf.cause;
        place_faults = later.shelf.place_faults ∙ first.place_faults;
        later = omega (arith, first.later, later.shelf.later);
        few = omega (arith, few, first.few, calls);
        names = λ name h. later.shelf.names name (first.names name h);
      };
    }
