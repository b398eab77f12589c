-- What was read before, with what is still read.
use Rattle.std.proofs.Common.{Bool, true, false, ◌≡◌, ◌+◌, ◌<◌, ◌++◌, ◌∙◌, List, ℕ, zero, suc, ℤ, Some, Result}
use Rattle.std.proofs.Common.{Ok, Err, [], ◌∷◌, drop, take, length, get_or, refl, sym, ap, append_assoc, arith}
use Rattle.std.proofs.Math.ListN.{set}
use Rattle.std.proofs.Math.Seq.{drop-cons}
use Rattle.std.proofs.lemmas.List.{take_more_set}
use Rattle.csv.specs.Records.{field_at}
use Rattle.fx_sim.specs.declared.fault.SampleFault.{SampleFault}
use Rattle.fx_math.specs.Faults.{◌>>=◌}
use Rattle.fx_math.specs.Answers.{IsFault, Fails}
use Rattle.fx_math.proofs.Answers.{fails_through}
use Rattle.fx_sim.specs.Between.{with_front}
use Rattle.fx_sim.specs.Samples.{is_memory, word_in, words_in}

-- a fault goes through what was read before
fault_behind : {A : Type 0} (memory : Bool) (e : SampleFault) (front : List A)
    (read : Result (List A) SampleFault) → IsFault memory e read → IsFault memory e (with_front front read)
fault_behind true e front read h = tt
fault_behind false e front read h = rw h refl

pub fails_behind : {A : Type 0} (e : SampleFault) (front : List A) (read : Result (List A) SampleFault) →
    Fails is_memory e read → Fails is_memory e (with_front front read)
fails_behind e front read h = fault_behind (is_memory e) e front read h

-- one more value moves to the front
pub regroup : {A : Type 0} (front : List A) (x : A) (read : Result (List A) SampleFault) →
    with_front front (read >>= λ xs. Ok (x ∷ xs)) ≡ with_front (front ++ x ∷ []) read
regroup {A} front x (Ok xs) = ap (λ (t : List A). Ok t) (simp append_assoc)
regroup front x (Err fault) = refl

-- the field at a place of a record
pub field_there : (fields : List (List ℕ)) (i : ℕ) → i < length fields → field_at fields i ≡ Some (get_or fields i [])
unfolding field_at
field_there [] i below = absurd (omega arith)
field_there (f ∷ fs) zero below = refl
field_there (f ∷ fs) (suc i) below = field_there fs i (omega arith)

-- the column at hand, with those behind it
column_read : (number i : ℕ) (widths : List ℕ) (fields : List (List ℕ)) → i < length widths → i < length fields
    → words_in number (i + 1) (drop i widths) (drop i fields)
    ≡ (word_in number (i + 1) (get_or widths i 0) (get_or fields i []) >>= λ z.
    words_in number (i + 1 + 1) (drop (i + 1) widths) (drop (i + 1) fields) >>= λ zs. Ok (z ∷ zs))
unfolding words_in
column_read number i widths fields below there =
    let step : suc i ≡ i + 1 = omega arith in
    let one : drop i widths ≡ get_or widths i 0 ∷ drop (i + 1) widths =
    drop-cons widths i 0 below ∙ ap (λ n. get_or widths i 0 ∷ drop n widths) step in
    let two : drop i fields ≡ get_or fields i [] ∷ drop (i + 1) fields =
    drop-cons fields i [] there ∙ ap (λ n. get_or fields i [] ∷ drop n fields) step in
    rw (one, two) refl

pub more_read : (number i : ℕ) (widths : List ℕ) (fields : List (List ℕ)) (input : List ℤ) (z : ℤ)
    (total : Result (List ℤ) SampleFault)
    → i < length widths → i < length fields → i < length input →
    word_in number (i + 1) (get_or widths i 0) (get_or fields i []) ≡ Ok z
    → with_front (take i input) (words_in number (i + 1) (drop i widths) (drop i fields)) ≡ total
    → with_front (take (i + 1) (set input i z))
    (words_in number (i + 1 + 1) (drop (i + 1) widths) (drop (i + 1) fields)) ≡ total
more_read number i widths fields input z total below there place word h =
    let column = column_read number i widths fields below there in
    let later = words_in number (i + 1 + 1) (drop (i + 1) widths) (drop (i + 1) fields) in
    let one : with_front (take i input) (words_in number (i + 1) (drop i widths) (drop i fields))
    ≡ with_front (take i input ++ z ∷ []) later
    = rw (column, word) (regroup (take i input) z later) in
    let two : take (i + 1) (set input i z) ≡ take i input ++ z ∷ [] = take_more_set input i z place in
    rw two (sym one ∙ h)

pub fault_read : (number i : ℕ) (widths : List ℕ) (fields : List (List ℕ)) (front : List ℤ) (e : SampleFault)
    (total : Result (List ℤ) SampleFault)
    → i < length widths → i < length fields →
    Fails is_memory e (word_in number (i + 1) (get_or widths i 0) (get_or fields i []))
    → with_front front (words_in number (i + 1) (drop i widths) (drop i fields)) ≡ total → Fails is_memory e total
fault_read number i widths fields front e total below there word h =
    let column = column_read number i widths fields below there in
    let here = word_in number (i + 1) (get_or widths i 0) (get_or fields i []) in
    let later = λ (z : ℤ). words_in number (i + 1 + 1) (drop (i + 1) widths) (drop (i + 1) fields) >>= λ zs.
    Ok (z ∷ zs) in
    rw (← h, column) (fails_behind e front (here >>= later) (fails_through is_memory e here later word))
