-- Moments are read from exactly the records that stand for them.
use Rattle.std.proofs.Common.{◌≡◌, ◌+◌, ◌-◌, ◌^◌, ◌<◌, ◌==◌, Bool, true, false, cond, List, ℕ, zero, suc, ℤ}
use Rattle.std.proofs.Common.{pos, neg_ℤ, Option, Some, None, Result, Ok, Err, [], ◌∷◌, length, get_or, T, refl}
use Rattle.std.proofs.Common.{ap, subst, arith}
use Rattle.std.specs.Int.Signed.{le_z, lt_z, le_z_yes, lt_z_yes}
use Rattle.std.specs.List.{AllZip}
use Rattle.std.proofs.lemmas.Bool.{and_from, and_parts, eq-eqb, eqb-true}
use Rattle.csv.specs.Reading.{default_config, records, strip_bom}
use Rattle.fx_math.specs.Residue.{FitsBits}
use Rattle.fx_code.specs.Code.{Code}
use Rattle.fx_code.specs.Inputs.{IsMoment}
use Rattle.fx_sim.specs.declared.fault.SampleFault.{SampleFault}
use Rattle.fx_sim.specs.declared.fault.SampleFault.TheVariants.{Columns, Field, OutOfWord}
use Rattle.fx_sim.specs.Fields.{IsField, field_value}
use Rattle.fx_sim.specs.Laws.{IsRecordOf, SamplesLaw}
use Rattle.fx_math.specs.Faults.{◌>>=◌, or_fault}
use Rattle.fx_sim.specs.Samples.{is_word, moment_in, moments_in, word_in, words_in}
use Rattle.fx_sim.proofs.FieldLaws.{field_is, field_read}

-- ---- steps

-- steps that give a value
bind_ok : {A B : Type 0} (read : Result A SampleFault) (f : A → Result B SampleFault) (y : B) →
    (read >>= f) ≡ Ok y → (x : A) × (read ≡ Ok x) × (f x ≡ Ok y)
bind_ok (Ok x) f y h = (x, refl, h)
bind_ok (Err e) f y h = absurd cc

-- a test that gives a value
test_ok : {A : Type 0} (b : Bool) (x y : A) (e : SampleFault) → cond b (Ok x) (Err e) ≡ Ok y → (b ≡ true) × (x ≡ y)
test_ok true x y e h = (refl, cc)
test_ok false x y e h = absurd cc

-- a test before a step that gives a value
step_ok : {A : Type 0} (b : Bool) (read : Result A SampleFault) (y : A) (e : SampleFault) →
    cond b read (Err e) ≡ Ok y → (b ≡ true) × (read ≡ Ok y)
step_ok true read y e h = (refl, h)
step_ok false read y e h = absurd cc

found_ok : {A : Type 0} (e : SampleFault) (o : Option A) (x : A) → or_fault e o ≡ Ok x → o ≡ Some x
found_ok {A} e (Some y) x h = let same : y ≡ x = cc in ap (λ (t : A). Some t) same
found_ok e None x h = absurd cc

-- ---- words

pub word_fits : (w : ℕ) (z : ℤ) → is_word w z ≡ true → FitsBits w z
word_fits w z h =
    let (low, high) = and_parts (le_z (neg_ℤ (pos (2 ^ (w - 1)))) z) (lt_z z (pos (2 ^ (w - 1)))) h in
    record { low = le_z_yes (rw low tt); high = lt_z_yes (rw high tt) }

fits_word : (w : ℕ) (z : ℤ) → FitsBits w z → is_word w z ≡ true
fits_word w z h = and_from (le_z (neg_ℤ (pos (2 ^ (w - 1)))) z) (lt_z z (pos (2 ^ (w - 1)))) (sure _ h.low.le)
    (sure _ h.high.lt)
  where
    sure : (b : Bool) → T b → b ≡ true
    sure true t = refl
    sure false t = absurd t

word_is : (number column w : ℕ) (f : List ℕ) (z : ℤ) → word_in number column w f ≡ Ok z → IsField f z × FitsBits w z
unfolding word_in
word_is number column w f z h =
    let (x, found, tested) =
    bind_ok (or_fault (Field number column) (field_value f)) (λ z.
    cond (is_word w z) (Ok z) (Err (OutOfWord number column z))) z h in
    let (word, same) = test_ok (is_word w x) x z (OutOfWord number column x) tested in
    let P : ℤ → Type 0 = λ n. IsField f n × FitsBits w n in
    subst P same (field_is f x (found_ok (Field number column) (field_value f) x found), word_fits w x word)

word_read : (number column w : ℕ) (f : List ℕ) (z : ℤ) → IsField f z → FitsBits w z → word_in number column w f ≡ Ok z
unfolding word_in
word_read number column w f z is fits = rw (field_read f z is) (rw (fits_word w z fits) refl)

-- ---- records

one_more : (w : ℕ) (ws f : List ℕ) (fs : List (List ℕ)) (z : ℤ) (zs : List ℤ) → IsField f z → FitsBits w z →
    IsRecordOf ws fs zs → IsRecordOf (w ∷ ws) (f ∷ fs) (z ∷ zs)
one_more w ws f fs z zs is fits later =
    record {
      fields_count = ap suc later.fields_count;
      words_count = ap suc later.words_count;
      are_fields =
          each;
      fit = go;
    }
  where
    each : (j : ℕ) → j < length (w ∷ ws) → IsField (get_or (f ∷ fs) j []) (get_or (z ∷ zs) j (pos 0))
    each zero below = is
    each (suc j) below = later.are_fields j (omega arith)

    go : (j : ℕ) → j < length (w ∷ ws) → FitsBits (get_or (w ∷ ws) j 0) (get_or (z ∷ zs) j (pos 0))
    go zero below = fits
    go (suc j) below = later.fit j (omega arith)

one_less : (w : ℕ) (ws f : List ℕ) (fs : List (List ℕ)) (z : ℤ) (zs : List ℤ) →
    IsRecordOf (w ∷ ws) (f ∷ fs) (z ∷ zs) → IsRecordOf ws fs zs
one_less w ws f fs z zs r =
    let fields_count = r.fields_count in
    let words_count = r.words_count in
    record {
      fields_count = omega arith;
      words_count = omega arith;
      are_fields = λ j below. r.are_fields (suc j) (omega arith);
      fit = λ j below. r.fit (suc j) (omega arith);
    }

words_are : (number column : ℕ) (widths : List ℕ) (fields : List (List ℕ)) (words : List ℤ) →
    length fields ≡ length widths
    → words_in number column widths fields ≡ Ok words → IsRecordOf widths fields words
unfolding words_in
words_are number column [] fields words same h =
    let none : words ≡ [] = cc in
    record {
      fields_count = same;
      words_count = rw none refl;
      are_fields =
          λ j below. absurd (omega arith);
      fit = λ j below. absurd (omega arith);
    }
words_are number column (w ∷ ws) [] words same h = absurd (omega arith)
words_are number column (w ∷ ws) (f ∷ fs) words same h =
    let (z, word, later) = bind_ok (word_in number column w f) (λ z.
    words_in number (column + 1) ws fs >>= λ zs. Ok (z ∷ zs)) words h in
    let (zs, rest, all) = bind_ok (words_in number (column + 1) ws fs) (λ zs. Ok (z ∷ zs)) words later in
    let is : z ∷ zs ≡ words = cc in
    let here = word_is number column w f z word in
    let P : List ℤ → Type 0 = λ l. IsRecordOf (w ∷ ws) (f ∷ fs) l in
    subst P is (one_more w ws f fs z zs here.0 here.1 (words_are number (column + 1) ws fs zs (omega arith) rest))

words_read : (number column : ℕ) (widths : List ℕ) (fields : List (List ℕ)) (words : List ℤ) →
    IsRecordOf widths fields words
    → words_in number column widths fields ≡ Ok words
unfolding words_in
words_read number column [] [] [] r = refl
words_read number column [] (f ∷ fs) words r = absurd (let count = r.fields_count in omega arith)
words_read number column [] [] (z ∷ zs) r = absurd (let count = r.words_count in omega arith)
words_read number column (w ∷ ws) [] words r = absurd (let count = r.fields_count in omega arith)
words_read number column (w ∷ ws) (f ∷ fs) [] r = absurd (let count = r.words_count in omega arith)
words_read number column (w ∷ ws) (f ∷ fs) (z ∷ zs) r =
    let here = word_read number column w f z (r.are_fields 0 (omega arith)) (r.fit 0 (omega arith)) in
    let later = words_read number (column + 1) ws fs zs (one_less w ws f fs z zs r) in
    rw (here, later) refl

-- the words of a record with as many fields as inputs are a moment
pub is_moment : (p : Code) (number : ℕ) (fields : List (List ℕ)) (words : List ℤ) → length fields ≡ length p.inputs
    → words_in number 1 p.inputs fields ≡ Ok words → IsMoment p words
is_moment p number fields words same h =
    let all = words_are number 1 p.inputs fields words same h in
    record { count = all.words_count; fits = all.fit }

moment_is : (number : ℕ) (widths : List ℕ) (fields : List (List ℕ)) (words : List ℤ) →
    moment_in number widths fields ≡ Ok words → IsRecordOf widths fields words
unfolding moment_in
moment_is number widths fields words h =
    let (same, read) = step_ok (length fields == length widths) (words_in number 1 widths fields) words
    (Columns number (length fields) (length widths)) h in
    words_are number 1 widths fields words (eqb-true (length fields) (length widths) same) read

pub moment_read : (number : ℕ) (widths : List ℕ) (fields : List (List ℕ)) (words : List ℤ) →
    IsRecordOf widths fields words → moment_in number widths fields ≡ Ok words
unfolding moment_in
moment_read number widths fields words r =
    let same : (length fields == length widths) ≡ true = eq-eqb (length fields) (length widths) r.fields_count in
    rw same (words_read number 1 widths fields words r)

-- ---- samples

moments_are : (number : ℕ) (widths : List ℕ) (rows : List (List (List ℕ))) (list : List (List ℤ)) →
    moments_in number widths rows ≡ Ok list → AllZip (IsRecordOf widths) rows list
unfolding moments_in
moments_are number widths [] list h = let none : list ≡ [] = cc in rw none tt
moments_are number widths (fields ∷ rest) list h =
    let (words, here, later) =
    bind_ok (moment_in number widths fields) (λ words. moments_in (number + 1) widths rest >>= λ moments.
    Ok (words ∷ moments)) list h in
    let (moments, all, whole) =
    bind_ok (moments_in (number + 1) widths rest) (λ moments. Ok (words ∷ moments)) list later in
    let is : words ∷ moments ≡ list = cc in
    let P : List (List ℤ) → Type 0 = λ l. AllZip (IsRecordOf widths) (fields ∷ rest) l in
    subst P is (moment_is number widths fields words here, moments_are (number + 1) widths rest moments all)

moments_read : (number : ℕ) (widths : List ℕ) (rows : List (List (List ℕ))) (list : List (List ℤ)) →
    AllZip (IsRecordOf widths) rows list → moments_in number widths rows ≡ Ok list
unfolding moments_in
moments_read number widths [] [] h = refl
moments_read number widths [] (m ∷ ms) h = absurd h
moments_read number widths (fields ∷ rest) [] h = absurd h
moments_read number widths (fields ∷ rest) (words ∷ list) h =
    let here = moment_read number widths fields words h.0 in
    let later = moments_read (number + 1) widths rest list h.1 in
    rw (here, later) refl

pub read_exactly : SamplesLaw
read_exactly widths bytes list =
    let rows = records default_config (strip_bom bytes) in
    (moments_are 1 widths rows list, moments_read 1 widths rows list)
