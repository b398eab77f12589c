-- What is made of a candidate that passes is the program and the certificate of the answer.
use Rattle.std.proofs.Common.{◌≡◌, ◌∙◌, inl, inr, ℕ, zero, suc, ◌+◌, ◌-◌, ◌^◌, ◌<◌, ◌≤◌, List, [], ◌∷◌}
use Rattle.std.proofs.Common.{length, Result, Ok, Err, refl, sym, ap, ap₂, subst, arith, slice_index_or}
use Rattle.std.proofs.Math.IntN.{ℤ, pos}
use Rattle.std.specs.Int.Signed.{◌≤ℤ◌}
use Rattle.std.proofs.Common.{IfOk}
use Rattle.std.proofs.lemmas.Bool.{cases_lt, cond-true, cond-false, lt-ltb, le-ltb}
use Rattle.std.proofs.lemmas.Int.{ints}
use Rattle.std.proofs.lemmas.Nat.{pow_pos}
use Rattle.std.proofs.lemmas.List.{ext_get_or, length-map, get_or-map}
use Rattle.std.proofs.lemmas.List.Elements.{All-get_or}
use Rattle.fx_math.specs.Sums.{joined}
use Rattle.fx_math.specs.declared.words.TheConstants.{LEAST_WIDTH}
use Rattle.fx_msb.specs.Widths.{IsBound, IsLeastWidth}
use Rattle.fx_files.specs.Filter.{Filter}
use Rattle.fx_keys.specs.declared.fault.FilterFault.{FilterFault}
use Rattle.fx_code.specs.Code.{BareRow, Code, Row, bare, no_row, row_at}
use Rattle.fx_code.specs.Fits.{CodeFits, RowFits}
use Rattle.fx_code.specs.NetRows.{bare_at}
use Rattle.fx_cert.specs.Certificate.{Certificate, CertificateFits}
use Rattle.fx_block.specs.Candidate.{candidate_count, candidate_total, inner_count}
use Rattle.fx_block.specs.Formats.{input_at}
use Rattle.fx_block.specs.Made.{IsCertificateOf, IsProgramOf}
use Rattle.fx_quant.specs.Design.{sized}
use Rattle.fx_make.specs.Candidates.{Candidate, Passing}
use Rattle.fx_block.proofs.Places.{listed_at, listed_length}
use Rattle.fx_make.specs.Made.{IsFoundIn, IsMadeOf, found}
use Rattle.fx_make.specs.Search.{Progress}
use Rattle.fx_make.specs.Search.Progress.{AllFailed, Found}
use Rattle.fx_make.specs.declared.answer.Made.{Made}
use Rattle.fx_make.specs.declared.fail.Failed.{Failed}
use Rattle.fx_make.specs.declared.refusal.StructureFault.{StructureFault}
use Rattle.fx_findings.specs.Designs.{no_design_lines}
use Rattle.fx_findings.specs.Structures.{structure_fault_line}
use Rattle.fx_tool.specs.Answer.{Answer, WhereDone, says}
use Rattle.fx_tool.specs.Make.{design_placed, files_of, made_answer, made_of_bytes, of_found, placed_for}
use Rattle.fx_tool.specs.Make.{HoldsOf, IsServed, Serves}
use Rattle.fx_tool.specs.declared.status.Status.TheVariants.{Done, NoDesign, Unbuildable}
use Rattle.fx_tool.specs.Made.{first_width, least_width, made_certificate, made_program, made_width}

-- a list is that of its entries
module _ {A : Type 0} where
  is_listed : (d : A) (xs : List A) (n : ℕ) (g : ℕ → A) → length xs ≡ n →
      ((i : ℕ) → i < n → slice_index_or xs i d ≡ g i) → xs ≡ joined n (λ i. g i ∷ [])
  is_listed d xs n g count each =
      ext_get_or d xs (joined n (λ i. g i ∷ [])) (count ∙ sym (listed_length n g))
      (λ i h. (let l : i < n = omega (arith, h, count) in each i l ∙ sym (listed_at n g i d l)))

-- the least width is the first that serves
first_is : (n width x w : ℕ) → IsLeastWidth (pos x) w → LEAST_WIDTH ≤ width → width ≤ w → w ≤ width + n →
    w ≡ first_width n width x
first_is zero width x w h low from to = omega (arith, from, to)
first_is (suc n) width x w h low from to = elim (cases_lt x (2 ^ (width - 1))) [
  | inl takes ↦ (let least = h.least width low (omega (arith, ints, takes)) in
      let same : w ≡ width = omega (arith, least, from) in
      same ∙ sym (cond-true _ _ _ (lt-ltb x (2 ^ (width - 1)) takes)))
  | inr not ↦ elim (cases_lt width w) [
    | inl later ↦ first_is n (width + 1) x w h (omega (arith, low)) (omega (arith, later)) (omega (arith, to))
        ∙ sym (cond-false _ _ _ (le-ltb _ _ not))
    | inr here ↦ (let same : w ≡ width = omega (arith, here, from) in
        let fits : pos x ≤ℤ pos (2 ^ (width - 1) - 1) = subst (λ v. pos x ≤ℤ pos (2 ^ (v - 1) - 1)) same h.fits in
        let some : 0 < 2 ^ (width - 1) = pow_pos (width - 1) in
        absurd (omega (arith, ints, fits, not, some)))
  ]
]

least_is : (x w : ℕ) → IsLeastWidth (pos x) w → w ≤ 32 → w ≡ least_width x
unfolding least_width
least_is x w h high = first_is 31 LEAST_WIDTH x w h (omega arith) h.low (omega (arith, high))

-- ---- the program

width_is : (f : Filter) (p : Passing) (q : Code) (i : ℕ) → CodeFits q → IsProgramOf f p.design.rows p.bounds q →
    i < length p.design.rows → length q.rows ≡ length p.design.rows →
    length f.outputs ≤ length p.design.rows → (row_at q i).width ≡ made_width f p i
width_is f p q i fits is l count out = elim (cases_lt i (inner_count f p.design.rows)) [
  | inl inner ↦ (
      let fit = All-get_or (RowFits q.accumulator) q.rows i no_row
      (omega (arith, l, count)) fits.rows in
      least_is (p.bounds i) (row_at q i).width (is.inner_widths i inner) (omega (arith, fit.width.high))
      ∙ sym (cond-true _ _ _ (lt-ltb i (inner_count f p.design.rows) inner)))
  | inr last ↦ (
      let o : ℕ = i - inner_count f p.design.rows in
      let place : inner_count f p.design.rows + o ≡ i = omega (arith, last) in
      let within : o < length f.outputs = omega (arith, last, l, out) in
      ap (λ k. (row_at q k).width) (sym place) ∙ is.output_widths o within
      ∙ sym (cond-false _ _ _ (le-ltb i (inner_count f p.design.rows) last)))
]

row_is : (f : Filter) (p : Passing) (q : Code) (i : ℕ) → CodeFits q → IsProgramOf f p.design.rows p.bounds q →
    i < length p.design.rows → length q.rows ≡ length p.design.rows → length f.outputs ≤ length p.design.rows →
    row_at q i ≡ sized (made_width f p i) (bare_at p.design.rows i)
row_is f p q i fits is l count out =
    let same : bare (row_at q i) ≡ bare_at p.design.rows i =
    sym (get_or-map bare q.rows i _ _ (omega (arith, l, count)))
    ∙ ap (λ (rows : List BareRow). bare_at rows i) is.rows_are in
    ap₂ (λ (w : ℕ) (b : BareRow). sized w b) (width_is f p q i fits is l count out) same

-- no more rows are put out than there are
few_outputs : (f : Filter) (p : Passing) (q : Code) → CodeFits q → IsProgramOf f p.design.rows p.bounds q →
    length q.rows ≡ length p.design.rows → length f.outputs ≤ length p.design.rows
few_outputs f p q fits is count = elim (cases_lt (length p.design.rows) (length f.outputs)) [
  | inl more ↦ (
      let o = length p.design.rows in
      let there = All-get_or (λ row. row < length q.rows) q.outputs o 0 (omega (arith, more, is.outputs))
      fits.outputs in
      let place = is.places o more in
      absurd (omega (arith, there, place, count)))
  | inr few ↦ few
]

pub program_is : (f : Filter) (p : Passing) (q : Code) → CodeFits q → IsProgramOf f p.design.rows p.bounds q →
    q ≡ made_program f p
program_is f p q fits is =
    let inputs = is_listed 0 q.inputs (length f.inputs) (λ j. (input_at f j).width) is.inputs is.input_widths in
    let outputs = is_listed 0 q.outputs (length f.outputs) (λ o. inner_count f p.design.rows + o) is.outputs
    is.places in
    let count : length q.rows ≡ length p.design.rows =
    sym (length-map q.rows bare) ∙ ap (λ (rows : List BareRow). length rows) is.rows_are in
    let out = few_outputs f p q fits is count in
    let rows = is_listed no_row q.rows (length p.design.rows)
    (λ i. sized (made_width f p i) (bare_at p.design.rows i)) count (λ i l. row_is f p q i fits is l count out) in
    ap₂ (λ (a : ℕ) (xs : List ℕ). record { accumulator = a; inputs = xs; rows = q.rows; outputs = q.outputs })
    is.accumulator inputs
    ∙ ap₂ (λ (rs : List Row) (os : List ℕ). record {
      accumulator = f.settings.accumulator;
      inputs = (made_program f p).inputs;
      rows = rs;
      outputs = os;
    }) rows outputs

-- ---- the certificate

pub certificate_is : (f : Filter) (moments : ℕ) (p : Passing) (c : Certificate) → CertificateFits c →
    IsCertificateOf f p.design.rows moments p.bounds c → c ≡ made_certificate f moments p
certificate_is f moments p c fits is =
    let bounds = is_listed (pos 0) c.bounds (candidate_count f p.design.rows) (λ j. pos (p.bounds j)) is.bound_count
    (λ j l. (let here = All-get_or IsBound c.bounds j (pos 0) (omega (arith, l, is.bound_count)) fits.bounds in
    let same = is.bounds j in omega (arith, ints, here.low, same))) in
    let errors = is_listed (pos 0) c.errors (length f.outputs)
    (λ o. candidate_total f p.design.rows moments p.bounds o) is.error_count is.errors in
    ap (λ (l : ℕ). record { length = l; bounds = c.bounds; errors = c.errors }) is.length_is
    ∙ ap₂ (λ (b e : List ℤ). record { length = moments; bounds = b; errors = e }) bounds errors

-- ---- what is said of what was made is what is said of the candidate

pub said_of_made : {X : Type 0} (say : ℕ → ℕ → ℕ → Code → Certificate → X) (f : Filter) (c : Candidate) (p : Passing)
    (m : Made) → IsMadeOf f c p m → CodeFits m.program → CertificateFits m.cert →
    say c.guard c.fraction c.length (made_program f p) (made_certificate f c.length p)
    ≡ say m.guard m.fraction m.length m.program m.cert
said_of_made say f c p m is fits fit =
    let program = program_is f p m.program fits is.program in
    let certificate = certificate_is f c.length p m.cert fit is.certificate in
    sym (ap₂ (λ (g r : ℕ). say g r m.length m.program m.cert) is.guard is.fraction
    ∙ ap (λ (l : ℕ). say c.guard c.fraction l m.program m.cert) is.length
    ∙ ap₂ (λ (q : Code) (k : Certificate). say c.guard c.fraction c.length q k) program certificate)

-- of a search that found it
pub found_is : (f : Filter) (tell : Candidate → Passing → Answer) (m : Made) (answer : Answer) →
    ((c : Candidate) (p : Passing) → IsMadeOf f c p m → tell c p ≡ answer) → (r : Result Progress StructureFault) →
    IsFoundIn f m r → of_found tell r ≡ answer
found_is f tell m answer each (Ok (AllFailed fails)) h = absurd h
found_is f tell m answer each (Ok (Found c p)) h = each c p h
found_is f tell m answer each (Err why) h = absurd h

-- and what holds of it
pub found_holds : (f : Filter) (P : Code → Certificate → Type 0) (m : Made) (r : Result Progress StructureFault) →
    IsFoundIn f m r → CodeFits m.program → CertificateFits m.cert → P m.program m.cert → (c : Candidate) (p : Passing) →
    r ≡ Ok (Found c p) → HoldsOf f P c p
found_holds f P m (Ok (AllFailed fails)) h fits fit holds c p e = absurd h
found_holds f P m (Err why) h fits fit holds c p e = absurd h
found_holds f P m (Ok (Found d o)) h fits fit holds c p e =
    let made : P (made_program f o) (made_certificate f d.length o) =
    subst (λ (k : Certificate). P (made_program f o) k) (certificate_is f d.length o m.cert fit h.certificate)
    (subst (λ (q : Code). P q m.cert) (program_is f o m.program fits h.program) holds) in
    let first : HoldsOf f P d o = record { least = h.least; made = made } in
    let found : Found d o ≡ Found c p = cc in
    found_same d c o p found first
  where
    found_same : (d c : Candidate) (o p : Passing) → Found d o ≡ Found c p → HoldsOf f P d o → HoldsOf f P c p
    found_same d c o p e h =
        let candidate : d ≡ c = cc in
        let passing : o ≡ p = cc in
        subst (λ (c : Candidate). HoldsOf f P c p) candidate (subst (λ (p : Passing). HoldsOf f P d p) passing h)

-- ---- where the answer is 0

-- the first candidate that passes
pub record IsFirst (f : Filter) (tell : Candidate → Passing → Answer) (answer : Answer) : Type 0 where
  pub candidate : Candidate
  pub passing : Passing
  pub first : found f ≡ Ok (Found candidate passing)
  pub same : answer ≡ tell candidate passing

pub search_done : (f : Filter) (tell : Candidate → Passing → Answer) (r : Result Progress StructureFault) →
    found f ≡ r → (of_found tell r).status ≡ Done → IsFirst f tell (of_found tell r)
search_done f tell (Ok (AllFailed fails)) e h = cc
search_done f tell (Ok (Found c p)) e h = record { candidate = c; passing = p; first = e; same = refl }
search_done f tell (Err why) e h = cc

-- ---- the answer of `make`

pub answer_is_made : (f : Filter) (m : Made) → IsFoundIn f m (found f) → CodeFits m.program →
    CertificateFits m.cert → made_answer f ≡ files_of m
unfolding made_answer
answer_is_made f m h fits fit =
    found_is f (λ c p. placed_for f c p) m (files_of m) (λ c p is. said_of_made design_placed f c p m is fits fit)
    (found f) h

pub answer_is_none : (f : Filter) (fails : List Failed) → found f ≡ Ok (AllFailed fails) →
    made_answer f ≡ says NoDesign (no_design_lines fails)
unfolding made_answer
answer_is_none f fails e = ap (of_found (λ c p. placed_for f c p)) e

pub answer_is_unbuildable : (f : Filter) (why : StructureFault) → found f ≡ Err why →
    made_answer f ≡ says Unbuildable (structure_fault_line why)
unfolding made_answer
answer_is_unbuildable f why e = ap (of_found (λ c p. placed_for f c p)) e

made_done : (f : Filter) → (made_answer f).status ≡ Done → IsFirst f (λ c p. placed_for f c p) (made_answer f)
unfolding made_answer
made_done f h = search_done f (λ c p. placed_for f c p) (found f) refl h

-- the filter that is read, and its first candidate that passes
pub record IsMade (r : Result Filter FilterFault) (answer : Answer) : Type 0 where
  pub filter : Filter
  pub read : r ≡ Ok filter
  pub made : IsFirst filter (λ c p. placed_for filter c p) answer

pub read_done : (r : Result Filter FilterFault) → (made_of_bytes r).status ≡ Done → IsMade r (made_of_bytes r)
read_done (Ok f) h = record { filter = f; read = refl; made = made_done f h }
read_done (Err fault) h = cc

pub made_serves : (f : Filter) (m : Made) → IsFoundIn f m (found f) → CodeFits m.program → CertificateFits m.cert →
    Serves f m.program m.cert → IsServed f
made_serves f m h fits fit serves = found_holds f (λ q k. Serves f q k) m (found f) h fits fit serves

pub where_short : {E : Type 0} (result : Result Answer E) (S P : Type 0) → IfOk result (λ _. S) → (S → P) →
    WhereDone result P
where_short (Ok a) S P s f = λ _. f s
where_short (Err e) S P s f = tt
