-- A program that a text spells is read from it.
use Rattle.std.proofs.Common.{◌≡◌, ◌≤◌, ◌<◌, ◌+◌, ◌∙◌, ◌==◌, ℕ, zero, suc, Bool, true, false, cond, List}
use Rattle.std.proofs.Common.{[], ◌∷◌, ◌++◌, codes, length, drop, All, Option, None, Result, Ok, Err, refl, sym}
use Rattle.std.proofs.Common.{ap, subst, append_assoc, length-append, slice_index_or, arith}
use Rattle.std.proofs.lemmas.Bool.{eq-eqb, lt-leb}
use Rattle.std.proofs.lemmas.Bool.Decides.{Decides-eqb}
use Rattle.std.proofs.lemmas.List.{append-nil, drop_at}
use Rattle.std.proofs.lemmas.List.Elements.{All-head, All-tail, All-get_or}
use Rattle.std.proofs.lemmas.List.Sums.{sum_by-append}
use Rattle.std.proofs.lemmas.Slice.Eq.{starts_is}
use Rattle.std.proofs.Math.Seq.{get_or-append_seam}
use Rattle.std.specs.List.{starts_with, list_any}
use Rattle.std.specs.Prelude.{nat_eq}
use Rattle.fx_code.specs.Code.{Row, Code, IsWhole, OldIsThere, constant_of, no_row, row_at}
use Rattle.fx_code.specs.Fits.{TermFits, RowFits, SourceFits, ReadsFit, CodeFits}
use Rattle.fx_math.specs.Words.{WidthFits}
use Rattle.fx_code.specs.Limits.{same_source, start_fault, row_fault, output_fault, term_count}
use Rattle.fx_code.specs.declared.term.CodeTerm.{CodeTerm}
use Rattle.fx_code.specs.declared.term.Read.{Read}
use Rattle.fx_code.specs.declared.term.Read.TheVariants.{Now, Old, In}
use Rattle.fx_code.specs.declared.fault.ProgramFault.{ProgramFault}
use Rattle.fx_text.specs.declared.fault.CodeFault.{CodeFault}
use Rattle.fx_text.specs.declared.parts.Head.{Head}
use Rattle.fx_text.specs.declared.term.Place.{Place}
use Rattle.fx_text.specs.declared.term.Store.{Store}
use Rattle.fx_text.specs.Tokens.{Lexeme, sign, HasLexemes, row_letter, old_letter}
use Rattle.fx_text.specs.Grammar.{row_name, old_name, SpellsTerms, SpellsRow, SpellsRows, inputs_tokens}
use Rattle.fx_text.specs.Grammar.{outputs_tokens, keeps_tokens, last_tokens, Spells, first_line}
use Rattle.fx_text.specs.TokenReading.{repeated, front_fault, first_line_at}
use Rattle.fx_text.specs.Reading.{head_at, input_at, is_ahead, term_at, statement_at, constant_at, store_at}
use Rattle.fx_text.specs.Reading.{output_at, end_at, input_more, terms_at, place_of, unless_fault, row_more}
use Rattle.fx_text.specs.Reading.{output_more, keep_more, body_at, code_in}
use Rattle.fx_text.proofs.TermTurns.{terms_law}
use Rattle.fx_text.proofs.TokenLaws.{After, after_bind, after_ok, expect_again}
use Rattle.fx_text.proofs.NumberLaws.{due_again}
use Rattle.fx_text.proofs.PartLaws.{HeadFits, head_again, input_again, IsBelow, SourcePasses, TermPasses}
use Rattle.fx_text.proofs.PartLaws.{term_again, statement_of_term, statement_of_store, constant_small}
use Rattle.fx_text.proofs.PartLaws.{constant_again, stored, store_again, output_again, end_read}
use Rattle.fx_code.proofs.Fitting.{ReadOnce, distinct_once, start_passes, row_passes, output_passes}

-- ---- steps

one_more : {S : Type 0} (step : S → Result S CodeFault) (k : ℕ) (s t u : S) → step s ≡ Ok t →
    repeated k step t ≡ Ok u → repeated (suc k) step s ≡ Ok u
one_more step k s t u first rest = rw first rest

-- ---- inputs

input_stepped : (text ws : List ℕ) (w at e : ℕ) → input_at (length ws) text at ≡ Ok (w, e) →
    input_more text (ws, at) ≡ Ok (ws ++ w ∷ [], e)
unfolding input_more
input_stepped text ws w at e is = rw is refl

inputs_again : (ws more : List ℕ) (text : List ℕ) (at : ℕ) (ts : List Lexeme) → length ws + length more ≤ 40 →
    All WidthFits more → HasLexemes (drop at text) (inputs_tokens (length ws) more ts) →
    After (repeated (length more) (input_more text) (ws, at)) (λ e. (ws ++ more, e)) text ts
inputs_again ws [] text at ts few fits h =
    record { place = at; is = ap (λ (x : List ℕ). Ok (x, at)) (sym (append-nil ws)); has = h }
inputs_again ws (w ∷ more) text at ts few fits h =
    let here = All-head WidthFits w more fits in
    let longer = length-append ws (w ∷ []) in
    let first = input_again (length ws) w text at (inputs_tokens (length ws + 1) more ts) (omega arith)
    here.low here.high h in
    let has : HasLexemes (drop first.place text) (inputs_tokens (length (ws ++ w ∷ [])) more ts) =
    subst (λ (n : ℕ). HasLexemes (drop first.place text) (inputs_tokens n more ts)) (sym longer) first.has in
    let rest = inputs_again (ws ++ w ∷ []) more text first.place ts (omega arith)
    (All-tail WidthFits w more fits) has in
    let all = one_more (input_more text) (length more) (ws, at) (
      ws ++ w ∷ [],
      first.place,
    ) _ (input_stepped text ws w at first.place first.is) rest.is in
    record {
      place = rest.place;
      is =
          all ∙ ap (λ (x : List ℕ). Ok (x, rest.place)) (append_assoc ws (w ∷ []) more);
      has = rest.has;
    }

-- ---- terms

-- the terms pass, one behind the other
abbrev TermsPass : Place → List CodeTerm → List CodeTerm → Type 0
TermsPass place earlier [] = Unit {0}
TermsPass place earlier (t ∷ ts) = TermPasses place earlier t × TermsPass place (earlier ++ t ∷ []) ts

-- what follows the beginning of a term
term_stepped : (place : Place) (earlier : List CodeTerm) (t : CodeTerm) (text : List ℕ) (at b e : ℕ)
    (made : List CodeTerm × ℕ) → statement_at place.row text at ≡ Ok (true, b) →
    term_at place earlier text b ≡ Ok (t, e) → terms_at place (earlier ++ t ∷ []) text e ≡ Ok made
    → terms_at place earlier text at ≡ Ok made
term_stepped place earlier t text at b e made statement term rest =
    terms_law place earlier text at ∙ rw (statement, term) rest

store_stepped : (place : Place) (earlier : List CodeTerm) (text : List ℕ) (at b : ℕ) →
    statement_at place.row text at ≡ Ok (false, b) → terms_at place earlier text at ≡ Ok (earlier, b)
store_stepped place earlier text at b statement = terms_law place earlier text at ∙ rw statement refl

terms_again : (place : Place) (earlier more : List CodeTerm) (text : List ℕ) (at : ℕ)
    (tokens ts : List Lexeme) → place.row < 40 → place.rows ≤ 40 → place.inputs ≤ 4 →
    TermsPass place earlier more → SpellsTerms more tokens (row_name place.row ∷ ts)
    → HasLexemes (drop at text) tokens → After (terms_at place earlier text at) (λ e. (earlier ++ more, e)) text ts
terms_again place earlier [] text at tokens ts row rows inputs passes spells h =
    let has = rw spells at h in
    let s = statement_of_store place.row text at ts row has in
    record {
      place = s.place;
      is = store_stepped place earlier text at s.place s.is
          ∙ ap (λ (x : List CodeTerm). Ok (x, s.place)) (sym (append-nil earlier));
      has = s.has;
    }
terms_again place earlier (t ∷ more) text at tokens ts row rows inputs passes spells h =
    let (mid, term, rest_spells) = spells in
    let has = rw term.begins at h in
    let s = statement_of_term place.row text at _ has in
    let one = term_again place earlier t text s.place term.factors mid rows inputs passes.0 term.coefficient s.has in
    let rest = terms_again place (earlier ++ t ∷ []) more text one.place mid ts row rows inputs passes.1
    rest_spells one.has in
    record {
      place = rest.place;
      is =
          term_stepped place earlier t text at s.place one.place _ s.is one.is rest.is
          ∙ ap (λ (x : List CodeTerm). Ok (x, rest.place)) (append_assoc earlier (t ∷ []) more);
      has = rest.has;
    }

source_may : (row rows inputs : ℕ) (earlier : List CodeTerm) (t : CodeTerm) → row < rows →
    SourceFits row inputs t.from → OldIsThere rows t.from →
    list_any (λ (e : CodeTerm). same_source e.from t.from) earlier ≡ false →
    SourcePasses (record { row = row; rows = rows; inputs = inputs }) earlier t.from
source_may row rows inputs earlier t below source there once =
    record { near = near t.from source; once = once; below = within t.from source there }
  where
    near : (from : Read) → SourceFits row inputs from → is_ahead row from ≡ false
    near (Now i) h = lt-leb row i h
    near (Old i) h = refl
    near (In j) h = refl

    within : (from : Read) → SourceFits row inputs from → OldIsThere rows from →
        IsBelow (record { row = row; rows = rows; inputs = inputs }) from
    within (Now i) h old = omega arith
    within (Old i) h old = old
    within (In j) h old = h

terms_may : (row rows inputs shift : ℕ) (earlier ts : List CodeTerm) → row < rows → All (TermFits shift) ts →
    All (λ (t : CodeTerm). SourceFits row inputs t.from) ts →
    All (λ (t : CodeTerm). OldIsThere rows t.from) ts → ReadOnce earlier ts →
    TermsPass (record { row = row; rows = rows; inputs = inputs }) earlier ts
terms_may row rows inputs shift earlier [] below fits sources there once = tt
terms_may row rows inputs shift earlier (t ∷ ts) below fits sources there once =
    let here = All-head (TermFits shift) t ts fits in (
      record {
        source = source_may row rows inputs earlier t below
            (All-head (λ (x : CodeTerm). SourceFits row inputs x.from) t ts sources)
            (All-head (λ (x : CodeTerm). OldIsThere rows x.from) t ts there) once.0;
        left =
            here.left;
        coefficient = here.coefficient;
      },
      terms_may row rows inputs shift (earlier ++ t ∷ []) ts below (All-tail (TermFits shift) t ts fits)
          (All-tail (λ (x : CodeTerm). SourceFits row inputs x.from) t ts sources)
          (All-tail (λ (x : CodeTerm). OldIsThere rows x.from) t ts there) once.1,
    )

-- ---- rows

-- the program with one more row
abbrev row_on : Code → Row → Code
row_on p row = record p { rows = p.rows ++ row ∷ [] }

-- a row that a program may have behind the others, of so many in all
record RowMay (rows : ℕ) (p : Code) (row : Row) : Type 0 where
  below : length p.rows < rows
  rows_high : rows ≤ 40
  inputs_high : length p.inputs ≤ 4
  wide : 16 ≤ p.accumulator
  fits : RowFits p.accumulator row
  reads : ReadsFit (length p.rows) (length p.inputs) row
  there : All (λ (t : CodeTerm). OldIsThere rows t.from) row.own.terms
  terms : term_count p.rows + length row.own.terms ≤ 624

unless_none : {A : Type 0} (o : Option ProgramFault) (x : A) → o ≡ None → unless_fault o x ≡ Ok x
unless_none o x e = rw e refl

-- the store of a row
abbrev store_of : Row → Store
store_of row = record { mode = row.own.mode; shift = row.own.shift; width = row.width }

row_stepped : (rows : ℕ) (p : Code) (row : Row) (text : List ℕ) (at a b c : ℕ) →
    constant_at text at ≡ Ok (constant_of row.own, a) →
    terms_at (place_of rows p) [] text a ≡ Ok (row.own.terms, b) →
    store_at p.accumulator text b ≡ Ok (store_of row, c) → row_fault p row ≡ None
    → row_more rows text (p, at) ≡ Ok (row_on p row, c)
unfolding row_more
row_stepped rows p row text at a b c constant terms store passes =
    let same : (constant_of row.own == constant_of row.own) ≡ true =
    eq-eqb (constant_of row.own) (constant_of row.own) refl in
    rw (constant, terms, store, unless_none (row_fault p row) (row_on p row) passes, same) refl

row_again : (rows : ℕ) (p : Code) (row : Row) (text : List ℕ) (at : ℕ) (tokens ts : List Lexeme) →
    RowMay rows p row → SpellsRow (length p.rows) row tokens ts → HasLexemes (drop at text) tokens →
    After (row_more rows text (p, at)) (λ e. (row_on p row, e)) text ts
row_again rows p row text at tokens ts may spells h =
    let has = rw spells.constant at h in
    let constant = constant_again text at (constant_of row.own) spells.terms
    (constant_small row.own.mode row.own.shift may.fits.shift_high) has in
    let pass = terms_may (length p.rows) rows (length p.inputs) row.own.shift [] row.own.terms may.below
    may.fits.terms may.reads.sources may.there (distinct_once row.own.terms may.reads.once) in
    let terms = terms_again (place_of rows p) [] row.own.terms text constant.place spells.terms
    (stored (store_of row) ts) (omega (arith, may.below, may.rows_high)) may.rows_high may.inputs_high
    pass spells.each constant.has in
    let store = store_again p.accumulator (store_of row) text terms.place ts
    (omega (arith, may.fits.shift_high, may.fits.shift_kept)) may.fits.width.low
    (omega (arith, may.fits.width.high, may.fits.width_kept)) terms.has in
    let passes = row_passes p row (omega (arith, may.below, may.rows_high)) may.wide may.fits may.reads may.terms in
    record {
      place = store.place;
      is =
          row_stepped rows p row text at constant.place terms.place store.place constant.is terms.is store.is
          passes;
      has = store.has;
    }

-- the rows may come, one behind the other
abbrev RowsMay : ℕ → Code → List Row → Type 0
RowsMay rows p [] = Unit {0}
RowsMay rows p (row ∷ more) = RowMay rows p row × RowsMay rows (row_on p row) more

rows_again : (rows : ℕ) (p : Code) (more : List Row) (text : List ℕ) (at : ℕ) (tokens ts : List Lexeme) →
    RowsMay rows p more → SpellsRows (length p.rows) more tokens ts → HasLexemes (drop at text) tokens
    → After (repeated (length more) (row_more rows text) (p, at)) (λ e. (record p { rows = p.rows ++ more }, e)) text ts
rows_again rows p [] text at tokens ts may spells h =
    record {
      place = at;
      is = ap (λ (x : List Row). Ok (record p { rows = x }, at)) (sym (append-nil p.rows));
      has = rw spells at h;
    }
rows_again rows p (row ∷ more) text at tokens ts may spells h =
    let (mid, row_spells, rest_spells) = spells in
    let one = row_again rows p row text at tokens mid may.0 row_spells h in
    let longer = length-append p.rows (row ∷ []) in
    let next : SpellsRows (length (p.rows ++ row ∷ [])) more mid ts =
    subst (λ (n : ℕ). SpellsRows n more mid ts) (sym longer) rest_spells in
    let rest = rows_again rows (row_on p row) more text one.place mid ts may.1 next one.has in
    let all = one_more (row_more rows text) (length more) (p, at) (row_on p row, one.place) _ one.is rest.is in
    record {
      place = rest.place;
      is =
          all ∙ ap (λ (x : List Row). Ok (record p { rows = x }, rest.place))
          (append_assoc p.rows (row ∷ []) more);
      has = rest.has;
    }

-- the program with these rows alone, and no outputs
abbrev rows_only : Code → List Row → Code
rows_only p rows = record p { rows = rows; outputs = [] }

rows_may : (p : Code) (front more : List Row) → CodeFits p → IsWhole p → p.rows ≡ front ++ more →
    RowsMay (length p.rows) (rows_only p front) more
rows_may p front [] fits whole split = tt
rows_may p front (row ∷ more) fits whole split =
    let n = length front in
    let count : length p.rows ≡ n + suc (length more) = ap length split ∙ length-append front (row ∷ more) in
    let below : n < length p.rows = omega arith in
    let here : row_at p n ≡ row =
    ap (λ (rs : List Row). slice_index_or rs n no_row) split ∙ get_or-append_seam front row more no_row in
    let total : term_count p.rows ≡ term_count front + term_count (row ∷ more) =
    ap term_count split ∙ sum_by-append (λ (r : Row). length r.own.terms) front (row ∷ more) in
    let one : term_count (row ∷ more) ≡ 0 + length row.own.terms + term_count more =
    sum_by-append (λ (r : Row). length r.own.terms) (row ∷ []) more in
    let row_fits : RowFits p.accumulator row =
    subst (RowFits p.accumulator) here (All-get_or (RowFits p.accumulator) p.rows n _ below fits.rows) in
    let there : All (λ (t : CodeTerm). OldIsThere (length p.rows) t.from) row.own.terms =
    subst (λ (r : Row). All (λ (t : CodeTerm). OldIsThere (length p.rows) t.from) r.own.terms) here
    (All-get_or (λ (r : Row). All (λ (t : CodeTerm). OldIsThere (length p.rows) t.from) r.own.terms) p.rows n _
    below whole.reads) in (
      record {
        below = below;
        rows_high = fits.rows_high;
        inputs_high = fits.inputs_high;
        wide = fits.accumulator_low;
        fits = row_fits;
        reads = subst (ReadsFit n (length p.inputs)) here (fits.reads n below);
        there = there;
        terms = omega (arith, fits.terms, total);
      },
      rows_may p (front ++ row ∷ []) more fits whole (split ∙ sym (append_assoc front (row ∷ []) more)),
    )

-- ---- outputs

-- the program with more outputs
abbrev outputs_on : Code → List ℕ → Code
outputs_on p outputs = record p { outputs = p.outputs ++ outputs }

output_stepped : (p : Code) (i : ℕ) (text : List ℕ) (at e : ℕ) →
    output_at (length p.outputs) (length p.rows) text at ≡ Ok (i, e) → output_fault p i ≡ None →
    output_more text (p, at) ≡ Ok (outputs_on p (i ∷ []), e)
unfolding output_more
output_stepped p i text at e is passes = rw (is, unless_none (output_fault p i) (outputs_on p (i ∷ [])) passes) refl

outputs_again : (p : Code) (more : List ℕ) (text : List ℕ) (at : ℕ) (ts : List Lexeme) →
    length p.outputs + length more ≤ 4 → length p.rows ≤ 40 → All (λ i. i < length p.rows) more →
    HasLexemes (drop at text) (outputs_tokens (length p.outputs) more ts)
    → After (repeated (length more) (output_more text) (p, at)) (λ e. (outputs_on p more, e)) text ts
outputs_again p [] text at ts few rows below h =
    record {
      place = at;
      is =
          ap (λ (x : List ℕ). Ok (record p { outputs = x }, at)) (sym (append-nil p.outputs));
      has = h;
    }
outputs_again p (i ∷ more) text at ts few rows below h =
    let here = All-head (λ (x : ℕ). x < length p.rows) i more below in
    let longer = length-append p.outputs (i ∷ []) in
    let first = output_again (length p.outputs) (length p.rows) i text at
    (outputs_tokens (length p.outputs + 1) more ts) (omega arith) rows here h in
    let has : HasLexemes (drop first.place text) (outputs_tokens (length (p.outputs ++ i ∷ [])) more ts) =
    subst (λ (n : ℕ). HasLexemes (drop first.place text) (outputs_tokens n more ts)) (sym longer) first.has in
    let rest = outputs_again (outputs_on p (i ∷ [])) more text first.place ts (omega arith) rows
    (All-tail (λ (x : ℕ). x < length p.rows) i more below) has in
    let all = one_more (output_more text) (length more) (p, at) (
      outputs_on p (i ∷ []),
      first.place,
    ) _ (output_stepped p i text at first.place first.is (output_passes p i (omega arith) here))
    rest.is in
    record {
      place = rest.place;
      is =
          all ∙ ap (λ (x : List ℕ). Ok (record p { outputs = x }, rest.place))
          (append_assoc p.outputs (i ∷ []) more);
      has = rest.has;
    }

-- ---- the words that are kept

keep_again : (i : ℕ) (text : List ℕ) (at : ℕ) (ts : List Lexeme) → i < 40 →
    HasLexemes (drop at text) (old_name i ∷ sign (codes "=") ∷ row_name i ∷ sign (codes ";") ∷ ts) →
    After (keep_more text (i, at)) (λ e. (i + 1, e)) text ts
unfolding keep_more
keep_again i text at ts below h =
    after_bind _ (due_again old_letter i text at _ refl below h) (λ a k.
    after_bind _ (expect_again (sign (codes "=")) text a _ refl k) (λ b k2.
    after_bind _ (due_again row_letter i text b _ refl below k2) (λ c k3.
    after_bind _ (expect_again (sign (codes ";")) text c _ refl k3) (λ d k4.
    after_ok (λ x. (i + 1, x)) text ts d k4))))

keeps_again : (k i : ℕ) (text : List ℕ) (at : ℕ) (ts : List Lexeme) → i + k ≤ 40 →
    HasLexemes (drop at text) (keeps_tokens i k ts) →
    After (repeated k (keep_more text) (i, at)) (λ e. (i + k, e)) text ts
keeps_again zero i text at ts few h = record { place = at; is = ap (λ (n : ℕ). Ok (n, at)) (omega arith); has = h }
keeps_again (suc k) i text at ts few h =
    let one = keep_again i text at (keeps_tokens (i + 1) k ts) (omega arith) h in
    let rest = keeps_again k (i + 1) text one.place ts (omega arith) one.has in
    let all = one_more (keep_more text) k (i, at) (i + 1, one.place) _ one.is rest.is in
    record { place = rest.place; is = all ∙ ap (λ (n : ℕ). Ok (n, rest.place)) (omega arith); has = rest.has }

-- ---- the program

-- the head of a program
abbrev head_of : Code → Head
head_of p = record {
  accumulator = p.accumulator;
  inputs = length p.inputs;
  rows = length p.rows;
  outputs =
      length p.outputs;
}

rows_there : (p : Code) → CodeFits p → IsWhole p → 1 ≤ length p.rows
rows_there p fits whole =
    let some = whole.output in
    let first = All-get_or (λ (i : ℕ). i < length p.rows) p.outputs 0 0 some fits.outputs in
    omega arith

head_fits : (p : Code) → CodeFits p → IsWhole p → HeadFits (head_of p)
head_fits p fits whole = record {
  accumulator = fits.accumulator;
  accumulator_high = fits.accumulator_high;
  inputs_low = fits.inputs_low;
  inputs_high = fits.inputs_high;
  rows_low = rows_there p fits whole;
  rows_high = fits.rows_high;
  outputs_low = whole.output;
  outputs_high = fits.outputs_high;
}

body_stepped : (p : Code) (text : List ℕ) (at a b c d : ℕ) →
    repeated (length p.inputs) (input_more text) ([], at) ≡ Ok (p.inputs, a) →
    start_fault p.accumulator p.inputs ≡ None
    → repeated (length p.rows) (row_more (length p.rows) text) (rows_only p [], a)
    ≡ Ok (rows_only p p.rows, b) → repeated (length p.outputs) (output_more text) (rows_only p p.rows, b)
    ≡ Ok (p, c)
    → repeated (length p.rows) (keep_more text) (0, c) ≡ Ok (0 + length p.rows, d) → end_at text d ≡ Ok tt →
    body_at (head_of p) text at ≡ Ok p
unfolding body_at
body_stepped p text at a b c d inputs begun rows outputs kept last =
    rw (inputs, unless_none (start_fault p.accumulator p.inputs) (rows_only p []) begun, rows, outputs, kept, last) refl

body_again : (p : Code) (text : List ℕ) (at : ℕ) (tokens : List Lexeme) → CodeFits p → IsWhole p →
    SpellsRows 0 p.rows tokens (last_tokens p) → HasLexemes (drop at text) (inputs_tokens 0 p.inputs tokens) →
    body_at (head_of p) text at ≡ Ok p
body_again p text at tokens fits whole spells h =
    let inputs = inputs_again [] p.inputs text at tokens (omega (arith, fits.inputs_high)) fits.input_widths h in
    let rows = rows_again (length p.rows) (rows_only p []) p.rows text inputs.place tokens (last_tokens p)
    (rows_may p [] p.rows fits whole refl) spells inputs.has in
    let outputs = outputs_again (rows_only p p.rows) p.outputs text rows.place
    (keeps_tokens 0 (length p.rows) (sign (codes "}") ∷ [])) (omega (arith, fits.outputs_high))
    fits.rows_high fits.outputs rows.has in
    let kept = keeps_again (length p.rows) 0 text outputs.place (sign (codes "}") ∷ [])
    (omega (arith, fits.rows_high)) outputs.has in
    body_stepped p text at inputs.place rows.place outputs.place kept.place inputs.is (start_passes p fits)
    rows.is outputs.is kept.is (end_read text kept.place kept.has)

first_line_again : (text : List ℕ) → first_line_at (first_line ++ text) ≡ Ok 19
unfolding first_line_at
first_line_again text =
    let test : starts_with nat_eq (first_line ++ text) first_line ≡ true =
    (starts_is Decides-eqb (first_line ++ text) first_line
    (starts_with nat_eq (first_line ++ text) first_line) refl).1 text refl in
    ap (λ (b : Bool). cond b (Ok 19) (Err (front_fault (first_line ++ text)))) test

code_stepped : (bytes : List ℕ) (p : Code) (e : ℕ) → first_line_at bytes ≡ Ok 19 →
    head_at bytes 19 ≡ Ok (head_of p, e) → body_at (head_of p) bytes e ≡ Ok p → code_in bytes ≡ Ok p
unfolding code_in
code_stepped bytes p e first head body = rw (first, head, body) refl

pub code_again : (bytes : List ℕ) (p : Code) → Spells bytes p → code_in bytes ≡ Ok p
code_again bytes p s =
    let first : first_line_at bytes ≡ Ok 19 = ap first_line_at s.begins ∙ first_line_again s.text in
    let rest : drop 19 bytes ≡ s.text = ap (drop 19) s.begins ∙ drop_at first_line s.text 19 refl in
    let has : HasLexemes (drop 19 bytes) s.tokens = subst (λ (t : List ℕ). HasLexemes t s.tokens) (sym rest) s.has in
    let begun = subst (HasLexemes (drop 19 bytes)) s.program.begins has in
    let head = head_again bytes 19 (head_of p) (inputs_tokens 0 p.inputs s.program.rows)
    (head_fits p s.fits s.whole) begun in
    code_stepped bytes p head.place first head.is
    (body_again p bytes head.place s.program.rows s.fits s.whole s.program.each head.has)
