-- What is read as a program stands in the text, and the program meets its limits.
use Rattle.std.proofs.Common.{◌≡◌, ◌≤◌, ◌<◌, ◌+◌, ◌∙◌, ◌==◌, ℕ, zero, suc, List, [], ◌∷◌, ◌++◌, codes, length}
use Rattle.std.proofs.Common.{drop, All, Option, Some, None, refl, sym, ap, subst, append_assoc, length-append}
use Rattle.std.proofs.Common.{arith}
use Rattle.std.proofs.lemmas.Bool.{eqb-true}
use Rattle.std.proofs.lemmas.Bool.Decides.{Decides-eqb}
use Rattle.std.proofs.lemmas.List.{append-nil}
use Rattle.std.proofs.lemmas.List.Elements.{All-nil, All-cons}
use Rattle.std.proofs.lemmas.Slice.Eq.{starts_is}
use Rattle.std.specs.List.{starts_with}
use Rattle.std.specs.Prelude.{nat_eq}
use Rattle.fx_code.specs.Code.{Row, Code, IsWhole, OldIsThere, constant_in}
use Rattle.fx_code.specs.Fits.{CodeFits}
use Rattle.fx_code.specs.Limits.{start_fault, row_fault, output_fault}
use Rattle.fx_code.specs.declared.term.CodeTerm.{CodeTerm}
use Rattle.fx_code.specs.declared.fault.ProgramFault.{ProgramFault}
use Rattle.fx_text.specs.declared.parts.Head.{Head}
use Rattle.fx_text.specs.declared.term.Place.{Place}
use Rattle.fx_text.specs.Tokens.{Lexeme, name, sign, HasLexemes, row_letter, old_letter}
use Rattle.fx_text.specs.Grammar.{row_name, old_name, accumulator_name, constant_tokens, SpellsTerms, SpellsRow}
use Rattle.fx_text.specs.Grammar.{SpellsRows, inputs_tokens, outputs_tokens, keeps_tokens, last_tokens, Spells}
use Rattle.fx_text.specs.Grammar.{first_line}
use Rattle.fx_text.specs.TokenReading.{repeated, first_line_at}
use Rattle.fx_text.specs.Reading.{input_more, terms_within, place_of, unless_fault, checked_constant}
use Rattle.fx_text.specs.Reading.{row_more, stored_row, output_more, keep_more, body_at, code_in}
use Rattle.fx_text.proofs.TokenLaws.{Sound, sound_bind, sound_ok, sound_err, sound_if, Back, back_then, expect_sound}
use Rattle.fx_text.proofs.NumberLaws.{due_sound}
use Rattle.fx_text.proofs.PartLaws.{HeadFits, HeadRead, head_spelled, head_sound, input_spelled, input_sound}
use Rattle.fx_text.proofs.PartLaws.{term_sound, statement_sound, constant_sound, stored, store_sound}
use Rattle.fx_text.proofs.PartLaws.{output_spelled, output_sound, end_sound}
use Rattle.fx_code.proofs.Fitting.{start_fits, row_added, output_added}

-- ---- inputs

record InputsRead (k : ℕ) (ws : List ℕ) (text : List ℕ) (at : ℕ) (q : List ℕ × ℕ) : Type 0 where
  more : List ℕ
  is : q.0 ≡ ws ++ more
  count : length more ≡ k
  back : Back text at q.1 (inputs_tokens (length ws) more)

input_more_sound : (text ws : List ℕ) (at : ℕ) →
    Sound (input_more text (ws, at)) (λ q. (w : ℕ) × (q.0 ≡ ws ++ w ∷ [])
    × Back text at q.1 (input_spelled (length ws) w))
unfolding input_more
input_more_sound text ws at =
    sound_bind (input_sound (length ws) text at) (λ w w_back.
    sound_ok (ws ++ w.0 ∷ [], w.1) (w.0, refl, w_back))

inputs_sound : (k : ℕ) (ws text : List ℕ) (at : ℕ) →
    Sound (repeated k (input_more text) (ws, at)) (InputsRead k ws text at)
inputs_sound zero ws text at =
    sound_ok (ws, at) (record {
      more = [];
      is = sym (append-nil ws);
      count = refl;
      back =
          record { back = λ ts h. h };
    })
inputs_sound (suc k) ws text at = sound_bind (input_more_sound text ws at) (λ q first. record {
  holds = λ y e.
      let (w, is, w_back) = first in
      let r = (inputs_sound k q.0 text q.1).holds y e in
      let next : length q.0 ≡ length ws + 1 = ap length is ∙ length-append ws (w ∷ []) in
      record {
        more = w ∷ r.more;
        is = r.is ∙ ap (λ (x : List ℕ). x ++ r.more) is ∙ append_assoc ws (w ∷ []) r.more;
        count = ap suc r.count;
        back = back_then w_back (subst (λ (n : ℕ). Back text q.1 y.1 (inputs_tokens n r.more)) next r.back);
      };
})

-- ---- terms

record TermsRead (place : Place) (terms : List CodeTerm) (text : List ℕ) (at : ℕ) (r : List CodeTerm × ℕ) : Type 0 where
  more : List CodeTerm
  is : r.0 ≡ terms ++ more
  there : All (λ (t : CodeTerm). OldIsThere place.rows t.from) more
  spelled : (ts : List Lexeme) → HasLexemes (drop r.1 text) ts →
      (tokens : List Lexeme) × SpellsTerms more tokens (row_name place.row ∷ ts)
      × HasLexemes (drop at text) tokens

terms_sound : (k : ℕ) (place : Place) (terms : List CodeTerm) (text : List ℕ) (at : ℕ) → place.rows ≤ 40 →
    place.inputs ≤ 4 → Sound (terms_within k place terms text at) (TermsRead place terms text at)
unfolding terms_within
terms_sound zero place terms text at rows inputs = sound_err _
terms_sound (suc k) place terms text at rows inputs = sound_bind (statement_sound place.row text at) (λ s s_back.
    sound_if s.0 _ _ (λ is_term. sound_bind (term_sound place terms text s.1 rows inputs) (λ t t_read. record {
      holds = λ y e.
          let r = (terms_sound k place (terms ++ t.0 ∷ []) text t.1 rows inputs).holds y e in
          let begun = rw is_term at s_back in
          record {
            more = t.0 ∷ r.more;
            is = r.is ∙ append_assoc terms (t.0 ∷ []) r.more;
            there = All-cons (λ (x : CodeTerm). OldIsThere place.rows x.from) t.0 r.more t_read.there r.there;
            spelled = λ ts h.
                let (tokens, spells, has) = r.spelled ts h in
                let (factors, coefficient, has2) = t_read.spelled tokens has in (
                  accumulator_name ∷ sign (codes "+=") ∷ name (codes "MUL") ∷ sign (codes "(") ∷ factors,
                  (tokens, record { factors = factors; begins = refl; coefficient = coefficient }, spells),
                  begun.back _ has2,
                );
          };
    })) (λ is_store.
    let begun = rw is_store at s_back in
    sound_ok (terms, s.1) (record {
      more = [];
      is = sym (append-nil terms);
      there = All-nil (λ (x : CodeTerm). OldIsThere place.rows x.from);
      spelled = λ ts h. (row_name place.row ∷ ts, refl, begun.back ts h);
    })))

-- ---- rows

unless_sound : {A : Type 0} (o : Option ProgramFault) (x : A) → Sound (unless_fault o x) (λ y. (o ≡ None) × (x ≡ y))
unless_sound (Some fault) x = sound_err _
unless_sound None x = sound_ok x (refl, refl)

constant_checked : (row got wanted : ℕ) → Sound (checked_constant row got wanted) (λ _. got ≡ wanted)
constant_checked row got wanted =
    sound_if (got == wanted) _ _ (λ same. sound_ok tt (eqb-true got wanted same))
    (λ other. sound_err _)

-- the program with one more row
abbrev row_on : Code → Row → Code
row_on p row = record p { rows = p.rows ++ row ∷ [] }

record RowRead (rows : ℕ) (p : Code) (text : List ℕ) (at : ℕ) (q : Code × ℕ) : Type 0 where
  row : Row
  is : row_on p row ≡ q.0
  passes : row_fault p row ≡ None
  there : All (λ (t : CodeTerm). OldIsThere rows t.from) row.own.terms
  spelled : (ts : List Lexeme) → HasLexemes (drop q.1 text) ts →
      (tokens : List Lexeme) × SpellsRow (length p.rows) row tokens ts × HasLexemes (drop at text) tokens

row_sound : (rows : ℕ) (p : Code) (text : List ℕ) (at : ℕ) → rows ≤ 40 → length p.inputs ≤ 4 →
    Sound (row_more rows text (p, at)) (RowRead rows p text at)
unfolding row_more
row_sound rows p text at few inputs =
    sound_bind (constant_sound text at) (λ c c_read.
    sound_bind (terms_sound (suc (length text)) (place_of rows p) [] text c.1 few inputs) (λ t t_read.
    sound_bind (store_sound p.accumulator text t.1) (λ s s_back.
    let row : Row = stored_row t.0 s.0 in
    sound_bind (unless_sound (row_fault p row) (row_on p row)) (λ q added.
    sound_bind (constant_checked (length p.rows) c.0 (constant_in s.0.mode s.0.shift)) (λ u same.
    let terms : t_read.more ≡ t.0 = sym t_read.is in
    sound_ok (q, s.1) (record {
      row = row;
      is = added.1;
      passes = added.0;
      there = subst (All (λ (x : CodeTerm). OldIsThere rows x.from)) terms t_read.there;
      spelled = λ ts h.
          let (tokens, spells, has) = t_read.spelled (stored s.0 ts) (s_back.back ts h) in (
            constant_tokens c.0 tokens,
            record {
              terms = tokens;
              constant =
                  ap (λ (n : ℕ). constant_tokens n tokens) same;
              each =
                  subst (λ (x : List CodeTerm). SpellsTerms x tokens (row_name (length p.rows) ∷ stored s.0 ts))
                  terms spells;
            },
            c_read.back.back tokens has,
          );
    }))))))

-- the program with more rows
abbrev rows_on : Code → List Row → Code
rows_on p rows = record p { rows = p.rows ++ rows }

abbrev OldAreThere : ℕ → Row → Type 0
OldAreThere rows row = All (λ (t : CodeTerm). OldIsThere rows t.from) row.own.terms

record RowsRead (rows k : ℕ) (p : Code) (text : List ℕ) (at : ℕ) (q : Code × ℕ) : Type 0 where
  more : List Row
  is : rows_on p more ≡ q.0
  count : length more ≡ k
  fits : CodeFits p → CodeFits q.0
  there : All (OldAreThere rows) more
  spelled : (ts : List Lexeme) → HasLexemes (drop q.1 text) ts →
      (tokens : List Lexeme) × SpellsRows (length p.rows) more tokens ts × HasLexemes (drop at text) tokens

rows_then : (rows k : ℕ) (p : Code) (text : List ℕ) (at e : ℕ) (row : Row) (y : Code × ℕ) →
    row_fault p row ≡ None → OldAreThere rows row →
    ((ts : List Lexeme) → HasLexemes (drop e text) ts →
    (tokens : List Lexeme) × SpellsRow (length p.rows) row tokens ts × HasLexemes (drop at text) tokens)
    → RowsRead rows k (row_on p row) text e y → RowsRead rows (suc k) p text at y
rows_then rows k p text at e row y passes there spelled r =
    let next : length (p.rows ++ row ∷ []) ≡ length p.rows + 1 = length-append p.rows (row ∷ []) in
    record {
      more = row ∷ r.more;
      is = ap (λ (x : List Row). record p { rows = x }) (sym (append_assoc p.rows (row ∷ []) r.more)) ∙ r.is;
      count = ap suc r.count;
      fits = λ f. r.fits (row_added p row f passes);
      there = All-cons (OldAreThere rows) row r.more there r.there;
      spelled = λ ts h.
          let (tokens, spells, has) = r.spelled ts h in
          let (first, row_spells, has2) = spelled tokens has in
          (first, (tokens, row_spells, subst (λ (n : ℕ). SpellsRows n r.more tokens ts) next spells), has2);
    }

rows_sound : (rows k : ℕ) (p : Code) (text : List ℕ) (at : ℕ) → rows ≤ 40 → length p.inputs ≤ 4 →
    Sound (repeated k (row_more rows text) (p, at)) (RowsRead rows k p text at)
rows_sound rows zero p text at few inputs = sound_ok (p, at) (record {
  more = [];
  is = ap (λ (x : List Row). record p { rows = x }) (append-nil p.rows);
  count = refl;
  fits = λ f. f;
  there = All-nil (OldAreThere rows);
  spelled = λ ts h. (ts, refl, h);
})
rows_sound rows (suc k) p text at few inputs = sound_bind (row_sound rows p text at few inputs) (λ q first. record {
  holds = λ y e.
      let same_inputs : length p.inputs ≡ length q.0.inputs = ap (λ (c : Code). length c.inputs) first.is in
      let r = (rows_sound rows k q.0 text q.1 few (omega arith)).holds y e in
      rows_then rows k p text at q.1 first.row y first.passes first.there first.spelled
      (subst (λ (c : Code). RowsRead rows k c text q.1 y) (sym first.is) r);
})

-- ---- outputs

-- the program with more outputs
abbrev outputs_on : Code → List ℕ → Code
outputs_on p outputs = record p { outputs = p.outputs ++ outputs }

record OutputRead (p : Code) (text : List ℕ) (at : ℕ) (q : Code × ℕ) : Type 0 where
  row : ℕ
  is : outputs_on p (row ∷ []) ≡ q.0
  passes : output_fault p row ≡ None
  back : Back text at q.1 (output_spelled (length p.outputs) row)

output_more_sound : (p : Code) (text : List ℕ) (at : ℕ) → length p.outputs < 10 → length p.rows ≤ 40 →
    Sound (output_more text (p, at)) (OutputRead p text at)
unfolding output_more
output_more_sound p text at low few =
    sound_bind (output_sound (length p.outputs) (length p.rows) text at low few) (λ i i_back.
    sound_bind (unless_sound (output_fault p i.0) (outputs_on p (i.0 ∷ []))) (λ q added.
    sound_ok (q, i.1) (record { row = i.0; is = added.1; passes = added.0; back = i_back })))

record OutputsRead (k : ℕ) (p : Code) (text : List ℕ) (at : ℕ) (q : Code × ℕ) : Type 0 where
  more : List ℕ
  is : outputs_on p more ≡ q.0
  count : length more ≡ k
  fits : CodeFits p → CodeFits q.0
  back : Back text at q.1 (outputs_tokens (length p.outputs) more)

outputs_then : (k : ℕ) (p : Code) (text : List ℕ) (at e row : ℕ) (y : Code × ℕ) → output_fault p row ≡ None →
    Back text at e (output_spelled (length p.outputs) row) → OutputsRead k (outputs_on p (row ∷ [])) text e y →
    OutputsRead (suc k) p text at y
outputs_then k p text at e row y passes back r =
    let next : length (p.outputs ++ row ∷ []) ≡ length p.outputs + 1 = length-append p.outputs (row ∷ []) in
    record {
      more = row ∷ r.more;
      is = ap (λ (x : List ℕ). record p { outputs = x }) (sym (append_assoc p.outputs (row ∷ []) r.more)) ∙ r.is;
      count = ap suc r.count;
      fits = λ f. r.fits (output_added p row f passes);
      back = back_then back (subst (λ (n : ℕ). Back text e y.1 (outputs_tokens n r.more)) next r.back);
    }

outputs_sound : (k : ℕ) (p : Code) (text : List ℕ) (at : ℕ) → length p.outputs + k ≤ 4 → length p.rows ≤ 40 →
    Sound (repeated k (output_more text) (p, at)) (OutputsRead k p text at)
outputs_sound zero p text at few rows = sound_ok (p, at) (record {
  more = [];
  is = ap (λ (x : List ℕ). record p { outputs = x }) (append-nil p.outputs);
  count = refl;
  fits = λ f. f;
  back = record { back = λ ts h. h };
})
outputs_sound (suc k) p text at few rows =
    sound_bind (output_more_sound p text at (omega arith) rows) (λ q first. record {
      holds = λ y e.
          let longer : length (p.outputs ++ first.row ∷ []) ≡ length q.0.outputs =
          ap (λ (c : Code). length c.outputs) first.is in
          let one = length-append p.outputs (first.row ∷ []) in
          let same_rows : length p.rows ≡ length q.0.rows = ap (λ (c : Code). length c.rows) first.is in
          let r = (outputs_sound k q.0 text q.1 (omega arith) (omega arith)).holds y e in
          outputs_then k p text at q.1 first.row y first.passes first.back
          (subst (λ (c : Code). OutputsRead k c text q.1 y) (sym first.is) r);
    })

-- ---- the words that are kept

keep_more_sound : (i : ℕ) (text : List ℕ) (at : ℕ) →
    Sound (keep_more text (i, at)) (λ q.
    (q.0 ≡ i + 1) × Back text at q.1 (λ ts. old_name i ∷ sign (codes "=") ∷ row_name i ∷ sign (codes ";") ∷ ts))
unfolding keep_more
keep_more_sound i text at =
    sound_bind (due_sound old_letter i text at refl) (λ a a_back.
    sound_bind (expect_sound (sign (codes "=")) text a refl) (λ b b_back.
    sound_bind (due_sound row_letter i text b refl) (λ c c_back.
    sound_bind (expect_sound (sign (codes ";")) text c refl) (λ d d_back.
    sound_ok (i + 1, d) (refl, back_then a_back (back_then b_back (back_then c_back d_back)))))))

keeps_sound : (k i : ℕ) (text : List ℕ) (at : ℕ) →
    Sound (repeated k (keep_more text) (i, at)) (λ q. Back text at q.1 (keeps_tokens i k))
keeps_sound zero i text at = sound_ok (i, at) (record { back = λ ts h. h })
keeps_sound (suc k) i text at = sound_bind (keep_more_sound i text at) (λ q first. record {
  holds = λ y e.
      let r = (keeps_sound k q.0 text q.1).holds y e in
      back_then first.1 (subst (λ (n : ℕ). Back text q.1 y.1 (keeps_tokens n k)) first.0 r);
})

-- ---- the program

pub record BodyRead (head : Head) (text : List ℕ) (at : ℕ) (p : Code) : Type 0 where
  fits : CodeFits p
  pub whole : IsWhole p
  accumulator : head.accumulator ≡ p.accumulator
  inputs : head.inputs ≡ length p.inputs
  rows : head.rows ≡ length p.rows
  outputs : head.outputs ≡ length p.outputs
  tokens : List Lexeme
  each : SpellsRows 0 p.rows tokens (last_tokens p)
  has : HasLexemes (drop at text) (inputs_tokens 0 p.inputs tokens)

-- a program of these parts
abbrev made_of : ℕ → List ℕ → List Row → List ℕ → Code
made_of accumulator inputs rows outputs =
    record { accumulator = accumulator; inputs = inputs; rows = rows; outputs = outputs }

body_made : (head : Head) (text : List ℕ) (at a b c d : ℕ) (p0 p1 p2 : Code) (w : List ℕ) → HeadFits head →
    InputsRead head.inputs [] text at (w, a) → (start_fault head.accumulator w ≡ None)
    × (made_of head.accumulator w [] [] ≡ p0)
    → RowsRead head.rows head.rows p0 text a (p1, b) → OutputsRead head.outputs p1 text b (p2, c) →
    Back text c d (keeps_tokens 0 head.rows) → HasLexemes (drop d text) (sign (codes "}") ∷ []) →
    BodyRead head text at p2
body_made head text at a b c d p0 p1 p2 w fits i s r o kept last =
    let rows : List Row = r.more in
    let outs : List ℕ = o.more in
    let first : rows_on (made_of head.accumulator w [] []) rows ≡ p1 = ap (λ (x : Code). rows_on x rows) s.1 ∙ r.is in
    let is1 : made_of head.accumulator w rows [] ≡ p1 = first in
    let second : outputs_on (made_of head.accumulator w rows []) outs ≡ p2 =
    ap (λ (x : Code). outputs_on x outs) is1 ∙ o.is in
    let whole_is : made_of head.accumulator w rows outs ≡ p2 = second in
    let fits0 = subst CodeFits s.1 (start_fits head.accumulator w s.0) in
    let fits2 : CodeFits p2 = o.fits (r.fits fits0) in
    let row_count : length rows ≡ head.rows = r.count in
    let out_count : length outs ≡ head.outputs = o.count in
    let outs_from : length p1.outputs ≡ 0 = ap (λ (x : Code). length x.outputs) (sym is1) in
    let o_back : Back text b c (outputs_tokens 0 outs) =
    subst (λ (n : ℕ). Back text b c (outputs_tokens n outs)) outs_from o.back in
    let kept_back : Back text c d (keeps_tokens 0 (length rows)) =
    subst (λ (n : ℕ). Back text c d (keeps_tokens 0 n)) (sym row_count) kept in
    let rest = o_back.back (keeps_tokens 0 (length rows) (sign (codes "}") ∷ []))
    (kept_back.back (sign (codes "}") ∷ []) last) in
    let (tokens, spells, has) =
    r.spelled (outputs_tokens 0 outs (keeps_tokens 0 (length rows) (sign (codes "}") ∷ []))) rest in
    let rows_from : length p0.rows ≡ 0 = ap (λ (x : Code). length x.rows) (sym s.1) in
    let all_there : All (OldAreThere (length rows)) rows =
    subst (λ (n : ℕ). All (OldAreThere n) rows) (sym row_count) r.there in
    let some : 0 < length outs = omega (arith, fits.outputs_low) in
    let inputs_has = i.back.back tokens has in
    subst (BodyRead head text at) whole_is (record {
      fits = subst CodeFits (sym whole_is) fits2;
      whole = record { reads = all_there; output = some };
      accumulator = refl;
      inputs = sym (ap length i.is ∙ i.count);
      rows = sym row_count;
      outputs = sym out_count;
      tokens = tokens;
      each = subst (λ (n : ℕ).
          SpellsRows n rows tokens
          (outputs_tokens 0 outs (keeps_tokens 0 (length rows) (sign (codes "}") ∷ [])))) rows_from spells;
      has = subst (λ (x : List ℕ). HasLexemes (drop at text) (inputs_tokens 0 x tokens)) (sym i.is) inputs_has;
    })

pub body_sound : (head : Head) (text : List ℕ) (at : ℕ) → HeadFits head →
    Sound (body_at head text at) (BodyRead head text at)
unfolding body_at
body_sound head text at fits =
    sound_bind (inputs_sound head.inputs [] text at) (λ w w_read.
    sound_bind (unless_sound (start_fault head.accumulator w.0) (made_of head.accumulator w.0 [] [])) (λ p0 begun.
    let few_inputs : length p0.inputs ≤ 4 =
    omega (
      arith,
      ap (λ (x : Code). length x.inputs) begun.1,
      ap length w_read.is,
      w_read.count,
      fits.inputs_high,
    ) in
    sound_bind (rows_sound head.rows head.rows p0 text w.1 fits.rows_high few_inputs) (λ r r_read.
    let none : length p0.outputs ≡ 0 = ap (λ (x : Code). length x.outputs) (sym begun.1) in
    let same_outputs : length p0.outputs ≡ length r.0.outputs = ap (λ (x : Code). length x.outputs) r_read.is in
    let none_yet : length p0.rows ≡ 0 = ap (λ (x : Code). length x.rows) (sym begun.1) in
    let row_count : length (p0.rows ++ r_read.more) ≡ length r.0.rows = ap (λ (x : Code). length x.rows) r_read.is in
    let few_rows : length r.0.rows ≤ 40 =
    omega (arith, length-append p0.rows r_read.more, r_read.count, fits.rows_high) in
    sound_bind (outputs_sound head.outputs r.0 text r.1 (omega (arith, fits.outputs_high)) few_rows) (λ o o_read.
    sound_bind (keeps_sound head.rows 0 text o.1) (λ k k_back.
    sound_bind (end_sound text k.1) (λ u last.
    sound_ok o.0 (body_made head text at w.1 r.1 o.1 k.1 p0 r.0 o.0 w.0 fits w_read begun r_read o_read k_back
    last)))))))

first_line_sound : (bytes : List ℕ) → Sound (first_line_at bytes) (λ a. bytes ≡ first_line ++ drop a bytes)
unfolding first_line_at
first_line_sound bytes =
    sound_if (starts_with nat_eq bytes first_line) _ _ (λ starts.
    sound_ok 19 ((starts_is Decides-eqb bytes first_line (starts_with nat_eq bytes first_line) refl).0 starts))
    (λ other. sound_err _)

spelled_by : (bytes : List ℕ) (a : ℕ) (h : Head × ℕ) (p : Code) → bytes ≡ first_line ++ drop a bytes →
    HeadRead bytes a h → BodyRead h.0 bytes h.1 p → Spells bytes p
spelled_by bytes a h p begins head body =
    let tokens : List Lexeme = head_spelled h.0 (inputs_tokens 0 p.inputs body.tokens) in
    record {
      text = drop a bytes;
      begins = begins;
      tokens = tokens;
      has = head.back.back (inputs_tokens 0 p.inputs body.tokens) body.has;
      program = record {
        rows = body.tokens;
        begins = ap (λ (x : Head). head_spelled x (inputs_tokens 0 p.inputs body.tokens)) {x = h.0} {y =
            record {
              accumulator = p.accumulator;
              inputs = length p.inputs;
              rows = length p.rows;
              outputs =
                  length p.outputs;
            }} (rw (← body.accumulator, ← body.inputs, ← body.rows, ← body.outputs) refl);
        each = body.each;
      };
      fits = body.fits;
      whole = body.whole;
    }

pub code_sound : (bytes : List ℕ) → Sound (code_in bytes) (Spells bytes)
unfolding code_in
code_sound bytes =
    sound_bind (first_line_sound bytes) (λ a begins.
    sound_bind (head_sound bytes a) (λ h head.
    record { holds = λ p e. spelled_by bytes a h p begins head ((body_sound h.0 bytes h.1 head.fits).holds p e) }))
