-- The text that is written for a program spells it.
use Rattle.std.proofs.Common.{◌≡◌, ◌≤◌, ◌<◌, ◌+◌, ◌^◌, ℕ, zero, suc, ℤ, pos, negsuc, true, false, List, [], ◌∷◌}
use Rattle.std.proofs.Common.{◌++◌, codes, decimal, length, All, refl, sym, ap, subst, append_assoc, arith}
use Rattle.std.proofs.Common.{rules, inl, inr}
use Rattle.std.proofs.lemmas.List.Elements.{All-head, All-tail, All-weaker, All-from_get_or}
use Rattle.std.specs.Fmt.{signed_decimal}
use Rattle.fx_code.specs.Code.{Row, Code, IsWhole, constant_of, no_row, row_at}
use Rattle.fx_code.specs.Fits.{SourceFits, CodeFits}
use Rattle.fx_code.specs.declared.term.CodeTerm.{CodeTerm}
use Rattle.fx_code.specs.declared.term.Read.{Read}
use Rattle.fx_code.specs.declared.term.Read.TheVariants.{Now, Old, In}
use Rattle.fx_nums.specs.Signs.{is_blank, is_digit, line_feed, space}
use Rattle.fx_text.specs.Tokens.{is_word, begins, is_name, is_sign, Lexeme, name, number, sign, HasLexemes}
use Rattle.fx_text.specs.Tokens.{row_letter, old_letter, input_letter}
use Rattle.fx_text.specs.Grammar.{input_name, source_name, accumulator_name, next_number, closed, head_tokens}
use Rattle.fx_text.specs.Grammar.{inputs_tokens, constant_tokens, SpellsCoefficient, factors_tokens, SpellsTerm}
use Rattle.fx_text.specs.Grammar.{SpellsTerms, shift_word, store_tokens, SpellsRow, SpellsRows, outputs_tokens}
use Rattle.fx_text.specs.Grammar.{keeps_tokens, last_tokens, Spells}
use Rattle.fx_text.specs.Writing.{head_line, input_line, input_lines, constant_line, source_text, term_line}
use Rattle.fx_text.specs.Writing.{term_lines, store_line, row_lines, rows_lines, output_line, output_lines}
use Rattle.fx_text.specs.Writing.{keep_line, keep_lines, code_text}
use Rattle.fx_text.proofs.NumberLaws.{numbered_named}
use Rattle.fx_text.proofs.PartLaws.{shift_named}

-- ---- one token before others

blank_before : (c : ℕ) (text : List ℕ) (ts : List Lexeme) → is_blank c ≡ true → HasLexemes text ts →
    HasLexemes (c ∷ text) ts
unfolding HasLexemes
blank_before c text [] blank h = rw blank h
blank_before c text (t ∷ ts) blank h =
    let f = h.1 in (
      h.0,
      record {
        blanks = c ∷ f.blanks;
        are_blank = rw blank f.are_blank;
        valid = f.valid;
        stands =
            ap (λ (x : List ℕ). c ∷ x) f.stands;
        ends = f.ends;
      },
      h.2,
    )

space_before : (text : List ℕ) (ts : List Lexeme) → HasLexemes text ts → HasLexemes (space ∷ text) ts
space_before text ts h = blank_before space text ts refl h

line_before : (text : List ℕ) (ts : List Lexeme) → HasLexemes text ts → HasLexemes (line_feed ∷ text) ts
line_before text ts h = blank_before line_feed text ts refl h

name_before : (w text : List ℕ) (ts : List Lexeme) → is_name w ≡ true → begins is_word text ≡ false →
    HasLexemes text ts → HasLexemes (w ++ text) (name w ∷ ts)
unfolding HasLexemes
name_before w text ts named stop h =
    (text, record { blanks = []; are_blank = refl; valid = named; stands = refl; ends = stop }, h)

number_before : (n : ℕ) (text : List ℕ) (ts : List Lexeme) → begins is_digit text ≡ false →
    HasLexemes text ts → HasLexemes (decimal n ++ text) (number n ∷ ts)
unfolding HasLexemes
number_before n text ts stop h =
    (text, record { blanks = []; are_blank = refl; valid = search rules; stands = refl; ends = stop }, h)

sign_before : (s text : List ℕ) (ts : List Lexeme) → is_sign s ≡ true → HasLexemes text ts →
    HasLexemes (s ++ text) (sign s ∷ ts)
unfolding HasLexemes
sign_before s text ts signed h =
    (text, record { blanks = []; are_blank = refl; valid = signed; stands = refl; ends = search rules }, h)

-- `, number`
next_before : (n : ℕ) (text : List ℕ) (ts : List Lexeme) → begins is_digit text ≡ false → HasLexemes text ts →
    HasLexemes (codes ", " ++ (decimal n ++ text)) (next_number n ts)
next_before n text ts stop h = sign_before (codes ",") _ _ refl (space_before _ _ (number_before n text ts stop h))

-- `) ;` and the end of the line
closed_before : (text : List ℕ) (ts : List Lexeme) → HasLexemes text ts → HasLexemes (codes ");\n" ++ text) (closed ts)
closed_before text ts h = sign_before (codes ")") _ _ refl (sign_before (codes ";") _ _ refl (line_before text ts h))

-- ---- lines regrouped

three : (a b c rest : List ℕ) → (a ++ (b ++ c)) ++ rest ≡ a ++ (b ++ (c ++ rest))
three a b c rest = simp append_assoc

five : (a b c d e rest : List ℕ) → (a ++ (b ++ (c ++ (d ++ e)))) ++ rest ≡ a ++ (b ++ (c ++ (d ++ (e ++ rest))))
five a b c d e rest = simp append_assoc

seven : (a b c d e f g rest : List ℕ) → (a ++ (b ++ (c ++ (d ++ (e ++ (f ++ g)))))) ++ rest
    ≡ a ++ (b ++ (c ++ (d ++ (e ++ (f ++ (g ++ rest))))))
seven a b c d e f g rest = simp append_assoc

nine : (a b c d e f g h i rest : List ℕ) → (a ++ (b ++ (c ++ (d ++ (e ++ (f ++ (g ++ (h ++ i)))))))) ++ rest
    ≡ a ++ (b ++ (c ++ (d ++ (e ++ (f ++ (g ++ (h ++ (i ++ rest))))))))
nine a b c d e f g h i rest = simp append_assoc

-- the same tokens of the same text
along : (a b : List ℕ) (ts : List Lexeme) → a ≡ b → HasLexemes b ts → HasLexemes a ts
along a b ts same h = subst (λ (x : List ℕ). HasLexemes x ts) (sym same) h

-- ---- the lines

head_written : (p : Code) (text : List ℕ) (ts : List Lexeme) → HasLexemes text ts →
    HasLexemes (head_line p ++ text) (head_tokens p ts)
head_written p text ts h =
    along _ _ _ (nine (codes "STEP(") (decimal p.accumulator) (codes ", ") (decimal (length p.inputs))
    (codes ", ") (decimal (length p.rows)) (codes ", ") (decimal (length p.outputs)) (codes ")\n{\n") text) (
    name_before (codes "STEP") _ _ refl refl (sign_before (codes "(") _ _ refl (number_before p.accumulator _ _ refl (
    next_before (length p.inputs) _ _ refl
    (next_before (length p.rows) _ _ refl (next_before (length p.outputs) _ _ refl (
    sign_before (codes ")") _ _ refl (line_before _ _ (sign_before (codes "{") _ _ refl (line_before text ts h))))))))))

input_written : (j w : ℕ) (text : List ℕ) (ts : List Lexeme) → j < 10 ^ 64 → HasLexemes text ts →
    HasLexemes (input_line j w ++ text)
    (name (codes "IN") ∷ sign (codes "(") ∷ input_name j ∷ next_number w (closed ts))
input_written j w text ts below h =
    along _ _ _ (five (codes "  IN(u") (decimal j) (codes ", ") (decimal w) (codes ");\n") text) (
    space_before _ _ (space_before _ _ (name_before (codes "IN") _ _ refl refl (sign_before (codes "(") _ _ refl (
    name_before (input_letter ∷ decimal j) _ _ (numbered_named input_letter j refl below) refl
    (next_before w _ _ refl (closed_before text ts h)))))))

inputs_written : (j : ℕ) (ws text : List ℕ) (ts : List Lexeme) → j + length ws < 10 ^ 64 → HasLexemes text ts →
    HasLexemes (input_lines j ws ++ text) (inputs_tokens j ws ts)
inputs_written j [] text ts below h = h
inputs_written j (w ∷ ws) text ts below h =
    along _ _ _ (append_assoc (input_line j w) (input_lines (j + 1) ws) text)
    (input_written j w _ _ (omega arith) (inputs_written (j + 1) ws text ts (omega arith) h))

constant_written : (n : ℕ) (text : List ℕ) (ts : List Lexeme) → HasLexemes text ts →
    HasLexemes (constant_line n ++ text) (constant_tokens n ts)
constant_written n text ts h =
    along _ _ _ (three (codes "  a = ") (decimal n) (codes ";\n") text) (
    space_before _ _ (space_before _ _
    (name_before (codes "a") _ _ refl refl
    (space_before _ _ (sign_before (codes "=") _ _ refl (space_before _ _ (
    number_before n _ _ refl (sign_before (codes ";") _ _ refl (line_before text ts h)))))))))

-- a coefficient, and the tokens that it is written with
record CoefficientWritten (z : ℤ) (text : List ℕ) (ts : List Lexeme) : Type 0 where
  tokens : List Lexeme
  spells : SpellsCoefficient z tokens ts
  has : HasLexemes (signed_decimal z ++ text) tokens

coefficient_written : (z : ℤ) (text : List ℕ) (ts : List Lexeme) → begins is_digit text ≡ false →
    HasLexemes text ts → CoefficientWritten z text ts
coefficient_written (pos n) text ts stop h =
    record { tokens = number n ∷ ts; spells = inl (n, refl, refl); has = number_before n text ts stop h }
coefficient_written (negsuc n) text ts stop h = record {
  tokens = sign (codes "-") ∷ number (suc n) ∷ ts;
  spells = inr (suc n, refl, refl);
  has = sign_before (codes "-") _ _ refl (number_before (suc n) text ts stop h);
}

-- the number of a source
abbrev pub number_of : Read → ℕ
number_of (Now i) = i
number_of (Old i) = i
number_of (In j) = j

source_written : (from : Read) (text : List ℕ) (ts : List Lexeme) → number_of from < 10 ^ 64 →
    begins is_word text ≡ false → HasLexemes text ts →
    HasLexemes (source_text from ++ text) (source_name from ∷ ts)
source_written (Now i) text ts below stop h =
    name_before (row_letter ∷ decimal i) text ts (numbered_named row_letter i refl below) stop h
source_written (Old i) text ts below stop h =
    name_before (old_letter ∷ decimal i) text ts (numbered_named old_letter i refl below) stop h
source_written (In j) text ts below stop h =
    name_before (input_letter ∷ decimal j) text ts (numbered_named input_letter j refl below) stop h

factors_written : (from : Read) (left : ℕ) (text : List ℕ) (ts : List Lexeme) → number_of from < 10 ^ 64 →
    HasLexemes text ts → HasLexemes
    (codes ", " ++ (source_text from ++ (codes ", " ++ (decimal left ++ (codes ");\n" ++ text)))))
    (factors_tokens from left ts)
factors_written from left text ts below h =
    sign_before (codes ",") _ _ refl
    (space_before _ _ (source_written from _ _ below refl
    (next_before left _ _ refl (closed_before text ts h))))

record TermWritten (t : CodeTerm) (text : List ℕ) (ts : List Lexeme) : Type 0 where
  tokens : List Lexeme
  spells : SpellsTerm t tokens ts
  has : HasLexemes (term_line t ++ text) tokens

term_written : (t : CodeTerm) (text : List ℕ) (ts : List Lexeme) → number_of t.from < 10 ^ 64 →
    HasLexemes text ts → TermWritten t text ts
term_written t text ts below h =
    let c = coefficient_written t.coef
    (codes ", " ++ (source_text t.from ++ (codes ", " ++ (decimal t.left ++ (codes ");\n" ++ text))))) _ refl
    (factors_written t.from t.left text ts below h) in
    record {
      tokens = accumulator_name ∷ sign (codes "+=") ∷ name (codes "MUL") ∷ sign (codes "(") ∷ c.tokens;
      spells = record { factors = c.tokens; begins = refl; coefficient = c.spells };
      has =
          along _ _ _ (seven (codes "  a += MUL(") (signed_decimal t.coef) (codes ", ") (source_text t.from)
          (codes ", ") (decimal t.left) (codes ");\n") text) (
          space_before _ _ (space_before _ _
          (name_before (codes "a") _ _ refl refl
          (space_before _ _ (sign_before (codes "+=") _ _ refl (space_before _ _ (
          name_before (codes "MUL") _ _ refl refl (sign_before (codes "(") _ _ refl c.has))))))));
    }

record TermsWritten (terms : List CodeTerm) (text : List ℕ) (ts : List Lexeme) : Type 0 where
  tokens : List Lexeme
  spells : SpellsTerms terms tokens ts
  has : HasLexemes (term_lines terms ++ text) tokens

terms_written : (terms : List CodeTerm) (text : List ℕ) (ts : List Lexeme) →
    All (λ (t : CodeTerm). number_of t.from < 10 ^ 64) terms → HasLexemes text ts → TermsWritten terms text ts
terms_written [] text ts below h = record { tokens = ts; spells = refl; has = h }
terms_written (t ∷ terms) text ts below h =
    let rest = terms_written terms text ts (All-tail (λ (x : CodeTerm). number_of x.from < 10 ^ 64) t terms below) h in
    let one = term_written t (term_lines terms ++ text) rest.tokens
    (All-head (λ (x : CodeTerm). number_of x.from < 10 ^ 64) t terms below) rest.has in
    record {
      tokens = one.tokens;
      spells = (rest.tokens, one.spells, rest.spells);
      has =
          along _ _ _ (append_assoc (term_line t) (term_lines terms) text) one.has;
    }

store_written : (i : ℕ) (row : Row) (text : List ℕ) (ts : List Lexeme) → i < 10 ^ 64 → HasLexemes text ts →
    HasLexemes (store_line i row ++ text) (store_tokens i row ts)
store_written i row text ts below h =
    along _ _ _ (nine (codes "  r") (decimal i) (codes " = LOW(") (shift_word row.own.mode) (codes "(a, ")
    (decimal row.own.shift) (codes "), ") (decimal row.width) (codes ");\n") text) (
    space_before _ _ (space_before _ _
    (name_before (row_letter ∷ decimal i) _ _ (numbered_named row_letter i refl below) refl
    (space_before _ _ (sign_before (codes "=") _ _ refl (space_before _ _ (
    name_before (codes "LOW") _ _ refl refl
    (sign_before (codes "(") _ _ refl
    (name_before (shift_word row.own.mode) _ _ (shift_named row.own.mode) refl (sign_before (codes "(") _ _ refl (
    name_before (codes "a") _ _ refl refl
    (next_before row.own.shift _ _ refl
    (sign_before (codes ")") _ _ refl (next_before row.width _ _ refl (closed_before text ts h)))))))))))))))

record RowWritten (i : ℕ) (row : Row) (text : List ℕ) (ts : List Lexeme) : Type 0 where
  tokens : List Lexeme
  spells : SpellsRow i row tokens ts
  has : HasLexemes (row_lines i row ++ text) tokens

row_written : (i : ℕ) (row : Row) (text : List ℕ) (ts : List Lexeme) → i < 10 ^ 64 →
    All (λ (t : CodeTerm). number_of t.from < 10 ^ 64) row.own.terms → HasLexemes text ts → RowWritten i row text ts
row_written i row text ts below sources h =
    let terms = terms_written row.own.terms (store_line i row ++ text) _ sources
    (store_written i row text ts below h) in
    record {
      tokens = constant_tokens (constant_of row.own) terms.tokens;
      spells = record { terms = terms.tokens; constant = refl; each = terms.spells };
      has = along _ _ _ (three (constant_line (constant_of row.own)) (term_lines row.own.terms)
          (store_line i row) text) (constant_written (constant_of row.own) _ _ terms.has);
    }

abbrev HasNumbers : Row → Type 0
HasNumbers row = All (λ (t : CodeTerm). number_of t.from < 10 ^ 64) row.own.terms

record RowsWritten (i : ℕ) (rows : List Row) (text : List ℕ) (ts : List Lexeme) : Type 0 where
  tokens : List Lexeme
  spells : SpellsRows i rows tokens ts
  has : HasLexemes (rows_lines i rows ++ text) tokens

rows_written : (i : ℕ) (rows : List Row) (text : List ℕ) (ts : List Lexeme) → i + length rows < 10 ^ 64 →
    All HasNumbers rows → HasLexemes text ts → RowsWritten i rows text ts
rows_written i [] text ts below sources h = record { tokens = ts; spells = refl; has = h }
rows_written i (row ∷ rows) text ts below sources h =
    let rest = rows_written (i + 1) rows text ts (omega arith) (All-tail HasNumbers row rows sources) h in
    let one = row_written i row (rows_lines (i + 1) rows ++ text) rest.tokens (omega arith)
    (All-head HasNumbers row rows sources) rest.has in
    record {
      tokens = one.tokens;
      spells = (rest.tokens, one.spells, rest.spells);
      has =
          along _ _ _ (append_assoc (row_lines i row) (rows_lines (i + 1) rows) text) one.has;
    }

outputs_written : (j : ℕ) (rows text : List ℕ) (ts : List Lexeme) → All (λ i. i < 10 ^ 64) rows →
    HasLexemes text ts → HasLexemes (output_lines j rows ++ text) (outputs_tokens j rows ts)
outputs_written j [] text ts below h = h
outputs_written j (i ∷ rows) text ts below h =
    let rest = outputs_written (j + 1) rows text ts (All-tail (λ (x : ℕ). x < 10 ^ 64) i rows below) h in
    let here = All-head (λ (x : ℕ). x < 10 ^ 64) i rows below in
    along _ _ _ (append_assoc (output_line j i) (output_lines (j + 1) rows) text) (
    along _ _ _ (five (codes "  OUT(") (decimal j) (codes ", r") (decimal i) (codes ");\n")
    (output_lines (j + 1) rows ++ text)) (
    space_before _ _ (space_before _ _
    (name_before (codes "OUT") _ _ refl refl (sign_before (codes "(") _ _ refl (number_before j _ _ refl (
    sign_before (codes ",") _ _ refl
    (space_before _ _ (name_before (row_letter ∷ decimal i) _ _ (numbered_named row_letter i refl here) refl
    (closed_before _ _ rest))))))))))

keeps_written : (i k : ℕ) (text : List ℕ) (ts : List Lexeme) → i + k < 10 ^ 64 → HasLexemes text ts →
    HasLexemes (keep_lines i k ++ text) (keeps_tokens i k ts)
keeps_written i zero text ts below h = h
keeps_written i (suc k) text ts below h =
    let rest = keeps_written (i + 1) k text ts (omega arith) h in
    let here : i < 10 ^ 64 = omega arith in
    along _ _ _ (append_assoc (keep_line i) (keep_lines (i + 1) k) text) (
    along _ _ _ (five (codes "  s") (decimal i) (codes " = r") (decimal i) (codes ";\n")
    (keep_lines (i + 1) k ++ text)) (
    space_before _ _ (space_before _ _
    (name_before (old_letter ∷ decimal i) _ _ (numbered_named old_letter i refl here) refl
    (space_before _ _ (sign_before (codes "=") _ _ refl (space_before _ _ (
    name_before (row_letter ∷ decimal i) _ _ (numbered_named row_letter i refl here) refl
    (sign_before (codes ";") _ _ refl (line_before _ _ rest))))))))))

last_written : HasLexemes (codes "}\n") (sign (codes "}") ∷ [])
unfolding HasLexemes
last_written = (
  codes "\n",
  record {
    blanks = [];
    are_blank = refl;
    valid = refl;
    stands = refl;
    ends =
        search rules;
  },
  refl,
)

-- ---- the whole text

-- sources of a program have small numbers
source_small : (rows inputs n : ℕ) (from : Read) → n ≤ 40 → inputs ≤ 4 → SourceFits n inputs from → number_of from < 40
source_small rows inputs n (Now i) few inputs_few h = omega arith
source_small rows inputs n (Old i) few inputs_few h = h
source_small rows inputs n (In j) few inputs_few h = omega arith

-- all sources of a row have small numbers
abbrev pub IsSmall : Row → Type 0
IsSmall row = All (λ (t : CodeTerm). number_of t.from < 40) row.own.terms

pub rows_small : (p : Code) → CodeFits p → All IsSmall p.rows
rows_small p fits = All-from_get_or IsSmall p.rows no_row (λ n below.
    let reads = fits.reads n below in
    All-weaker (λ (t : CodeTerm). SourceFits n (length p.inputs) t.from) (λ (t : CodeTerm).
    number_of t.from < 40) (λ t h.
    source_small (length p.rows) (length p.inputs) n t.from (omega (arith, fits.rows_high)) fits.inputs_high
    h) (row_at p n).own.terms reads.sources)

small_numbers : (row : Row) → IsSmall row → HasNumbers row
small_numbers row h = All-weaker (λ (t : CodeTerm). number_of t.from < 40) (λ (t : CodeTerm).
    number_of t.from < 10 ^ 64) (λ t below. omega arith) row.own.terms h

pub written_law : (p : Code) → CodeFits p → IsWhole p → Spells (code_text p) p
written_law p fits whole =
    let end = last_written in
    let kept = keeps_written 0 (length p.rows) (codes "}\n") (sign (codes "}") ∷ [])
    (omega (arith, fits.rows_high)) end in
    let outs_below = All-weaker (λ (i : ℕ). i < length p.rows) (λ (i : ℕ). i < 10 ^ 64) (λ i below.
    omega (arith, fits.rows_high)) p.outputs fits.outputs in
    let outs = outputs_written 0 p.outputs (keep_lines 0 (length p.rows) ++ codes "}\n") _ outs_below kept in
    let numbers = All-weaker IsSmall HasNumbers small_numbers p.rows (rows_small p fits) in
    let rows = rows_written 0 p.rows
    (output_lines 0 p.outputs ++ (keep_lines 0 (length p.rows) ++ codes "}\n")) (last_tokens p)
    (omega (arith, fits.rows_high)) numbers outs in
    let inputs = inputs_written 0 p.inputs _ rows.tokens (omega (arith, fits.inputs_high)) rows.has in
    record {
      text = head_line p ++ (input_lines 0 p.inputs ++
          (rows_lines 0 p.rows ++ (output_lines 0 p.outputs ++ (keep_lines 0 (length p.rows) ++ codes "}\n"))));
      begins = refl;
      tokens = head_tokens p (inputs_tokens 0 p.inputs rows.tokens);
      has = head_written p _ _ inputs;
      program = record { rows = rows.tokens; begins = refl; each = rows.spells };
      fits = fits;
      whole = whole;
    }
