-- The text of a program is short: each line has at most 64 bytes.
use Rattle.std.proofs.Common.{◌≡◌, ◌≤◌, ◌<◌, ◌+◌, ◌*◌, ◌^◌, ℕ, zero, suc, ℤ, pos, negsuc, unsigned_abs, List}
use Rattle.std.proofs.Common.{[], ◌∷◌, ◌++◌, codes, decimal, length, All, length-append, refl, arith, lit<}
use Rattle.std.proofs.lemmas.Fmt.{length-decimal-le_wide}
use Rattle.std.proofs.lemmas.List.Elements.{All-head, All-tail, All-weaker}
use Rattle.std.proofs.lemmas.List.Sums.{sum_by-append}
use Rattle.std.specs.Fmt.{signed_decimal}
use Rattle.fx_eqs.specs.declared.mode.Mode.{Mode}
use Rattle.fx_eqs.specs.declared.mode.Mode.TheVariants.{Nearest, Floor}
use Rattle.fx_code.specs.Code.{Row, Code, constant_of}
use Rattle.fx_code.specs.Fits.{TermFits, RowFits, CodeFits}
use Rattle.fx_math.specs.Words.{WidthFits}
use Rattle.fx_code.specs.Limits.{term_count}
use Rattle.fx_code.specs.declared.term.CodeTerm.{CodeTerm}
use Rattle.fx_code.specs.declared.term.Read.{Read}
use Rattle.fx_code.specs.declared.term.Read.TheVariants.{Now, Old, In}
use Rattle.fx_text.specs.Grammar.{first_line, shift_word}
use Rattle.fx_text.specs.Writing.{head_line, input_line, input_lines, constant_line, source_text, term_line}
use Rattle.fx_text.specs.Writing.{term_lines, store_line, row_lines, rows_lines, output_line, output_lines}
use Rattle.fx_text.specs.Writing.{keep_line, keep_lines, code_text}
use Rattle.fx_text.proofs.PartLaws.{constant_small}
use Rattle.fx_text.proofs.Written.{number_of, IsSmall, rows_small}

-- ---- lengths of joined texts

three_long : (a b c : List ℕ) → length (a ++ (b ++ c)) ≡ length a + (length b + length c)
three_long a b c = simp length-append

five_long : (a b c d e : List ℕ) → length (a ++ (b ++ (c ++ (d ++ e)))) ≡ length a
    + (length b + (length c + (length d + length e)))
five_long a b c d e = simp length-append

seven_long : (a b c d e f g : List ℕ) → length (a ++ (b ++ (c ++ (d ++ (e ++ (f ++ g)))))) ≡ length a
    + (length b + (length c + (length d + (length e + (length f + length g)))))
seven_long a b c d e f g = simp length-append

nine_long : (a b c d e f g h i : List ℕ) → length (a ++ (b ++ (c ++ (d ++ (e ++ (f ++ (g ++ (h ++ i))))))))
    ≡ length a + (length b + (length c
    + (length d + (length e + (length f + (length g + (length h + length i)))))))
nine_long a b c d e f g h i = simp length-append

-- two digits
short : (n : ℕ) → n < 100 → length (decimal n) ≤ 2
short n h = length-decimal-le_wide 2 n (lit< tt) h (omega arith)

-- nineteen digits
long : (n : ℕ) → n < 2 ^ 63 → length (decimal n) ≤ 19
long n h = length-decimal-le_wide 19 n (lit< tt) (omega arith) (omega arith)

-- ---- lines

head_short : (p : Code) → CodeFits p → length (head_line p) ≤ 64
head_short p fits =
    let a = short p.accumulator (omega (arith, fits.accumulator_high)) in
    let b = short (length p.inputs) (omega (arith, fits.inputs_high)) in
    let c = short (length p.rows) (omega (arith, fits.rows_high)) in
    let d = short (length p.outputs) (omega (arith, fits.outputs_high)) in
    rw (nine_long (codes "STEP(") (decimal p.accumulator) (codes ", ") (decimal (length p.inputs)) (codes ", ")
    (decimal (length p.rows)) (codes ", ") (decimal (length p.outputs)) (codes ")\n{\n")) (omega arith)

input_short : (j w : ℕ) → j < 100 → w < 100 → length (input_line j w) ≤ 64
input_short j w j_below w_below =
    let a = short j j_below in
    let b = short w w_below in
    rw (five_long (codes "  IN(u") (decimal j) (codes ", ") (decimal w) (codes ");\n")) (omega arith)

constant_short : (n : ℕ) → n < 2 ^ 63 → length (constant_line n) ≤ 64
constant_short n below =
    let a = long n below in
    rw (three_long (codes "  a = ") (decimal n) (codes ";\n")) (omega arith)

signed_short : (z : ℤ) → unsigned_abs z < 2 ^ 62 → length (signed_decimal z) ≤ 20
signed_short (pos n) h = let a = long n (omega arith) in omega arith
signed_short (negsuc n) h =
    let m : suc n < 2 ^ 63 = omega arith in
    let a = long (suc n) m in
    omega arith

source_short : (from : Read) → number_of from < 100 → length (source_text from) ≤ 3
source_short (Now i) h = let a = short i h in omega arith
source_short (Old i) h = let a = short i h in omega arith
source_short (In j) h = let a = short j h in omega arith

term_short : (shift : ℕ) (t : CodeTerm) → TermFits shift t → number_of t.from < 40 → length (term_line t) ≤ 64
term_short shift t fits below =
    let a = signed_short t.coef fits.coefficient in
    let b = source_short t.from (omega arith) in
    let c = short t.left (omega (arith, fits.left)) in
    rw (seven_long (codes "  a += MUL(") (signed_decimal t.coef) (codes ", ") (source_text t.from) (codes ", ")
    (decimal t.left) (codes ");\n")) (omega arith)

shift_word_long : (mode : Mode) → length (shift_word mode) ≡ 3
shift_word_long Nearest = refl
shift_word_long Floor = refl

store_short : (i : ℕ) (row : Row) → i < 100 → row.own.shift < 100 → row.width < 100 →
    length (store_line i row) ≤ 64
store_short i row i_below shift_below width_below =
    let a = short i i_below in
    let b = short row.own.shift shift_below in
    let c = short row.width width_below in
    let d = shift_word_long row.own.mode in
    rw (nine_long (codes "  r") (decimal i) (codes " = LOW(") (shift_word row.own.mode) (codes "(a, ")
    (decimal row.own.shift) (codes "), ") (decimal row.width) (codes ");\n")) (omega arith)

output_short : (j i : ℕ) → j < 100 → i < 100 → length (output_line j i) ≤ 64
output_short j i j_below i_below =
    let a = short j j_below in
    let b = short i i_below in
    rw (five_long (codes "  OUT(") (decimal j) (codes ", r") (decimal i) (codes ");\n")) (omega arith)

keep_short : (i : ℕ) → i < 100 → length (keep_line i) ≤ 64
keep_short i below =
    let a = short i below in
    rw (five_long (codes "  s") (decimal i) (codes " = r") (decimal i) (codes ";\n")) (omega arith)

-- ---- several lines

-- one line more
one_more : (line lines : List ℕ) (k : ℕ) → length line ≤ 64 → length lines ≤ 64 * k →
    length (line ++ lines) ≤ 64 * suc k
one_more line lines k one rest = omega (arith, length-append line lines)

inputs_short : (j : ℕ) (ws : List ℕ) → j + length ws < 100 → All WidthFits ws →
    length (input_lines j ws) ≤ 64 * length ws
inputs_short j [] few fits = omega arith
inputs_short j (w ∷ ws) few fits =
    let high = (All-head WidthFits w ws fits).high in
    one_more (input_line j w) (input_lines (j + 1) ws) (length ws)
    (input_short j w (omega arith) (omega arith))
    (inputs_short (j + 1) ws (omega arith) (All-tail WidthFits w ws fits))

terms_short : (shift : ℕ) (ts : List CodeTerm) → All (TermFits shift) ts →
    All (λ (t : CodeTerm). number_of t.from < 40) ts → length (term_lines ts) ≤ 64 * length ts
terms_short shift [] fits small = omega arith
terms_short shift (t ∷ ts) fits small =
    one_more (term_line t) (term_lines ts) (length ts)
    (term_short shift t (All-head (TermFits shift) t ts fits)
    (All-head (λ (x : CodeTerm). number_of x.from < 40) t ts small))
    (terms_short shift ts (All-tail (TermFits shift) t ts fits)
    (All-tail (λ (x : CodeTerm). number_of x.from < 40) t ts small))

row_short : (i accumulator : ℕ) (row : Row) → i < 100 → RowFits accumulator row → IsSmall row →
    length (row_lines i row) ≤ 128 + 64 * length row.own.terms
row_short i accumulator row below fits small =
    let a = constant_short (constant_of row.own) (constant_small row.own.mode row.own.shift fits.shift_high) in
    let b = terms_short row.own.shift row.own.terms fits.terms small in
    let c = store_short i row below (omega (arith, fits.shift_high)) (omega (arith, fits.width.high)) in
    rw (three_long (constant_line (constant_of row.own)) (term_lines row.own.terms) (store_line i row)) (omega arith)

rows_short : (i accumulator : ℕ) (rows : List Row) → i + length rows < 100 → All (RowFits accumulator) rows →
    All IsSmall rows → length (rows_lines i rows) ≤ 128 * length rows + 64 * term_count rows
rows_short i accumulator [] few fits small = omega arith
rows_short i accumulator (row ∷ rows) few fits small =
    let one = row_short i accumulator row (omega arith) (All-head (RowFits accumulator) row rows fits)
    (All-head IsSmall row rows small) in
    let rest = rows_short (i + 1) accumulator rows (omega arith) (All-tail (RowFits accumulator) row rows fits)
    (All-tail IsSmall row rows small) in
    let count : term_count (row ∷ rows) ≡ 0 + length row.own.terms + term_count rows =
    sum_by-append (λ (r : Row). length r.own.terms) (row ∷ []) rows in
    let both = length-append (row_lines i row) (rows_lines (i + 1) rows) in
    let total : length (row_lines i row) + length (rows_lines (i + 1) rows) ≤ 128 * suc (length rows)
    + 64 * term_count (row ∷ rows) = omega arith in
    rw both total

outputs_short : (j : ℕ) (rows : List ℕ) → j + length rows < 100 → All (λ i. i < 100) rows →
    length (output_lines j rows) ≤ 64 * length rows
outputs_short j [] few below = omega arith
outputs_short j (i ∷ rows) few below =
    one_more (output_line j i) (output_lines (j + 1) rows) (length rows)
    (output_short j i (omega arith) (All-head (λ (x : ℕ). x < 100) i rows below))
    (outputs_short (j + 1) rows (omega arith) (All-tail (λ (x : ℕ). x < 100) i rows below))

keeps_short : (i k : ℕ) → i + k < 100 → length (keep_lines i k) ≤ 64 * k
keeps_short i zero few = omega arith
keeps_short i (suc k) few =
    one_more (keep_line i) (keep_lines (i + 1) k) k (keep_short i (omega arith))
    (keeps_short (i + 1) k (omega arith))

-- ---- the text

six_long : (a b c d e f : List ℕ) → length (a ++ (b ++ (c ++ (d ++ (e ++ f))))) ≡ length a
    + (length b + (length c + (length d + (length e + length f))))
six_long a b c d e f = simp length-append

pub text_short : (p : Code) → CodeFits p → length (code_text p) ≤ 65536
text_short p fits =
    let a = head_short p fits in
    let b = inputs_short 0 p.inputs (omega (arith, fits.inputs_high)) fits.input_widths in
    let c = rows_short 0 p.accumulator p.rows (omega (arith, fits.rows_high)) fits.rows (rows_small p fits) in
    let outs_below = All-weaker (λ (i : ℕ). i < length p.rows) (λ (i : ℕ). i < 100) (λ i below.
    omega (arith, fits.rows_high)) p.outputs fits.outputs in
    let d = outputs_short 0 p.outputs (omega (arith, fits.outputs_high)) outs_below in
    let e = keeps_short 0 (length p.rows) (omega (arith, fits.rows_high)) in
    let last = length-append (keep_lines 0 (length p.rows)) (codes "}\n") in
    rw (six_long_text p) (omega (arith, fits.inputs_high, fits.rows_high, fits.terms, fits.outputs_high))
  where
    six_long_text : (p : Code) → length (code_text p) ≡ length first_line
        + (length (head_line p) + (length (input_lines 0 p.inputs)
        + (length (rows_lines 0 p.rows)
        + (length (output_lines 0 p.outputs) + length (keep_lines 0 (length p.rows) ++ codes "}\n")))))
    six_long_text p = six_long first_line (head_line p) (input_lines 0 p.inputs) (rows_lines 0 p.rows)
        (output_lines 0 p.outputs) (keep_lines 0 (length p.rows) ++ codes "}\n")
