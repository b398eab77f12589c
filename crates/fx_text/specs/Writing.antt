-- The text that is written for a program: one statement a line.
use Rattle.std.specs.Prelude.{ℕ, zero, suc, ◌+◌, List, [], ◌∷◌, ◌++◌, length, codes}
use Rattle.std.specs.Fmt.{decimal, signed_decimal}
use Rattle.fx_code.specs.Code.{Row, Code, constant_of}
use Rattle.fx_code.specs.declared.term.CodeTerm.{CodeTerm}
use Rattle.fx_code.specs.declared.term.Read.{Read}
use Rattle.fx_code.specs.declared.term.Read.TheVariants.{Now, Old, In}
use Rattle.fx_text.specs.Grammar.{first_line, shift_word}

abbrev pub head_line : Code → List ℕ
head_line p =
    codes "STEP(" ++ (decimal p.accumulator ++ (codes ", " ++ (decimal (length p.inputs) ++ (codes ", "
    ++ (decimal (length p.rows) ++ (codes ", " ++ (decimal (length p.outputs) ++ codes ")\n{\n")))))))

abbrev pub input_line : ℕ → ℕ → List ℕ
input_line j width = codes "  IN(u" ++ (decimal j ++ (codes ", " ++ (decimal width ++ codes ");\n")))

-- the lines of the inputs from input j on
abbrev pub input_lines : ℕ → List ℕ → List ℕ
input_lines j [] = []
input_lines j (w ∷ ws) = input_line j w ++ input_lines (j + 1) ws

abbrev pub constant_line : ℕ → List ℕ
constant_line n = codes "  a = " ++ (decimal n ++ codes ";\n")

abbrev pub source_text : Read → List ℕ
source_text (Now i) = codes "r" ++ decimal i
source_text (Old i) = codes "s" ++ decimal i
source_text (In j) = codes "u" ++ decimal j

abbrev pub term_line : CodeTerm → List ℕ
term_line t =
    codes "  a += MUL(" ++ (signed_decimal t.coef ++ (codes ", " ++ (source_text t.from ++ (codes ", "
    ++ (decimal t.left ++ codes ");\n")))))

abbrev pub term_lines : List CodeTerm → List ℕ
term_lines [] = []
term_lines (t ∷ ts) = term_line t ++ term_lines ts

abbrev pub store_line : ℕ → Row → List ℕ
store_line i row =
    codes "  r" ++ (decimal i ++ (codes " = LOW(" ++ (shift_word row.own.mode ++ (codes "(a, "
    ++ (decimal row.own.shift ++ (codes "), " ++ (decimal row.width ++ codes ");\n")))))))

-- the lines of row i
abbrev pub row_lines : ℕ → Row → List ℕ
row_lines i row =
    constant_line (constant_of row.own) ++ (term_lines row.own.terms ++ store_line i row)

-- those of the rows from row i on
abbrev pub rows_lines : ℕ → List Row → List ℕ
rows_lines i [] = []
rows_lines i (row ∷ rows) = row_lines i row ++ rows_lines (i + 1) rows

abbrev pub output_line : ℕ → ℕ → List ℕ
output_line j row = codes "  OUT(" ++ (decimal j ++ (codes ", r" ++ (decimal row ++ codes ");\n")))

-- the lines of the outputs from output j on
abbrev pub output_lines : ℕ → List ℕ → List ℕ
output_lines j [] = []
output_lines j (row ∷ rows) = output_line j row ++ output_lines (j + 1) rows

abbrev pub keep_line : ℕ → List ℕ
keep_line i = codes "  s" ++ (decimal i ++ (codes " = r" ++ (decimal i ++ codes ";\n")))

-- the lines of this many rows that are kept, from row i on
abbrev pub keep_lines : ℕ → ℕ → List ℕ
keep_lines i zero = []
keep_lines i (suc k) = keep_line i ++ keep_lines (i + 1) k

-- the whole text
abbrev pub code_text : Code → List ℕ
code_text p =
    first_line ++ (head_line p ++ (input_lines 0 p.inputs ++ (rows_lines 0 p.rows
    ++ (output_lines 0 p.outputs ++ (keep_lines 0 (length p.rows) ++ codes "}\n")))))
