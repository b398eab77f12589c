-- Texts that grow line by line, as loops write them.
use Rattle.std.proofs.Common.{◌≡◌, ℕ, suc, ◌+◌, ◌-◌, ◌<◌, List, [], ◌∷◌, ◌++◌, length, drop, get_or, refl, sym}
use Rattle.std.proofs.Common.{◌∙◌, append_assoc, add-one, arith}
use Rattle.std.proofs.lemmas.List.{append-nil}
use Rattle.std.proofs.Math.Seq.{drop-cons}
use Rattle.fx_code.specs.Code.{Row}
use Rattle.fx_code.specs.declared.term.CodeTerm.{CodeTerm}
use Rattle.fx_text.specs.Writing.{input_line, input_lines, row_lines, rows_lines, term_line, term_lines}
use Rattle.fx_text.specs.Writing.{keep_line, keep_lines}

-- one more line
pub pushed : (out line rest lines new all : List ℕ) → new ≡ out ++ line → lines ≡ line ++ rest →
    out ++ lines ≡ all → new ++ rest ≡ all
pushed out line rest lines new all more parts so_far =
    let h : out ++ (line ++ rest) ≡ all = rw parts at so_far in
    rw (more, append_assoc) h

-- no more lines
pub none_left : (out lines all : List ℕ) → lines ≡ [] → out ++ lines ≡ all → out ≡ all
none_left out lines all none so_far = sym (append-nil out) ∙ rw none at so_far

pub inputs_more : (ws : List ℕ) (j : ℕ) → j < length ws →
    input_lines j (drop j ws) ≡ input_line j (get_or ws j 0) ++ input_lines (j + 1) (drop (j + 1) ws)
inputs_more ws j below =
    let one : drop j ws ≡ get_or ws j 0 ∷ drop (j + 1) ws = rw (add-one, drop-cons ws j 0) refl in
    rw one refl

pub terms_more : (ts : List CodeTerm) (d : CodeTerm) (i : ℕ) → i < length ts →
    term_lines (drop i ts) ≡ term_line (get_or ts i d) ++ term_lines (drop (i + 1) ts)
terms_more ts d i below =
    let one : drop i ts ≡ get_or ts i d ∷ drop (i + 1) ts = rw (add-one, drop-cons ts i d) refl in
    rw one refl

-- three pieces, one after the other
pub three_pushed : (a x b y c z d : List ℕ) → b ≡ a ++ x → c ≡ b ++ y → d ≡ c ++ z → d ≡ a ++ (x ++ (y ++ z))
three_pushed a x b y c z d first second third = rw (third, second, first, append_assoc, append_assoc) refl

pub rows_more : (rows : List Row) (d : Row) (i : ℕ) → i < length rows →
    rows_lines i (drop i rows) ≡ row_lines i (get_or rows i d) ++ rows_lines (i + 1) (drop (i + 1) rows)
rows_more rows d i below =
    let one : drop i rows ≡ get_or rows i d ∷ drop (i + 1) rows = rw (add-one, drop-cons rows i d) refl in
    rw one refl

pub keeps_more : (count i : ℕ) → i < count → keep_lines i (count - i)
    ≡ keep_line i ++ keep_lines (i + 1) (count - (i + 1))
keeps_more count i below =
    let k : count - i ≡ suc (count - (i + 1)) = omega arith in
    rw k refl
