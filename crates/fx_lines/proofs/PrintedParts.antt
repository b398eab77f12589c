-- Texts without a control byte: numbers, decimals, and the parts of a line.
use Rattle.std.proofs.Common.{◌≡◌, ◌≢◌, ◌≤◌, ◌<◌, ◌+◌, ◌-◌, ◌/◌, ◌%◌, ◌==◌, ◌∙◌, ℕ, zero, suc, ℤ, pos, negsuc}
use Rattle.std.proofs.Common.{Bool, true, false, nat_lt, List, [], ◌∷◌, ◌++◌, length, codes, decimal, refl}
use Rattle.std.proofs.Common.{ap, append_assoc, arith, sym}
use Rattle.std.specs.Prelude.{replicate}
use Rattle.std.proofs.lemmas.Bool.{cond_both, le-ltb, ne_eqb}
use Rattle.std.proofs.lemmas.List.Folds.{list_all-append}
use Rattle.std.specs.Fmt.{digit_glyph, digits, digits_onto, signed_decimal}
use Rattle.std.specs.List.{list_all}
use Rattle.fx_decimal.specs.Printed.{fraction_text, padded, places_text, written, up_text, down_text}
use Rattle.fx_nums.specs.Fraction.{Fraction}
use Rattle.fx_nums.specs.Signs.{digit_zero, minus_text}
use Rattle.fx_lines.specs.Laws.{is_printed, IsLine}
use Rattle.fx_lines.specs.Verdict.{sides_line, up_part}
use Rattle.fx_lines.specs.declared.decimals.TheConstants.{PLACES}

-- ---- texts of printed bytes

abbrev pub Printed : List ℕ → Type 0
Printed text = list_all is_printed text ≡ true

pub both_printed : (a b : List ℕ) → Printed a → Printed b → Printed (a ++ b)
both_printed a b first second = list_all-append is_printed a b ∙ rw (first, second) refl

above_controls : (c : ℕ) → 32 ≤ c → c ≢ 127 → is_printed c ≡ true
above_controls c low other = rw (le-ltb c 32 low, ne_eqb c 127 other) refl

pub digit_printed : (upper : Bool) (d : ℕ) → d < 16 → is_printed (digit_glyph upper d) ≡ true
digit_printed upper d few =
    cond_both (nat_lt d 10) _ _ (λ c. is_printed c ≡ true) (λ decimal_digit.
    above_controls (48 + d) (omega arith) (λ same. omega arith)) (λ letter.
    cond_both upper _ _ (λ c. is_printed c ≡ true) (λ capital.
    above_controls (55 + d) (omega arith) (λ same. omega arith)) (λ small.
    above_controls (87 + d) (omega arith) (λ same. omega arith)))

-- ---- whole numbers

digits_printed : (k n : ℕ) (behind : List ℕ) → Printed behind → Printed (digits_onto k 10 false n behind)
digits_printed zero n behind printed = printed
digits_printed (suc k) n behind printed =
    let here : Printed (digit_glyph false (n % 10) ∷ behind) =
    rw (digit_printed false (n % 10) (omega arith), printed) refl in
    cond_both (n / 10 == 0) _ _ Printed (λ last. here) (λ more. digits_printed k (n / 10) _ here)

pub decimal_printed : (n : ℕ) → Printed (decimal n)
unfolding digits
decimal_printed n = digits_printed 64 n [] refl

pub signed_printed : (z : ℤ) → Printed (signed_decimal z)
signed_printed (pos n) = decimal_printed n
signed_printed (negsuc n) = decimal_printed (suc n)

-- ---- numbers with places

zeros_printed : (k : ℕ) → Printed (replicate k digit_zero)
zeros_printed zero = refl
zeros_printed (suc k) = zeros_printed k

padded_printed : (k n : ℕ) → Printed (padded k n)
unfolding padded
padded_printed k n =
    let zeros = k - length (decimal n) in
    both_printed (replicate zeros digit_zero) (decimal n) (zeros_printed zeros) (decimal_printed n)

places_printed : (k n : ℕ) → Printed (places_text k n)
places_printed zero n = refl
places_printed (suc k) n = padded_printed (suc k) n

minus_printed : (negative : Bool) → Printed (minus_text negative)
minus_printed true = refl
minus_printed false = refl

written_printed : (negative : Bool) (whole rest k : ℕ) → Printed (written negative whole rest k)
unfolding written
written_printed negative whole rest k =
    both_printed (minus_text negative) (decimal whole ++ places_text k rest) (minus_printed negative)
    (both_printed (decimal whole) (places_text k rest) (decimal_printed whole) (places_printed k rest))

pub fraction_printed : (c : Fraction) → Printed (fraction_text c)
unfolding fraction_text
fraction_printed c = written_printed _ _ _ _

pub up_printed : (v : ℤ) (k : ℕ) → Printed (up_text v k)
unfolding up_text
up_printed v k = written_printed _ _ _ k

pub part_printed : (word : List ℕ) (v : ℤ) → Printed word → Printed (up_part word v)
part_printed word v printed = both_printed word (up_text v PLACES) printed (up_printed v PLACES)

pub down_printed : (v : ℤ) (k : ℕ) → Printed (down_text v k)
unfolding down_text
down_printed v k = written_printed _ _ _ k

-- ---- lines

pub line_of : (front : List ℕ) → Printed front → IsLine (front ++ codes "\n")
line_of front printed = record { front = front; ends = refl; printed = printed }

-- a space, and a part
pub more : (front part : List ℕ) → Printed front → Printed part → Printed (front ++ codes " " ++ part)
more front part first second = both_printed (front ++ codes " ") part (both_printed front (codes " ") first refl) second

-- ---- words, and one number, two or three behind them

pub numbered : (words : List ℕ) (n : ℕ) → Printed words → Printed (words ++ decimal n)
numbered words n printed = both_printed words (decimal n) printed (decimal_printed n)

pub numbers_line : (words part other : List ℕ) → Printed words → Printed part → Printed other →
    IsLine (words ++ part ++ codes " " ++ other ++ codes "\n")
numbers_line words part other printed first second =
    line_of (words ++ part ++ codes " " ++ other)
    (more (words ++ part) other (both_printed words part printed first) second)

pub number_line : (words part : List ℕ) → Printed words → Printed part → IsLine (words ++ part ++ codes "\n")
number_line words part printed first = line_of (words ++ part) (both_printed words part printed first)

pub three_line : (words part other last : List ℕ) → Printed words → Printed part → Printed other → Printed last →
    IsLine (words ++ part ++ codes " " ++ other ++ codes " " ++ last ++ codes "\n")
three_line words part other last printed first second third =
    line_of (words ++ part ++ codes " " ++ other ++ codes " " ++ last)
    (more (words ++ part ++ codes " " ++ other) last
    (more (words ++ part) other (both_printed words part printed first) second) third)

-- five pieces behind words, put together one by one or at once
each_behind : (w a b c d e : List ℕ) → w ++ (a ++ b ++ c ++ d ++ e) ≡ w ++ a ++ b ++ c ++ d ++ e
each_behind w a b c d e =
    let two : w ++ (a ++ b) ≡ w ++ a ++ b = sym (append_assoc w a b) in
    let three : w ++ (a ++ b ++ c) ≡ w ++ a ++ b ++ c =
    sym (append_assoc w (a ++ b) c) ∙ ap (λ t. t ++ c) two in
    let four : w ++ (a ++ b ++ c ++ d) ≡ w ++ a ++ b ++ c ++ d =
    sym (append_assoc w (a ++ b ++ c) d) ∙ ap (λ t. t ++ d) three in
    sym (append_assoc w (a ++ b ++ c ++ d) e) ∙ ap (λ t. t ++ e) four

-- the sides of a comparison behind words
pub sides_are_line : (words : List ℕ) (left right : ℤ) → Printed words → IsLine (words ++ sides_line left right)
sides_are_line words left right printed =
    let front = words ++ codes " " ++ signed_decimal left ++ codes " " ++ signed_decimal right in
    record {
      front = front;
      ends = each_behind words (codes " ") (signed_decimal left) (codes " ") (signed_decimal right) (codes "\n");
      printed = more (words ++ codes " " ++ signed_decimal left) (signed_decimal right)
          (more words (signed_decimal left) printed (signed_printed left)) (signed_printed right);
    }
