-- The text of a certificate is read as the certificate.
use Rattle.std.proofs.Common.{◌≡◌, ◌≤◌, ◌<◌, ◌+◌, ◌^◌, ◌∙◌, ◌==◌, ℕ, true, not, ℤ, pos, negsuc, ◌≤ℤ◌, List, []}
use Rattle.std.proofs.Common.{◌∷◌, ◌++◌, length, codes, decimal, All, Some, Result, Ok, refl, ap, append_assoc}
use Rattle.std.proofs.Common.{arith, lit<}
use Rattle.std.specs.Fmt.{signed_decimal}
use Rattle.std.specs.List.{starts_with}
use Rattle.std.specs.Prelude.{nat_eq}
use Rattle.std.proofs.lemmas.Bool.{and_parts}
use Rattle.std.proofs.lemmas.Bool.Decides.{Decides-eqb}
use Rattle.std.proofs.lemmas.List.{drop_at}
use Rattle.std.proofs.lemmas.List.Elements.{All-head, All-tail}
use Rattle.std.proofs.lemmas.Slice.Eq.{starts_is}
use Rattle.std.proofs.lemmas.Int.{ints}
use Rattle.fx_msb.specs.Widths.{IsBound}
use Rattle.fx_cert.specs.declared.fault.CertFault.{CertFault}
use Rattle.fx_cert.specs.Certificate.{Certificate, CertificateFits, IsError, IsTextOf, first_line, numbered}
use Rattle.fx_cert.specs.Certificate.{numbered_each, text_of}
use Rattle.fx_cert.specs.Lines.{TextLine, lines_of, no_feed}
use Rattle.fx_cert.specs.Reading.{behind, behind_head, bound_at, bounds_in, certificate_in, each_at, end_at}
use Rattle.fx_cert.specs.Reading.{ended_line, error_at, errors_in, length_in, number_behind, numbered_at}
use Rattle.fx_cert.specs.Reading.{outputs_at}
use Rattle.fx_cert.proofs.NumberLaws.{decimal_no_feed, number_again}
use Rattle.fx_cert.proofs.LineLaws.{line_again}

-- ---- one line

-- an ended line
abbrev ended : List ℕ → TextLine
ended text = record { text = text; ended = true }

behind_again : (word digits : List ℕ) → behind word (word ++ digits) ≡ Some digits
behind_again word digits =
    let test : starts_with nat_eq (word ++ digits) word ≡ true =
    (starts_is Decides-eqb (word ++ digits) word (starts_with nat_eq (word ++ digits) word) refl).1 digits
    refl in
    rw (test, drop_at word digits (length word) refl) refl

number_behind_again : (line : ℕ) (word : List ℕ) (low high n : ℕ) → high < 10 ^ 64 → low ≤ n → n ≤ high →
    number_behind line word low high (word ++ decimal n) ≡ Ok n
unfolding number_behind
number_behind_again line word low high n wide above below =
    rw (behind_again word (decimal n), number_again low high n wide above below) refl

numbered_again : (line : ℕ) (word : List ℕ) (low high n : ℕ) (ls : List TextLine) → high < 10 ^ 64 → low ≤ n →
    n ≤ high → numbered_at line word low high (ended (word ++ decimal n) ∷ ls) ≡ Ok (n, ls)
unfolding numbered_at ended_line
numbered_again line word low high n ls wide above below =
    rw (number_behind_again line word low high n wide above below) refl

no_feed-append : (xs ys : List ℕ) → no_feed xs ≡ true → no_feed ys ≡ true → no_feed (xs ++ ys) ≡ true
no_feed-append [] ys a b = b
no_feed-append (x ∷ xs) ys a b =
    let parts = and_parts (not (x == 10)) (no_feed xs) a in
    rw (parts.0, no_feed-append xs ys parts.1 b) refl

regrouped : (word digits rest : List ℕ) → numbered word digits ++ rest ≡ (word ++ digits) ++ 10 ∷ rest
regrouped word digits rest = simp append_assoc

numbered_line : (word digits rest : List ℕ) → no_feed word ≡ true → no_feed digits ≡ true →
    lines_of (numbered word digits ++ rest) ≡ ended (word ++ digits) ∷ lines_of rest
numbered_line word digits rest a b = ap lines_of (regrouped word digits rest)
    ∙ line_again (word ++ digits) rest (no_feed-append word digits a b)

-- ---- lines of numbers

-- a number without a sign
record IsNatural (z : ℤ) (high : ℕ) : Type 0 where
  number : ℕ
  is : z ≡ pos number
  below : number ≤ high

natural : (z : ℤ) (high : ℕ) → pos 0 ≤ℤ z → z ≤ℤ pos high → IsNatural z high
natural (pos n) high low below = record { number = n; is = refl; below = omega (arith, ints) }
natural (negsuc n) high low below = absurd (omega (arith, ints))

bound_natural : (z : ℤ) → IsBound z → IsNatural z 2147483647
bound_natural z h = natural z 2147483647 h.low h.high

error_natural : (z : ℤ) → IsError z → IsNatural z 79228162514264337593543950335
error_natural z h = natural z 79228162514264337593543950335 h.low h.high

plain : (z : ℤ) (high : ℕ) → high < 10 ^ 64 → IsNatural z high → no_feed (signed_decimal z) ≡ true
plain z high wide n =
    let below = n.below in
    rw n.is (decimal_no_feed n.number (omega arith))

bound_again : (rows i : ℕ) (z : ℤ) (ls : List TextLine) → IsBound z →
    bound_at rows i (ended (codes "X " ++ signed_decimal z) ∷ ls) ≡ Ok (z, ls)
unfolding bound_at ended_line
bound_again rows i z ls h =
    let n = bound_natural z h in
    rw (n.is, number_behind_again (i + 4) (codes "X ") 0 2147483647 n.number (lit< tt) (omega arith) n.below) refl

error_again : (rows outputs o : ℕ) (z : ℤ) (ls : List TextLine) → IsError z →
    error_at rows outputs o (ended (codes "E " ++ signed_decimal z) ∷ ls) ≡ Ok (z, ls)
unfolding error_at ended_line
error_again rows outputs o z ls h =
    let n = error_natural z h in
    rw (
      n.is,
      number_behind_again (rows + o + 5) (codes "E ") 0 79228162514264337593543950335 n.number
          (lit< tt) (omega arith) n.below,
    ) refl

module _ (one : ℕ → List TextLine → Result (ℤ × List TextLine) CertFault) (word : List ℕ) (P : ℤ →
    Type 0) (again : (i : ℕ) (z : ℤ) (ls : List TextLine) → P z →
    one i (ended (word ++ signed_decimal z) ∷ ls) ≡ Ok (z, ls))
    (free : no_feed word ≡ true) (digits : (z : ℤ) → P z → no_feed (signed_decimal z) ≡ true) where
  each_again : (zs : List ℤ) (i : ℕ) (rest : List ℕ) → All P zs →
      each_at one (length zs) i (lines_of (numbered_each word zs ++ rest)) ≡ Ok (zs, lines_of rest)
  unfolding each_at
  each_again [] i rest h = refl
  each_again (z ∷ zs) i rest h =
      let first = All-head P z zs h in
      let lines : lines_of (numbered_each word (z ∷ zs) ++ rest)
      ≡ ended (word ++ signed_decimal z) ∷ lines_of (numbered_each word zs ++ rest)
      = ap lines_of (append_assoc (numbered word (signed_decimal z)) (numbered_each word zs) rest)
      ∙ numbered_line word (signed_decimal z) (numbered_each word zs ++ rest) free (digits z first) in
      rw (
        lines,
        again i z (lines_of (numbered_each word zs ++ rest)) first,
        each_again zs (i + 1) rest (All-tail P z zs h),
      ) refl

-- ---- the parts

head_again : (rest : List ℕ) → behind_head (lines_of ((first_line ++ codes "\n") ++ rest)) ≡ Ok (lines_of rest)
unfolding behind_head
head_again rest = rw (line_again first_line rest refl) refl

length_again : (n : ℕ) (rest : List ℕ) → 1 ≤ n → n ≤ 4096 →
    length_in (lines_of ((first_line ++ codes "\n") ++ (numbered (codes "length ") (decimal n) ++ rest)))
    ≡ Ok (n, lines_of rest)
unfolding length_in
length_again n rest above below =
    let line = numbered_line (codes "length ") (decimal n) rest refl (decimal_no_feed n (omega arith)) in
    rw (
      head_again (numbered (codes "length ") (decimal n) ++ rest),
      line,
      numbered_again 2 (codes "length ") 1 4096 n (lines_of rest) (lit< tt) above below,
    ) refl

bounds_again : (xs : List ℤ) (rest : List ℕ) → 1 ≤ length xs → length xs ≤ 64 → All IsBound xs →
    bounds_in (lines_of (numbered (codes "rows ") (decimal (length xs)) ++
    (numbered_each (codes "X ") xs ++ rest))) ≡ Ok (xs, lines_of rest)
unfolding bounds_in
bounds_again xs rest above below h =
    let more = numbered_each (codes "X ") xs ++ rest in
    let line = numbered_line (codes "rows ") (decimal (length xs)) more refl
    (decimal_no_feed (length xs) (omega arith)) in
    let count = numbered_again 3 (codes "rows ") 1 64 (length xs) (lines_of more) (lit< tt) above below in
    rw (line, count) (each_again (bound_at (length xs)) (codes "X ") IsBound (bound_again (length xs)) refl
    (λ z fits. plain z 2147483647 (lit< tt) (bound_natural z fits)) xs 0 rest h)

outputs_again : (rows n : ℕ) (ls : List TextLine) → 1 ≤ n → n ≤ 4 →
    outputs_at rows (ended (codes "outputs " ++ decimal n) ∷ ls) ≡ Ok (n, ls)
unfolding outputs_at ended_line
outputs_again rows n ls above below =
    rw (number_behind_again (rows + 4) (codes "outputs ") 1 4 n (lit< tt) above below) refl

end_again : (rows outputs : ℕ) → end_at rows outputs (lines_of (codes "end\n")) ≡ Ok tt
unfolding end_at ended_line lines_of
end_again rows outputs = refl

errors_again : (rows : ℕ) (es : List ℤ) → 1 ≤ length es → length es ≤ 4 → All IsError es →
    errors_in rows (lines_of (numbered (codes "outputs ") (decimal (length es)) ++
    (numbered_each (codes "E ") es ++ codes "end\n"))) ≡ Ok es
unfolding errors_in
errors_again rows es above below h =
    let more = numbered_each (codes "E ") es ++ codes "end\n" in
    let line = numbered_line (codes "outputs ") (decimal (length es)) more refl
    (decimal_no_feed (length es) (omega arith)) in
    let count = outputs_again rows (length es) (lines_of more) above below in
    let each = each_again (error_at rows (length es)) (codes "E ") IsError (error_again rows (length es)) refl
    (λ z fits. plain z 79228162514264337593543950335 (lit< tt) (error_natural z fits)) es 0 (codes "end\n") h
    in
    rw (line, count, each, end_again rows (length es)) refl

-- ---- the certificate

pub text_again : (c : Certificate) → CertificateFits c → certificate_in (lines_of (text_of c)) ≡ Ok c
unfolding certificate_in
text_again c fits =
    let last = numbered (codes "outputs ") (decimal (length c.errors)) ++
    (numbered_each (codes "E ") c.errors ++ codes "end\n") in
    let rows = numbered (codes "rows ") (decimal (length c.bounds)) ++ (numbered_each (codes "X ") c.bounds ++ last) in
    rw (
      length_again c.length rows fits.length_low fits.length_high,
      bounds_again c.bounds last fits.rows_low fits.rows_high fits.bounds,
      errors_again (length c.bounds) c.errors fits.outputs_low fits.outputs_high fits.errors,
    ) refl

pub text_is_read : (bytes : List ℕ) (c : Certificate) → IsTextOf bytes c → certificate_in (lines_of bytes) ≡ Ok c
text_is_read bytes c h = ap (λ (t : List ℕ). certificate_in (lines_of t)) h.text ∙ text_again c h.fits
