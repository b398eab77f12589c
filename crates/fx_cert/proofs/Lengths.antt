-- The text of a certificate is short: each line has at most 64 bytes.
use Rattle.std.proofs.Common.{◌≡◌, ◌≤◌, ◌<◌, ◌+◌, ◌*◌, ◌^◌, ℕ, ℤ, pos, negsuc, ◌≤ℤ◌, List, [], ◌∷◌, ◌++◌, codes}
use Rattle.std.proofs.Common.{decimal, length, All, length-append, arith, lit<}
use Rattle.std.specs.Fmt.{signed_decimal}
use Rattle.std.proofs.lemmas.Fmt.{length-decimal-le_wide}
use Rattle.std.proofs.lemmas.Int.{ints}
use Rattle.std.proofs.lemmas.List.Elements.{All-head, All-tail}
use Rattle.fx_msb.specs.Widths.{IsBound}
use Rattle.fx_cert.specs.Certificate.{Certificate, CertificateFits, IsError, first_line, numbered}
use Rattle.fx_cert.specs.Certificate.{numbered_each, text_of}

-- thirty digits
digits_short : (n : ℕ) → n < 10 ^ 30 → length (decimal n) ≤ 30
digits_short n h = length-decimal-le_wide 30 n (lit< tt) h (omega arith)

numbered_short : (word digits : List ℕ) → length word ≤ 8 → length digits ≤ 30 → length (numbered word digits) ≤ 64
numbered_short word digits a b =
    let both : length (numbered word digits) ≡ length word + (length digits + 1) = simp length-append in
    rw both (omega arith)

signed_short : (z : ℤ) → pos 0 ≤ℤ z → z ≤ℤ pos 79228162514264337593543950335 → length (signed_decimal z) ≤ 30
signed_short (pos n) low high = let small : n ≤ 79228162514264337593543950335 =
    omega (arith, ints) in digits_short n (omega arith)
signed_short (negsuc n) low high = absurd (omega (arith, ints))

bound_short : (z : ℤ) → IsBound z → length (signed_decimal z) ≤ 30
bound_short z h =
    let high = h.high in
    signed_short z h.low (omega (arith, ints))

error_short : (z : ℤ) → IsError z → length (signed_decimal z) ≤ 30
error_short z h = signed_short z h.low h.high

each_short : (word : List ℕ) (P : ℤ → Type 0) → length word ≤ 8 →
    ((z : ℤ) → P z → length (signed_decimal z) ≤ 30) → (zs : List ℤ) → All P zs →
    length (numbered_each word zs) ≤ 64 * length zs
each_short word P few short [] h = omega arith
each_short word P few short (z ∷ zs) h =
    let one = numbered_short word (signed_decimal z) few (short z (All-head P z zs h)) in
    let more = each_short word P few short zs (All-tail P z zs h) in
    omega (arith, length-append (numbered word (signed_decimal z)) (numbered_each word zs))

seven_long : (a b c d e f g : List ℕ) → length (a ++ (b ++ (c ++ (d ++ (e ++ (f ++ g)))))) ≡ length a
    + (length b + (length c + (length d + (length e + (length f + length g)))))
seven_long a b c d e f g = simp length-append

pub text_short : (c : Certificate) → CertificateFits c → length (text_of c) ≤ 65536
text_short c fits =
    let length_high = fits.length_high in
    let rows_high = fits.rows_high in
    let outputs_high = fits.outputs_high in
    let a = numbered_short (codes "length ") (decimal c.length) (omega arith) (digits_short c.length (omega arith)) in
    let b = numbered_short (codes "rows ") (decimal (length c.bounds)) (omega arith)
    (digits_short (length c.bounds) (omega arith)) in
    let d = each_short (codes "X ") IsBound (omega arith) bound_short c.bounds fits.bounds in
    let o = numbered_short (codes "outputs ") (decimal (length c.errors)) (omega arith)
    (digits_short (length c.errors) (omega arith)) in
    let e = each_short (codes "E ") IsError (omega arith) error_short c.errors fits.errors in
    rw (seven_long (first_line ++ codes "\n") (numbered (codes "length ") (decimal c.length))
    (numbered (codes "rows ") (decimal (length c.bounds))) (numbered_each (codes "X ") c.bounds)
    (numbered (codes "outputs ") (decimal (length c.errors))) (numbered_each (codes "E ") c.errors)
    (codes "end\n")) (omega arith)
