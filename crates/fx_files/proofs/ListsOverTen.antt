-- What holds of all coefficients holds of each list of them.
use Rattle.std.proofs.Common.{List, ◌++◌, length, subst, All}
use Rattle.std.proofs.Math.Seq.{take-append_seam, drop-append_seam}
use Rattle.std.proofs.lemmas.List.Elements.{All-append, All-take, All-drop}
use Rattle.fx_nums.specs.Fraction.{Fraction}
use Rattle.fx_nums.specs.Fraction.{OverTen}
use Rattle.fx_files.specs.Coefficients.{Coefficients, Tf, Sos, Ss, Lattice, coefficients_of}
use Rattle.fx_files.specs.Fits.{EachOverTen}

pub both_over_ten : (xs ys : List Fraction) → All OverTen xs → All OverTen ys → All OverTen (xs ++ ys)
both_over_ten xs ys p q = All-append OverTen xs ys p q

pub four_over_ten : (a b c d : List Fraction) → All OverTen a → All OverTen b → All OverTen c → All OverTen d →
    All OverTen (a ++ (b ++ (c ++ d)))
four_over_ten a b c d p q r s = both_over_ten a (b ++ (c ++ d)) p (both_over_ten b (c ++ d) q (both_over_ten c d r s))

front : (xs ys : List Fraction) → All OverTen (xs ++ ys) → All OverTen xs
front xs ys h = subst (λ l. All OverTen l) (take-append_seam xs ys) (All-take OverTen (length xs) (xs ++ ys) h)

back : (xs ys : List Fraction) → All OverTen (xs ++ ys) → All OverTen ys
back xs ys h = subst (λ l. All OverTen l) (drop-append_seam xs ys) (All-drop OverTen (length xs) (xs ++ ys) h)

pub each_over_ten : (c : Coefficients) → All OverTen (coefficients_of c) → EachOverTen c
each_over_ten (Tf b a) h = (front b a h, back b a h)
each_over_ten (Sos sections) h = h
each_over_ten (Ss n A B C D) h =
    let after = back A (B ++ (C ++ D)) h in
    let last = back B (C ++ D) after in
    (front A (B ++ (C ++ D)) h, front B (C ++ D) after, front C D last, back C D last)
each_over_ten (Lattice k v) h = (front k v h, back k v h)
