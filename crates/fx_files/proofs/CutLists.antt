-- A list that is cut into parts is those parts, one behind the other.
use Rattle.std.proofs.Common.{◌≡◌, ℕ, zero, suc, ◌-◌, ◌≤◌, List, [], ◌∷◌, ◌++◌, take, drop, refl, ap}
use Rattle.std.proofs.Common.{◌∙◌, arith}
use Rattle.std.proofs.lemmas.List.{take-append-drop, take_all}
use Rattle.fx_nums.specs.Fraction.{Fraction}
use Rattle.fx_files.specs.Coefficients.{coefficients_of}
use Rattle.fx_files.specs.Inside.{AreOrdered, cut}
use Rattle.fx_files.specs.declared.coefficients.Ends.{Ends}
use Rattle.fx_files.specs.declared.coefficients.Ends.TheVariants.{Tf, Sos, Ss, Lattice}

-- what lies between two places, and what follows it
between : {A : Type 0} (a b : ℕ) (xs : List A) → a ≤ b → take (b - a) (drop a xs) ++ drop b xs ≡ drop a xs
between zero b xs h = let e : b - 0 ≡ b = omega arith in rw e (take-append-drop b xs)
between (suc a) zero xs h = absurd (omega arith)
between (suc a) (suc b) [] h = ap (λ t. t ++ []) (take_all (suc b - suc a) [] (omega arith))
between (suc a) (suc b) (x ∷ xs) h = let e : suc b - suc a ≡ b - a = omega arith in rw e (between a b xs (omega arith))

-- four parts
four_parts : {A : Type 0} (a b c : ℕ) (xs : List A) → a ≤ b → b ≤ c →
    take a xs ++ (take (b - a) (drop a xs) ++ (take (c - b) (drop b xs) ++ drop c xs)) ≡ xs
four_parts a b c xs p q =
    ap (λ t. take a xs ++ (take (b - a) (drop a xs) ++ t)) (between b c xs q)
    ∙ ap (λ t. take a xs ++ t) (between a b xs p)
    ∙ take-append-drop a xs

-- the lists of coefficients
pub lists_joined : (all : List Fraction) (e : Ends) → AreOrdered all e → coefficients_of (cut all e) ≡ all
lists_joined all (Tf i) h = take-append-drop i all
lists_joined all Sos h = refl
lists_joined all (Ss n i j k) h = four_parts i j k all h.0 h.1
lists_joined all (Lattice i) h = take-append-drop i all
