-- A denominator of a form's net suits the coefficients that the form was given.
use Rattle.std.proofs.Common.{◌≡◌, ℕ, zero, suc, ◌+◌, ◌<◌, ◌≤◌, Bool, true, false, cond, List, [], ◌∷◌, ◌++◌}
use Rattle.std.proofs.Common.{length, filter, map, drop, All, refl, arith, subst, ◌⊎◌, inl, inr}
use Rattle.std.proofs.lemmas.Bool.{eq-eqb, and_from, cond-true, cases_eq}
use Rattle.std.proofs.lemmas.List.Elements.{All-head, All-tail, All-nil, All-cons}
use Rattle.fx_math.specs.Sums.{joined}
use Rattle.fx_nums.specs.Fraction.{Fraction, IsWholeOver}
use Rattle.fx_eqs.specs.Expanded.{NetTerm}
use Rattle.fx_net.specs.Net.{plain}
use Rattle.fx_net.specs.Run.{IsDenominator}
use Rattle.fx_sif.specs.Fits.{EntryFits, ImplicitFits}
use Rattle.fx_sif.specs.Implicit.{Implicit, rows}
use Rattle.fx_sif.specs.Rows.{row_place, on_the_right, is_read, is_in_row, net_row, term_of}
use Rattle.fx_sif.specs.SameOutputs.{net_alone}
use Rattle.fx_sif.specs.declared.parts.Block.{Block}
use Rattle.fx_sif.specs.declared.parts.Entry.{Entry}
use Rattle.fx_sif.specs.declared.parts.Sizes.{Sizes}
use Rattle.fx_sif.proofs.Placing.{place_below}
use Rattle.fx_sif.proofs.Summing.{denominators_divide}
use Rattle.fx_sif.specs.Entries.{coefficient, across}

-- ---- lists in parts

pub all_of_both : {A : Type 0} (P : A → Type 0) (xs ys : List A) → All P (xs ++ ys) → All P xs × All P ys
all_of_both P [] ys h = (All-nil P, h)
all_of_both P (x ∷ xs) ys h =
    let rest = all_of_both P xs ys (All-tail P x (xs ++ ys) h) in
    (All-cons P x xs (All-head P x (xs ++ ys) h) rest.0, rest.1)

pub all_of_rows : (P : Entry → Type 0) (n : ℕ) (f : ℕ → List Entry) → All P (joined n f) → (i : ℕ) → i < n → All P (f i)
all_of_rows P zero f h i l = absurd (omega arith)
all_of_rows P (suc n) f h i l = let p = all_of_both P (joined n f) (f n) h in
    by_place (all_of_rows P n f p.0 i) p.1 (cases_eq i n)
  where
    by_place : (i < n → All P (f i)) → All P (f n) → (i ≡ n) ⊎ (i ≡ n → ⊥) → All P (f i)
    by_place before last (inl same) = rw same last
    by_place before last (inr other) = before (omega (arith, l, other))

-- ---- entries

-- q suits the entry, where it is read
abbrev pub IsSuited : ℕ → Entry → Type 0
IsSuited q e = is_read e.block e.i e.j ≡ true → IsWholeOver q (plain (on_the_right e.block e.coef))

abbrev AreWhole : ℕ → List NetTerm → Type 0
AreWhole q ts = All (λ (t : NetTerm). IsWholeOver q (plain t.coef)) ts

-- what holds of all terms of a row holds of those behind its first entry
rest_whole : (s : Sizes) (q r : ℕ) (e : Entry) (es : List Entry) → AreWhole q (net_row s (e ∷ es) r) →
    AreWhole q (net_row s es r)
rest_whole s q r e es = by_test (is_in_row s r e)
  where
    by_test : (b : Bool) → AreWhole q
        (map (term_of s) (cond b (e ∷ filter (is_in_row s r) es) (filter (is_in_row s r) es))) →
        AreWhole q (net_row s es r)
    by_test true h = All-tail (λ (t : NetTerm). IsWholeOver q (plain t.coef)) (term_of s e) (net_row s es r) h
    by_test false h = h

each_suited : (s : Sizes) (q : ℕ) (es : List Entry) → All (EntryFits s) es →
    ((r : ℕ) → r < rows s → AreWhole q (net_row s es r)) → All (IsSuited q) es
each_suited s q [] fits whole = All-nil (IsSuited q)
each_suited s q (e ∷ es) fits whole =
    All-cons (IsSuited q) e es first
    (each_suited s q es (All-tail (EntryFits s) e es fits) (λ r h. rest_whole s q r e es (whole r h)))
  where
    r : ℕ
    r = row_place s e.block e.i

    first : IsSuited q e
    first read =
        let fit = All-head (EntryFits s) e es fits in
        let here : filter (is_in_row s r) (e ∷ es)
        ≡ e ∷ filter (is_in_row s r) es =
        cond-true (is_in_row s r e) (e ∷ filter (is_in_row s r) es) (filter (is_in_row s r) es)
        (and_from _ _ read (eq-eqb r r refl)) in
        All-head (λ (t : NetTerm). IsWholeOver q (plain t.coef)) (term_of s e) (net_row s es r)
        (subst (λ gs. AreWhole q (map (term_of s) gs)) here (whole r (place_below s e.block e.i fit.row)))

pub entries_suited : (f : Implicit) → ImplicitFits f → (q : ℕ) → IsDenominator (net_alone f) q →
    All (IsSuited q) f.entries
entries_suited f fits q denominator =
    each_suited f.sizes q f.entries fits.entries (denominators_divide f fits q denominator)

-- ---- coefficients

-- each coefficient that is not 0 is whole over q
abbrev pub Suits : ℕ → List Fraction → Type 0
Suits q cs = All (λ (c : Fraction). IsWholeOver q (plain c)) cs

pub suits_by_place : (q : ℕ) (cs : List Fraction) →
    ((i : ℕ) → i < length cs → IsWholeOver q (plain (coefficient cs i))) → Suits q cs
suits_by_place q [] h = All-nil (λ (c : Fraction). IsWholeOver q (plain c))
suits_by_place q (c ∷ cs) h =
    All-cons (λ (c : Fraction). IsWholeOver q (plain c)) c cs (h 0 (omega arith))
    (suits_by_place q cs (λ i l. h (suc i) (omega arith)))

-- the first, and those behind it
pub first_suits : (q : ℕ) (b : List Fraction) → 1 ≤ length b → IsWholeOver q (plain (coefficient b 0)) →
    Suits q (drop 1 b) → Suits q b
first_suits q [] h first rest = absurd (omega arith)
first_suits q (c ∷ cs) h first rest = All-cons (λ (c : Fraction). IsWholeOver q (plain c)) c cs first rest

-- coefficients across a row of a block that is read with its sign
pub across_suits : (q : ℕ) (b : Block) (i : ℕ) (cs : List Fraction) (j : ℕ) → ((j : ℕ) → is_read b i j ≡ true) →
    ((c : Fraction) → on_the_right b c ≡ c) → All (IsSuited q) (across b i j cs) → Suits q cs
across_suits q b i [] j read plus h = All-nil (λ (c : Fraction). IsWholeOver q (plain c))
across_suits q b i (c ∷ cs) j read plus h =
    let e : Entry = record { block = b; i = i; j = j; coef = c } in
    All-cons (λ (c : Fraction). IsWholeOver q (plain c)) c cs
    (subst (λ c. IsWholeOver q (plain c)) (plus c) (All-head (IsSuited q) e (across b i (j + 1) cs) h (read j)))
    (across_suits q b i cs (j + 1) read plus (All-tail (IsSuited q) e (across b i (j + 1) cs) h))
