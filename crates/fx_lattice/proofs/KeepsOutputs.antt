-- The lattice structure puts out what its equations put out.
use Rattle.std.proofs.Common.{◌≡◌, ℕ, zero, suc, ◌+◌, ◌-◌, ◌*◌, ◌/◌, ◌<◌, ◌≤◌, List, [], ◌∷◌, ◌++◌, length, All}
use Rattle.std.proofs.Common.{refl, arith, sym, ap, ap₂, subst, lit≤, ◌∙◌}
use Rattle.std.proofs.Math.IntN.{ℤ, ◌+ℤ◌, ◌*ℤ◌}
use Rattle.std.proofs.lemmas.List.Elements.{All-append, All-cons, All-head, All-nil, All-tail}
use Rattle.fx_math.specs.Sums.{joined}
use Rattle.fx_nums.specs.Fraction.{Fraction, IsWholeOver, minus, one_fraction}
use Rattle.fx_eqs.specs.Fits.{EquationsFit}
use Rattle.fx_eqs.specs.Textbook.{backward, backward_rows, forward, forward_rows, lattice_equations}
use Rattle.fx_eqs.specs.Textbook.{lattice_terms, over_sources, summand}
use Rattle.fx_eqs.specs.declared.limits.TheConstants.{REFLECTIONS}
use Rattle.fx_eqs.specs.declared.term.Term.{Term}
use Rattle.fx_eqs.proofs.SystemsFit.{system_fits}
use Rattle.fx_eqs.proofs.Lattices.{lattice_has_no_fault}
use Rattle.fx_net.specs.Net.{plain}
use Rattle.fx_net.specs.Run.{IsDenominator}
use Rattle.fx_sif.specs.Entries.{coefficient, entry}
use Rattle.fx_sif.specs.SameOutputs.{HasOutputs, equations_output, form_output, net_alone}
use Rattle.fx_sif.specs.declared.parts.Block.TheVariants.{J, L, M, S}
use Rattle.fx_sif.proofs.Agreement.{Agrees, has_outputs_of}
use Rattle.fx_sif.proofs.Denominators.{IsSuited, Suits, across_suits, all_of_both, all_of_rows, entries_suited}
use Rattle.fx_sif.proofs.Earlier.{ago}
use Rattle.fx_sif.proofs.EquationsAtScale.{EquationsMeet}
use Rattle.fx_sif.proofs.LagSums.{TermsSuit, column_sum, column_sum-same, kept_whole, sequence, sources_suit}
use Rattle.fx_sif.proofs.OneScale.{RowsMeet, cancelled, weight}
use Rattle.fx_sif.proofs.RowSums.{all_across, all_add}
use Rattle.fx_lattice.specs.Structure.{backward_row, forward_row, from_above, ladder_form, output_row, state_row}
use Rattle.fx_lattice.proofs.EquationRows as equations
use Rattle.fx_lattice.proofs.EquationRows.{backward_row_is, equations_ladder}
use Rattle.fx_lattice.proofs.FormRows as structure
use Rattle.fx_lattice.proofs.FormRows.{form_ladder, minus_twice, reads_before}
use Rattle.fx_lattice.proofs.Ladders.{ladders_same}
use Rattle.fx_lattice.proofs.NeverRefused.{ladder_fits, sizes_of}

-- ---- the sums of the taps

-- the same numbers, counted from elsewhere
moved_sum : (w : Fraction → ℤ) (f h : ℕ → ℤ) (m high j : ℕ) (cs : List Fraction) → j + length cs ≤ high →
    ((i : ℕ) → i < high → f (m + i) ≡ h i) → column_sum w f (m + j) cs ≡ column_sum w h j cs
moved_sum w f h m high j [] room same = refl
moved_sum w f h m high j (c ∷ cs) room same =
    let next : m + j + 1 ≡ m + (j + 1) = omega arith in
    ap₂ (λ a b. w c *ℤ a +ℤ b) (same j (omega arith)) (ap (λ i. column_sum w f i cs) next
    ∙ moved_sum w f h m high (j + 1) cs (omega arith) same)

taps_same : (w : Fraction → ℤ) (n : ℕ) (v : List Fraction) (x y u : ℕ → ℕ → ℤ) (k : ℕ) → length v ≡ n + 1 →
    ((r : ℕ) → r < 2 * n → x k r ≡ y k r) →
    all_add (sizes_of n) w x u k (output_row n v) ≡ column_sum w (λ j. ago (sequence y u (backward n j)) k 0) 0 v
taps_same w zero v x y u k long same =
    all_across (sizes_of 0) w x u k S 0 0 v (λ c. refl)
    ∙ column_sum-same w (λ j. u k j) (λ j. u k 0) 1 0 v (omega arith) (λ i h.
    ap (λ j. u k j) (let first : i ≡ 0 = omega (arith, h) in first))
taps_same w (suc m) v x y u k long same =
    let n = suc m in
    let at : m ≡ m + 0 = omega arith in
    all_across (sizes_of n) w x u k L 0 m v (λ c. refl)
    ∙ ap (λ j. column_sum w (λ j. x k j) j v) at
    ∙ moved_sum w (λ j. x k j) (λ j. ago (sequence y u (backward n j)) k 0) m (n + 1) 0 v (omega arith)
    (λ i h.
    let here : m + i ≡ n - 1 + i = omega arith in
    same (m + i) (omega arith) ∙ ap (λ r. y k r) here
    ∙ sym (ap (λ from. sequence y u from k) (backward_row_is n i (omega arith))))

-- ---- denominators

one_suits : (q : ℕ) → IsWholeOver q (plain one_fraction)
one_suits q = let whole : q / 1 ≡ q = omega arith in omega (arith, whole)

forward_suits : (q n i : ℕ) (cs : List Fraction) →
    ((m : ℕ) → m < length cs → IsWholeOver q (plain (minus (coefficient cs m)))) →
    TermsSuit q (forward_rows n i cs)
forward_suits q n i [] each = All-nil (λ (t : Term). IsWholeOver q (plain t.coef))
forward_suits q n i (c ∷ cs) each =
    let P : Term → Type 0 = λ t. IsWholeOver q (plain t.coef) in
    let first = summand (n - 1 - i) one_fraction (forward n (i + 1)) 0 in
    let second = summand (n - 1 - i) (minus c) (backward n i) 1 in
    All-append P (forward_rows n (i + 1) cs) (first ∷ second ∷ [])
    (forward_suits q n (i + 1) cs (λ m h. each (suc m) (omega arith)))
    (All-cons P first (second ∷ []) (one_suits q) (All-cons P second [] (each 0 (omega arith)) (All-nil P)))

backward_suits : (q n i : ℕ) (cs : List Fraction) →
    ((m : ℕ) → m < length cs → IsWholeOver q (plain (coefficient cs m))) → TermsSuit q (backward_rows n i cs)
backward_suits q n i [] each = All-nil (λ (t : Term). IsWholeOver q (plain t.coef))
backward_suits q n i (c ∷ cs) each =
    let P : Term → Type 0 = λ t. IsWholeOver q (plain t.coef) in
    let first = summand (n + i) c (forward n i) 0 in
    let second = summand (n + i) one_fraction (backward n i) 1 in
    All-cons P first (second ∷ backward_rows n (i + 1) cs) (each 0 (omega arith))
    (All-cons P second (backward_rows n (i + 1) cs) (one_suits q)
    (backward_suits q n (i + 1) cs (λ m h. each (suc m) (omega arith))))

output_suits : (q n : ℕ) (v : List Fraction) → All (IsSuited q) (output_row n v) → Suits q v
output_suits q zero v h = across_suits q S 0 v 0 (λ j. refl) (λ c. refl) h
output_suits q (suc m) v h = across_suits q L 0 v m (λ j. refl) (λ c. refl) h

terms_suit : (k v : List Fraction) → length k ≤ 11 → length v ≡ length k + 1 → (q : ℕ) →
    IsDenominator (net_alone (ladder_form k v)) q → TermsSuit q (lattice_terms k v)
terms_suit k v few taps q denominator =
    let n = length k in
    let P : Term → Type 0 = λ t. IsWholeOver q (plain t.coef) in
    let forwards = joined n (forward_row k) in
    let backwards = joined n (backward_row k) in
    let states = joined n (state_row n) in
    let whole = all_of_both (IsSuited q) (forwards ++ backwards ++ states) (output_row n v)
    (entries_suited (ladder_form k v) (ladder_fits k v few taps) q denominator) in
    let rows = (all_of_both (IsSuited q) (forwards ++ backwards) states whole.0).0 in
    let parts = all_of_both (IsSuited q) forwards backwards rows in
    All-append P (forward_rows n 0 k ++ backward_rows n 0 k) (over_sources (2 * n) (backward n) 0 0 v)
    (All-append P (forward_rows n 0 k) (backward_rows n 0 k)
    (forward_suits q n 0 k (λ m h. forward_of m h parts.0))
    (backward_suits q n 0 k (λ m h. backward_of m h parts.1)))
    (sources_suit q (2 * n) (backward n) 0 0 v (output_suits q n v whole.1))
  where
    forward_of : (m : ℕ) → m < length k → All (IsSuited q) (joined (length k) (forward_row k)) →
        IsWholeOver q (plain (minus (coefficient k m)))
    forward_of m h all =
        let n = length k in
        let r = n - 1 - m in
        let i = n - 1 - r in
        let here : i ≡ m = omega arith in
        let row = all_of_rows (IsSuited q) n (forward_row k) all r (omega arith) in
        let second = entry M r i (minus (coefficient k i)) in
        let suited : IsWholeOver q (plain (minus (coefficient k i))) =
        All-head (IsSuited q) second [] (All-tail (IsSuited q) (from_above r) (second ∷ []) row) refl in
        subst (λ i. IsWholeOver q (plain (minus (coefficient k i)))) here suited

    backward_of : (m : ℕ) → m < length k → All (IsSuited q) (joined (length k) (backward_row k)) →
        IsWholeOver q (plain (coefficient k m))
    backward_of m h all =
        let n = length k in
        let row = all_of_rows (IsSuited q) n (backward_row k) all m h in
        let first = entry J (n + m) (n - 1 - m) (minus (coefficient k m)) in
        let second = entry M (n + m) m one_fraction in
        subst (λ c. IsWholeOver q (plain c)) (minus_twice (coefficient k m))
        (All-head (IsSuited q) first (second ∷ []) row (reads_before n m h))

-- ---- the law

equations_fit : (k v : List Fraction) → length k ≤ 11 → length v ≡ length k + 1 → EquationsFit (lattice_equations k v)
equations_fit k v few taps =
    let n = length k in
    system_fits (2 * n + 1) 1 (lattice_terms k v) ((2 * n) ∷ []) (lit≤ tt) (lit≤ tt) (lit≤ tt) (lit≤ tt)
    (λ h. All-cons (λ o. o < 2 * n + 1) (2 * n) [] (omega arith) (All-nil (λ o. o < 2 * n + 1)))
    (lattice_has_no_fault k v few (omega arith))

ladder_agrees : (k v : List Fraction) → length k ≤ 11 → length v ≡ length k + 1 →
    Agrees (ladder_form k v) (lattice_equations k v)
ladder_agrees k v few taps = record {
  inputs = refl;
  outputs = refl;
  inside = λ o h. let first : 0 ≡ o = omega (arith, h) in
      subst (λ o. equations_output (lattice_equations k v) o < 2 * length k + 1) first (omega arith);
  suits = λ q denominator. kept_whole q (lattice_terms k v) (terms_suit k v few taps q denominator);
  same = same;
}
  where
    same : (q g last : ℕ) (x y u : ℕ → ℕ → ℤ) → 0 < q * g → RowsMeet (ladder_form k v) q g last x u →
        EquationsMeet (lattice_equations k v) q g last y u →
        (o m : ℕ) → o < 1 → m ≤ last → x m (form_output (ladder_form k v) o)
        ≡ y m (equations_output (lattice_equations k v) o)
    same q g last x y u positive meet theirs o m below h =
        let n = length k in
        let first : 0 ≡ o = omega (arith, below) in
        let rows = ladders_same (weight q g) (q * g) last k u x y positive
        (form_ladder k v q g last x u positive meet) (equations_ladder k v q g last y u theirs) m h in
        subst (λ o. x m (form_output (ladder_form k v) o) ≡ y m (equations_output (lattice_equations k v) o)) first
        (cancelled (q * g) (x m (2 * n + n + 0)) (y m (2 * n)) positive
        (structure.of_output k v q g last x u positive meet m h
        ∙ taps_same (weight q g) n v x y u m taps rows
        ∙ sym (equations.of_output k v q g last y u theirs m h)))

pub ladder_has_outputs : (k v : List Fraction) → length k ≤ REFLECTIONS → length v ≡ length k + 1 →
    HasOutputs (ladder_form k v) (lattice_equations k v)
ladder_has_outputs k v few taps =
    has_outputs_of (ladder_form k v) (lattice_equations k v) (ladder_fits k v few taps)
    (equations_fit k v few taps) (ladder_agrees k v few taps)
