-- Sections one behind the other, each of which meets its recursion over the one before it, have one solution.
use Rattle.std.proofs.Common.{◌≡◌, ℕ, zero, suc, ◌+◌, ◌-◌, ◌*◌, ◌<◌, ◌≤◌, List, [], ◌∷◌, length, take, drop}
use Rattle.std.proofs.Common.{All, refl, arith, lit≤, sym, ap, ap₂, subst, ◌∙◌}
use Rattle.std.proofs.Math.IntN.{ℤ, pos, ◌+ℤ◌}
use Rattle.std.proofs.lemmas.List.{drop-drop}
use Rattle.std.proofs.lemmas.List.Elements.{All-append, All-cons, All-nil}
use Rattle.fx_nums.specs.Fraction.{Fraction, IsWholeOver, minus}
use Rattle.fx_eqs.specs.Fits.{EquationsFit}
use Rattle.fx_eqs.specs.Textbook.{recursion, sections, sos_equations, sos_terms}
use Rattle.fx_eqs.specs.TextbookRuns.{denominator_of, numerator_of, section_source}
use Rattle.fx_eqs.specs.declared.term.Source.{Source}
use Rattle.fx_eqs.specs.declared.term.Source.TheVariants.{Row, In}
use Rattle.fx_eqs.specs.declared.term.Term.{Term}
use Rattle.fx_eqs.proofs.Recursions.{sos_has_no_fault}
use Rattle.fx_net.specs.Net.{plain}
use Rattle.fx_sif.specs.Entries.{coefficient}
use Rattle.fx_sif.proofs.Denominators.{Suits}
use Rattle.fx_sif.proofs.Earlier.{weigh}
use Rattle.fx_sif.proofs.EarlierSums.{weigh_same}
use Rattle.fx_sif.proofs.EquationsAtScale.{EquationsMeet}
use Rattle.fx_sif.proofs.LagSums.{TermsSuit, kept_whole, lag_sum, lag_sum-back, lag_sum-front, lag_sum-kept}
use Rattle.fx_sif.proofs.LagSums.{lag_sum-other_recursion, lag_sum-recursion, recursion_suits, sequence}
use Rattle.fx_sif.proofs.OneScale.{no_weight, weight}
use Rattle.fx_sif.proofs.Recursion.{MeetsAt, fed_back}
use Rattle.fx_eqs.proofs.SystemsFit.{system_fits}
use Rattle.fx_sif.proofs.Uniqueness.{same_sequence}
use Rattle.fx_cascade.specs.Sections.{SectionsFit, count_of, b0, b1, b2, a1, a2}
use Rattle.fx_cascade.proofs.NeverRefused.{count_fits}

-- ---- the lists of a section

three_at : (cs : List Fraction) (n : ℕ) → n + 3 ≤ length cs →
    take 3 (drop n cs) ≡ coefficient cs n ∷ coefficient cs (n + 1) ∷ coefficient cs (n + 2) ∷ []
three_at [] n h = absurd (omega arith)
three_at (c ∷ []) zero h = absurd (omega arith)
three_at (c ∷ d ∷ []) zero h = absurd (omega arith)
three_at (c ∷ d ∷ e ∷ cs) zero h = refl
three_at (c ∷ cs) (suc n) h =
    let one : suc n + 1 ≡ suc (n + 1) = omega arith in
    let two : suc n + 2 ≡ suc (n + 2) = omega arith in
    three_at cs n (omega arith)
    ∙ ap₂ (λ i j. coefficient cs n ∷ coefficient (c ∷ cs) i ∷ coefficient (c ∷ cs) j ∷ []) (sym one) (sym two)

pub numerator_is : (cs : List Fraction) → SectionsFit cs → (i : ℕ) → i < count_of cs →
    numerator_of cs i ≡ b0 cs i ∷ b1 cs i ∷ b2 cs i ∷ []
numerator_is cs fits i h = let whole = fits.whole in three_at cs (6 * i) (omega (arith, whole, h))

pub fed_back_is : (cs : List Fraction) → SectionsFit cs → (i : ℕ) → i < count_of cs →
    fed_back (denominator_of cs i) ≡ minus (a1 cs i) ∷ minus (a2 cs i) ∷ []
fed_back_is cs fits i h =
    let whole = fits.whole in
    let one : 6 * i + 3 + 1 ≡ 6 * i + 4 = omega arith in
    let two : 6 * i + 3 + 2 ≡ 6 * i + 5 = omega arith in
    ap fed_back (three_at cs (6 * i + 3) (omega (arith, whole, h)))
    ∙ ap₂ (λ m n. minus (coefficient cs m) ∷ minus (coefficient cs n) ∷ []) one two

-- ---- the recursions

-- each section meets its recursion over what it takes in
abbrev pub MeetSections : List Fraction → ℕ → (Fraction → ℤ) → ℕ → ℕ → (ℕ → ℕ → ℤ) → (ℕ → ℕ → ℤ) → Type 0
MeetSections cs n w d last x u =
    (i k : ℕ) → i < n → k ≤ last →
    MeetsAt w d (numerator_of cs i) (denominator_of cs i) (sequence x u (section_source i)) (λ k. x k i) k

module _ (cs : List Fraction) (n : ℕ) (w : Fraction → ℤ) (d last : ℕ) (x y u : ℕ → ℕ → ℤ) (positive : 0 < d)
    (of_x : MeetSections cs n w d last x u) (of_y : MeetSections cs n w d last y u) where
  one_section : (i : ℕ) → i < n →
      ((k : ℕ) → k ≤ last → sequence x u (section_source i) k ≡ sequence y u (section_source i) k) →
      (k : ℕ) → k ≤ last → x k i ≡ y k i
  one_section i h taken k l =
      same_sequence w d last (λ k. weigh w (sequence x u (section_source i)) k 0 (numerator_of cs i)) (λ k. x k i)
      (λ k. y k i)
      (fed_back (denominator_of cs i)) positive (λ k l. of_x i k h l)
      (λ k l. of_y i k h l
      ∙ ap (λ a. a +ℤ weigh w (λ k. y k i) k 1 (fed_back (denominator_of cs i)))
      (sym (weigh_same w (sequence x u (section_source i)) (sequence y u (section_source i)) k (numerator_of cs i) 0
      (λ j b. taken j (omega arith)))))
      k l

  pub sections_same : (i : ℕ) → i < n → (k : ℕ) → k ≤ last → x k i ≡ y k i
  sections_same zero h = one_section zero h (λ k l. refl)
  sections_same (suc i) h = one_section (suc i) h (sections_same i (omega arith))

-- ---- the equations

-- what the section behind so many others reads
abbrev behind : Source → ℕ → ℕ → Source
behind from row zero = from
behind from row (suc j) = Row (row + j)

behind_is : (row j : ℕ) → behind (Row row) (row + 1) j ≡ Row (row + j)
behind_is row zero = let e : row ≡ row + 0 = omega arith in ap Row e
behind_is row (suc j) = let e : row + 1 + j ≡ row + suc j = omega arith in ap Row e

behind_input : (j : ℕ) → behind (In 0) 0 j ≡ section_source j
behind_input zero = refl
behind_input (suc j) = let e : 0 + j ≡ j = omega arith in ap Row e

module _ (w : Fraction → ℤ) (y u : ℕ → ℕ → ℤ) (k i : ℕ) where
  later_sections : (count row : ℕ) (from : Source) (cs : List Fraction) → i < row →
      lag_sum w y u k i (sections count row from cs) ≡ pos 0
  later_sections zero row from cs h = refl
  later_sections (suc count) row from cs h =
      let one = recursion row from (take 3 cs) (take 3 (drop 3 cs)) in
      let rest = sections count (row + 1) (Row row) (drop 6 cs) in
      lag_sum-front w y u k i one rest (later_sections count (row + 1) (Row row) (drop 6 cs) (omega arith))
      ∙ lag_sum-other_recursion w y u k i row from (take 3 cs) (take 3 (drop 3 cs)) (λ same. omega (arith, same, h))

  its_section : (count row : ℕ) (from : Source) (cs : List Fraction) (j : ℕ) → j < count → row + j ≡ i →
      lag_sum w y u k i (sections count row from cs)
      ≡ lag_sum w y u k i (recursion i (behind from row j) (numerator_of cs j) (denominator_of cs j))
  its_section zero row from cs j h same = absurd (omega arith)
  its_section (suc count) row from cs zero h same =
      let one = recursion row from (take 3 cs) (take 3 (drop 3 cs)) in
      let rest = sections count (row + 1) (Row row) (drop 6 cs) in
      let here : row ≡ i = omega arith in
      lag_sum-front w y u k i one rest (later_sections count (row + 1) (Row row) (drop 6 cs) (omega arith))
      ∙ ap (λ r. lag_sum w y u k i (recursion r from (take 3 cs) (take 3 (drop 3 cs)))) here
  its_section (suc count) row from cs (suc j) h same =
      let one = recursion row from (take 3 cs) (take 3 (drop 3 cs)) in
      let rest = sections count (row + 1) (Row row) (drop 6 cs) in
      let at : 6 * j + 6 ≡ 6 * suc j = omega arith in
      let at_three : 6 * j + 3 + 6 ≡ 6 * suc j + 3 = omega arith in
      let first : drop (6 * j) (drop 6 cs) ≡ drop (6 * suc j) cs = drop-drop (6 * j) 6 cs
      ∙ ap (λ n. drop n cs) (omega arith) in
      let second : drop (6 * j + 3) (drop 6 cs) ≡ drop (6 * suc j + 3) cs = drop-drop (6 * j + 3) 6 cs
      ∙ ap (λ n. drop n cs) (omega arith) in
      lag_sum-back w y u k i one rest
      (lag_sum-other_recursion w y u k i row from (take 3 cs) (take 3 (drop 3 cs)) (λ e. omega (arith, e, same)))
      ∙ its_section count (row + 1) (Row row) (drop 6 cs) j (omega arith) (omega arith)
      ∙ ap (λ from. lag_sum w y u k i (recursion i from (numerator_of (drop 6 cs) j) (denominator_of (drop 6 cs) j)))
      (behind_is row j)
      ∙ ap₂ (λ b a. lag_sum w y u k i (recursion i (Row (row + j)) (take 3 b) (take 3 a))) first second

pub equations_meet_sections : (cs : List Fraction) (q g last : ℕ) (y u : ℕ → ℕ → ℤ) →
    EquationsMeet (sos_equations cs) q g last y u →
    MeetSections cs (count_of cs) (weight q g) (q * g) last y u
equations_meet_sections cs q g last y u theirs i k h l =
    let w = weight q g in
    theirs k i l h
    ∙ lag_sum-kept w y u k i (λ c none. no_weight q g c none) (sos_terms cs)
    ∙ its_section w y u k i (count_of cs) 0 (In 0) cs i h (omega arith)
    ∙ ap (λ from. lag_sum w y u k i (recursion i from (numerator_of cs i) (denominator_of cs i))) (behind_input i)
    ∙ lag_sum-recursion w y u k i (section_source i) (numerator_of cs i) (denominator_of cs i)

pub equations_fit : (cs : List Fraction) → SectionsFit cs → EquationsFit (sos_equations cs)
equations_fit cs fits =
    let n : ℕ = count_of cs in
    let counts = count_fits cs fits in
    let some = counts.some in
    let low : n - 1 < n = omega (arith, some) in
    system_fits n 1 (sos_terms cs) ((n - 1) ∷ []) (lit≤ tt) (lit≤ tt) (lit≤ tt) (lit≤ tt)
    (λ h. All-cons (λ o. o < n) (n - 1) [] low (All-nil (λ o. o < n)))
    (sos_has_no_fault n cs some counts.few fits.whole)

-- ---- coefficients that suit

-- q suits those of each section
pub record SectionSuits (q : ℕ) (cs : List Fraction) (i : ℕ) : Type 0 where
  pub of_b0 : IsWholeOver q (plain (b0 cs i))
  pub of_b1 : IsWholeOver q (plain (b1 cs i))
  pub of_b2 : IsWholeOver q (plain (b2 cs i))
  pub of_a1 : IsWholeOver q (plain (minus (a1 cs i)))
  pub of_a2 : IsWholeOver q (plain (minus (a2 cs i)))

sections_suit : (q count row : ℕ) (from : Source) (cs : List Fraction) →
    ((i : ℕ) → i < count → Suits q (numerator_of cs i)) →
    ((i : ℕ) → i < count → Suits q (fed_back (denominator_of cs i))) → TermsSuit q (sections count row from cs)
sections_suit q zero row from cs of_b of_a = All-nil (λ (t : Term). IsWholeOver q (plain t.coef))
sections_suit q (suc count) row from cs of_b of_a =
    let first : (j : ℕ) → drop (6 * suc j) cs
    ≡ drop (6 * j) (drop 6 cs) = λ j. sym (drop-drop (6 * j) 6 cs ∙ ap (λ n. drop n cs) (omega arith)) in
    let second : (j : ℕ) → drop (6 * suc j + 3) cs
    ≡ drop (6 * j + 3) (drop 6 cs) = λ j. sym (drop-drop (6 * j + 3) 6 cs ∙ ap (λ n. drop n cs) (omega arith)) in
    All-append (λ (t : Term). IsWholeOver q (plain t.coef)) (recursion row from (take 3 cs) (take 3 (drop 3 cs)))
    (sections count (row + 1) (Row row) (drop 6 cs))
    (recursion_suits q row from (take 3 cs) (take 3 (drop 3 cs)) (of_b 0 (omega arith)) (of_a 0 (omega arith)))
    (sections_suit q count (row + 1) (Row row) (drop 6 cs)
    (λ j h. subst (λ xs. Suits q (take 3 xs)) (first j) (of_b (suc j) (omega arith)))
    (λ j h. subst (λ xs. Suits q (fed_back (take 3 xs))) (second j) (of_a (suc j) (omega arith))))

pub equations_suit : (q : ℕ) (cs : List Fraction) → SectionsFit cs → ((i : ℕ) → i < count_of cs → SectionSuits q cs i) →
    All (λ (t : Term). IsWholeOver q t.coef) (sos_equations cs).terms
equations_suit q cs fits each =
    let W : Fraction → Type 0 = λ c. IsWholeOver q (plain c) in
    kept_whole q (sos_terms cs)
    (sections_suit q (count_of cs) 0 (In 0) cs
    (λ i h. subst (Suits q) (sym (numerator_is cs fits i h))
    (All-cons W (b0 cs i) (b1 cs i ∷ b2 cs i ∷ []) (each i h).of_b0
    (All-cons W (b1 cs i) (b2 cs i ∷ []) (each i h).of_b1 (All-cons W (b2 cs i) [] (each i h).of_b2 (All-nil W)))))
    (λ i h. subst (Suits q) (sym (fed_back_is cs fits i h))
    (All-cons W (minus (a1 cs i)) (minus (a2 cs i) ∷ []) (each i h).of_a1
    (All-cons W (minus (a2 cs i)) [] (each i h).of_a2 (All-nil W)))))
