-- In a run of a form alone each row is the sum of its terms.
use Rattle.std.proofs.Common.{◌≡◌, ℕ, ◌+◌, ◌-◌, ◌<◌, ◌≤◌, Bool, true, false, cond, ◌&&◌, eqb, nat_le, nat_lt}
use Rattle.std.proofs.Common.{List, [], ◌∷◌, map, filter, length, All, refl, arith, sym, ap, ap₂, ◌∙◌}
use Rattle.std.proofs.Common.{unsigned_abs}
use Rattle.std.proofs.Math.IntN.{ℤ, pos, ◌+ℤ◌, ◌*ℤ◌}
use Rattle.std.specs.List.{IsDistinct}
use Rattle.std.proofs.lemmas.Int.{ints}
use Rattle.std.proofs.lemmas.Bool.{eq-eqb, eqb-true, cond-true, and_from, and_parts, le-leb, lt-ltb, ltb-true}
use Rattle.std.proofs.lemmas.Bool.{true≢false}
use Rattle.std.proofs.lemmas.List.Elements.{All-head, All-tail, All-nil, All-cons}
use Rattle.std.proofs.lemmas.Map.Keys.{IsDistinct-tail}
use Rattle.fx_nums.specs.Fraction.{Fraction, over, IsWholeOver, zero_fraction}
use Rattle.fx_eqs.specs.Expanded.{NetRead, NetTerm}
use Rattle.fx_eqs.specs.Expanded.NetRead.{Now, Old, In}
use Rattle.fx_eqs.proofs.Distinct.{distinct_head}
use Rattle.fx_net.specs.Net.{Net, plain}
use Rattle.fx_net.specs.Rows.{reads_now, reads_old, reads_input, coefficient_or, coefficient, row_of, put_rows}
use Rattle.fx_net.specs.Rows.{ReadFits}
use Rattle.fx_net.specs.Run.{row_sum}
use Rattle.fx_net.proofs.Coefficients.{NotRead, AreOnce, AllFit, value_at, net_sum}
use Rattle.fx_net.proofs.Carried.{of_now, of_old, of_input}
use Rattle.fx_net.proofs.Terms.{HasTerms, AllWhole, as_terms, whole_terms}
use Rattle.fx_sif.specs.Blocks.{height, width, is_at, same_place}
use Rattle.fx_sif.specs.Fits.{EntryFits, ImplicitFits}
use Rattle.fx_sif.specs.Implicit.{Implicit, rows}
use Rattle.fx_sif.specs.Rows.{row_place, net_read, on_the_right, is_read, term_of, is_in_row, net_row, rows_of}
use Rattle.fx_sif.specs.Runs.{read_value, terms_value, RunsAreSums, DenominatorsDivide}
use Rattle.fx_sif.specs.SameOutputs.{net_alone}
use Rattle.fx_eqs.specs.declared.limits.TheConstants.{PORTS}
use Rattle.fx_sif.specs.declared.parts.Block.{Block}
use Rattle.fx_sif.specs.declared.parts.Block.TheVariants.{J, K, L, M, N, P, Q, R, S}
use Rattle.fx_sif.specs.declared.parts.Entry.{Entry}
use Rattle.fx_sif.specs.declared.parts.Sizes.{Sizes}
use Rattle.fx_sif.proofs.Kept.{is_zero-value}
use Rattle.fx_sif.proofs.Matches.{same_read, stands_at, stands_from, place_matches}
use Rattle.fx_sif.proofs.Placing.{length-rows, row-rows}

-- ---- coefficients of value 0

plain-twice : (c : Fraction) → plain (plain c) ≡ plain c
plain-twice c = by_test (eqb (unsigned_abs c.num) 0) refl
  where
    by_test : (b : Bool) → eqb (unsigned_abs c.num) 0 ≡ b → plain (cond b zero_fraction c) ≡ cond b zero_fraction c
    by_test true e = refl
    by_test false e = ap (λ b. cond b zero_fraction c) e

over-plain : (q : ℕ) (c : Fraction) → over q (plain c) ≡ over q c
over-plain q c = by_test (eqb (unsigned_abs c.num) 0) refl
  where
    by_test : (b : Bool) → eqb (unsigned_abs c.num) 0 ≡ b → over q (cond b zero_fraction c) ≡ over q c
    by_test true e = let none : c.num ≡ pos 0 = is_zero-value c.num e in rw none (omega (arith, ints))
    by_test false e = refl

abbrev plain_term : NetTerm → NetTerm
plain_term t = record { coef = plain t.coef; from = t.from }

plain_coefficient : (reads : NetRead → Bool) (c : Fraction) (ts : List NetTerm) →
    coefficient_or c reads (map plain_term ts) ≡ coefficient_or c reads ts
plain_coefficient reads c [] = refl
plain_coefficient reads c (t ∷ ts) =
    plain_coefficient reads (cond (reads t.from) (plain (plain t.coef)) c) ts
    ∙ ap (λ x. coefficient_or (cond (reads t.from) x c) reads ts) (plain-twice t.coef)

-- ---- what a row reads

-- the terms of a row, its entries being those before or not
abbrev plains : Sizes → List Entry → ℕ → List NetTerm
plains s es r = map plain_term (net_row s es r)

same_itself : (from : NetRead) → same_read from from ≡ true
same_itself (Now a) = eq-eqb a a refl
same_itself (Old a) = eq-eqb a a refl
same_itself (In a) = eq-eqb a a refl

-- a row of a form reads what is there
pub reads_there : (s : Sizes) (r : ℕ) (b : Block) (i j : ℕ) → s.u ≤ PORTS → i < height s b → j < width s b →
    is_read b i j ≡ true → row_place s b i ≡ r → ReadFits (rows s) 0 r (net_read s b j)
reads_there s r J i j few h k read place = let below : j < i = ltb-true j i read in omega arith
reads_there s r K i j few h k read place = omega arith
reads_there s r L i j few h k read place = omega arith
reads_there s r M i j few h k read place = omega arith
reads_there s r N i j few h k read place = omega arith
reads_there s r P i j few h k read place = omega arith
reads_there s r Q i j few h k read place = omega arith
reads_there s r R i j few h k read place = omega arith
reads_there s r S i j few h k read place = omega arith

-- one more entry of a row, or of another
in_row : (Claim : List NetTerm → Type 0) (s : Sizes) (r : ℕ) (e : Entry) (es : List Entry) →
    (is_read e.block e.i e.j ≡ true → row_place s e.block e.i ≡ r → Claim (plain_term (term_of s e) ∷ plains s es r)) →
    Claim (plains s es r) → Claim (plains s (e ∷ es) r)
in_row Claim s r e es here elsewhere = by_test (is_in_row s r e) refl
  where
    by_test : (b : Bool) → is_in_row s r e ≡ b →
        Claim (map plain_term (map (term_of s) (cond b (e ∷ filter (is_in_row s r) es) (filter (is_in_row s r) es))))
    by_test true h = let p = and_parts (is_read e.block e.i e.j) (eqb (row_place s e.block e.i) r) h in
        here p.0 (eqb-true (row_place s e.block e.i) r p.1)
    by_test false h = elsewhere

all_fit : (s : Sizes) (r : ℕ) (es : List Entry) → s.u ≤ PORTS → All (EntryFits s) es →
    AllFit (rows s) 0 r (plains s es r)
all_fit s r [] few fits = tt
all_fit s r (e ∷ es) few fits =
    let rest = all_fit s r es few (All-tail (EntryFits s) e es fits) in
    let here = All-head (EntryFits s) e es fits in
    in_row (AllFit (rows s) 0 r) s r e es
    (λ read place. (reads_there s r e.block e.i e.j few here.row here.column read place, rest)) rest

-- entries of one row that read the same are in the same place
apart_reads : (s : Sizes) (e g : Entry) → EntryFits s e → EntryFits s g →
    row_place s g.block g.i ≡ row_place s e.block e.i → same_place g e ≡ false →
    net_read s g.block g.j ≡ net_read s e.block e.j → ⊥
apart_reads s e g fe fg place apart same =
    let reads : same_read (net_read s e.block e.j) (net_read s g.block g.j)
    ≡ true = rw same (same_itself (net_read s e.block e.j)) in
    let here : is_at e.block e.i e.j g ≡ true = sym (place_matches s e.block e.i e.j g fe.row fg)
    ∙ and_from _ _ (eq-eqb (row_place s g.block g.i) (row_place s e.block e.i) place) reads in
    let p = stands_at e.block e.i e.j g here in
    let there : is_at g.block g.i g.j e ≡ true = stands_from g.block g.i g.j e (sym p.0) (sym p.1.0) (sym p.1.1) in
    true≢false (sym there ∙ apart)

not_read : (s : Sizes) (r : ℕ) (e : Entry) (es : List Entry) → row_place s e.block e.i ≡ r → EntryFits s e →
    All (EntryFits s) es → All (λ g. same_place g e ≡ false) es → NotRead (net_read s e.block e.j) (plains s es r)
not_read s r e [] place fe fits apart = tt
not_read s r e (g ∷ es) place fe fits apart =
    let rest = not_read s r e es place fe (All-tail (EntryFits s) g es fits)
    (All-tail (λ g. same_place g e ≡ false) g es apart) in
    in_row (NotRead (net_read s e.block e.j)) s r g es
    (λ read there. (
      apart_reads s e g fe (All-head (EntryFits s) g es fits) (there ∙ sym place) (All-head
          (λ g. same_place g e ≡ false) g es apart),
      rest,
    ))
    rest

once : (s : Sizes) (r : ℕ) (es : List Entry) → All (EntryFits s) es → IsDistinct (λ (e g : Entry). same_place g e) es →
    AreOnce (plains s es r)
once s r [] fits apart = tt
once s r (e ∷ es) fits apart =
    let rest = once s r es (All-tail (EntryFits s) e es fits)
    (IsDistinct-tail (λ (e g : Entry). same_place g e) e es apart) in
    in_row AreOnce s r e es
    (λ read place. (
      not_read s r e es place (All-head (EntryFits s) e es fits) (All-tail (EntryFits s) e es fits)
          (distinct_head (λ (e g : Entry). same_place g e) e es apart),
      plain-twice (on_the_right e.block e.coef),
      rest,
    ))
    rest

-- ---- the net

-- a row of the net alone has its row's coefficients
pub row_is : (reads : NetRead → Bool) (f : Implicit) (r : ℕ) (c : Fraction) → r < rows f.sizes →
    cond (nat_le 0 r && nat_lt r (0 + length (rows_of f))) (coefficient reads (row_of (rows_of f) (r - 0))) c
    ≡ coefficient reads (net_row f.sizes f.entries r)
row_is reads f r c h =
    cond-true _ _ _ (and_from _ _ (le-leb 0 r (omega arith)) (lt-ltb r (0 + length (rows_of f)) (omega
    (arith, h, length-rows f))))
    ∙ ap (λ p. coefficient reads (row_of (rows_of f) p)) (let same : r - 0 ≡ r = omega arith in same)
    ∙ ap (coefficient reads) (row-rows f r h)

row_has : (reads : NetRead → Bool) (f : Implicit) (r : ℕ) (c : Fraction) → r < rows f.sizes →
    cond (nat_le 0 r && nat_lt r (0 + length (rows_of f))) (coefficient reads (row_of (rows_of f) (r - 0))) c
    ≡ coefficient reads (plains f.sizes f.entries r)
row_has reads f r c h = row_is reads f r c h ∙ sym (plain_coefficient reads zero_fraction (net_row f.sizes f.entries r))

now_has : (f : Implicit) (r j : ℕ) → r < rows f.sizes →
    (net_alone f).now r j ≡ coefficient (reads_now 0 j) (plains f.sizes f.entries r)
unfolding put_rows
now_has f r j h = row_has (reads_now 0 j) f r _ h

old_has : (f : Implicit) (r j : ℕ) → r < rows f.sizes →
    (net_alone f).old r j ≡ coefficient (reads_old 0 j) (plains f.sizes f.entries r)
unfolding put_rows
old_has f r j h = row_has (reads_old 0 j) f r _ h

input_has : (f : Implicit) (r j : ℕ) → r < rows f.sizes →
    (net_alone f).input r j ≡ coefficient (reads_input j) (plains f.sizes f.entries r)
unfolding put_rows
input_has f r j h = row_has (reads_input j) f r _ h

rows_alone : (f : Implicit) → (net_alone f).rows ≡ rows f.sizes
unfolding put_rows
rows_alone f = refl

-- a row of the net alone has its row's terms
has_terms : (f : Implicit) (r : ℕ) → ImplicitFits f → r < rows f.sizes →
    HasTerms (net_alone f) 0 r (plains f.sizes f.entries r)
has_terms f r fits h =
    let first : 0 + r ≡ r = omega arith in
    let inside : 0 + r < rows f.sizes = omega (arith, h) in
    record {
      inside = rw (rows_alone f) inside;
      once = once f.sizes r f.entries fits.entries fits.once;
      fits = rw (rows_alone f) (all_fit f.sizes r f.entries fits.inputs_high fits.entries);
      now = λ j l. ap (λ i. (net_alone f).now i j) first ∙ now_has f r j h;
      old = λ j l. ap (λ i. (net_alone f).old i j) first ∙ old_has f r j h;
      input = λ j l. ap (λ i. (net_alone f).input i j) first ∙ input_has f r j h;
    }

-- ---- the sums

value_is : (net : Net) (q : ℕ) (u z : ℕ → ℕ → ℤ) (k r : ℕ) (from : NetRead) →
    value_at 0 from (of_now q z k r) (of_old net q z k r) (of_input net q u k r) ≡ read_value net.rows q u z k r from
value_is net q u z k r (Now j) = let same : 0 + j ≡ j = omega arith in ap (of_now q z k r) same
value_is net q u z k r (Old j) = let same : 0 + j ≡ j = omega arith in ap (of_old net q z k r) same
value_is net q u z k r (In j) = refl

sum_is : (net : Net) (q : ℕ) (u z : ℕ → ℕ → ℤ) (k r : ℕ) (ts : List NetTerm) →
    net_sum q 0 (map plain_term ts) (of_now q z k r) (of_old net q z k r) (of_input net q u k r)
    ≡ terms_value net.rows q u z k r ts
sum_is net q u z k r [] = refl
sum_is net q u z k r (t ∷ ts) =
    ap₂ (λ x y. x +ℤ y) (ap₂ (λ x y. x *ℤ y) (over-plain q t.coef) (value_is net q u z k r t.from))
    (sum_is net q u z k r ts)

pub runs_are_sums : (f : Implicit) → ImplicitFits f → RunsAreSums f
runs_are_sums f fits q u z run k r h =
    let net : Net = net_alone f in
    let ts = plains f.sizes f.entries r in
    let first : 0 + r ≡ r = omega arith in
    run.row k r (rw (rows_alone f) h)
    ∙ omega (arith, ints)
    ∙ ap (row_sum net q u z k) (sym first)
    ∙ as_terms net 0 q r ts u z k (has_terms f r fits h)
    ∙ ap (λ i. net_sum q 0 ts (of_now q z k i) (of_old net q z k i) (of_input net q u k i)) first
    ∙ sum_is net q u z k r (net_row f.sizes f.entries r)
    ∙ ap (λ n. terms_value n q u z k r (net_row f.sizes f.entries r)) (rows_alone f)

-- ---- denominators

as_given : (q : ℕ) (ts : List NetTerm) → AllWhole q (map plain_term ts) →
    All (λ (t : NetTerm). IsWholeOver q (plain t.coef)) ts
as_given q [] whole = All-nil (λ (t : NetTerm). IsWholeOver q (plain t.coef))
as_given q (t ∷ ts) whole =
    All-cons (λ (t : NetTerm). IsWholeOver q (plain t.coef)) t ts whole.0 (as_given q ts whole.1)

pub denominators_divide : (f : Implicit) → ImplicitFits f → DenominatorsDivide f
denominators_divide f fits q den r h =
    as_given q (net_row f.sizes f.entries r)
    (whole_terms (net_alone f) 0 q r (plains f.sizes f.entries r) den (has_terms f r fits h))
