-- The blocks, read from the entries and in the net.
use Rattle.std.proofs.Common.{◌≡◌, ℕ, ◌+◌, ◌-◌, ◌<◌, ◌⊎◌, inl, inr, Bool, true, false, cond, ◌&&◌, eqb, ltb}
use Rattle.std.proofs.Common.{nat_le, nat_lt, List, [], ◌∷◌, map, filter, length, All, refl, arith, sym, ap}
use Rattle.std.proofs.Common.{ap₂, ◌∙◌}
use Rattle.std.specs.List.{IsDistinct}
use mathlib.Core.Path.{fun_ext}
use Rattle.std.proofs.lemmas.Bool.{eq-eqb, ne_eqb, and_left, and_right, and_from, cond-true, cond-false}
use Rattle.std.proofs.lemmas.Bool.{cases_eq, lt-ltb, le-leb, ltb-true, true≢false}
use Rattle.std.proofs.lemmas.List.Elements.{All-head, All-tail}
use Rattle.std.proofs.lemmas.Map.Keys.{IsDistinct-tail}
use Rattle.fx_nums.specs.Fraction.{Fraction, one_fraction, zero_fraction}
use Rattle.fx_eqs.specs.Expanded.{NetRead, NetTerm}
use Rattle.fx_eqs.specs.Expanded.NetRead.{Now, Old, In}
use Rattle.fx_eqs.proofs.Distinct.{distinct_head}
use Rattle.fx_net.specs.Net.{Net, plain}
use Rattle.fx_net.specs.Rows.{reads_now, reads_old, reads_input, coefficient_or, coefficient, row_of, put_rows}
use Rattle.fx_sif.specs.Blocks.{height, is_at, same_place}
use Rattle.fx_sif.specs.Fits.{IsUnitLower, EntryFits, ImplicitFits}
use Rattle.fx_sif.specs.Implicit.{Implicit, rows, not_given, given_or}
use Rattle.fx_sif.specs.Laws.{JIsUnitLower, taken, NetsHaveBlocks}
use Rattle.fx_sif.specs.Rows.{row_place, net_read, on_the_right, is_read, term_of, is_in_row, net_row, rows_of}
use Rattle.fx_sif.specs.declared.parts.Block.{Block}
use Rattle.fx_sif.specs.declared.parts.Block.TheVariants.{J, K, L, M, N, P, Q, R, S}
use Rattle.fx_sif.specs.declared.parts.Entry.{Entry}
use Rattle.fx_sif.specs.declared.parts.Sizes.{Sizes}
use Rattle.fx_sif.proofs.Matches.{same_read, shifted, stands_at, stands_from, place_matches}
use Rattle.fx_sif.proofs.Placing.{length-rows, row-rows, place_below}

-- ---- J

-- the diagonal and what is above it, where nothing was given
missing_unit : (t i j : ℕ) → i < t → IsUnitLower i j (cond (eqb i j && ltb i t) one_fraction zero_fraction)
missing_unit t i j h = by_place (cases_eq i j)
  where
    by_place : (i ≡ j) ⊎ (i ≡ j → ⊥) → IsUnitLower i j (cond (eqb i j && ltb i t) one_fraction zero_fraction)
    by_place (inl a) = rw (cond-true (eqb i j && ltb i t) one_fraction zero_fraction (and_from _ _ (eq-eqb i j a)
        (lt-ltb i t h))) (record {
          diagonal = λ same. refl;
          above = λ less. let bad : ⊥ = omega (arith, a, less) in
              elim bad [ ];
        })
    by_place (inr a) = rw (cond-false (eqb i j && ltb i t) one_fraction zero_fraction (and_left _ _ (ne_eqb i j a)))
        (record { diagonal = λ same. elim (a same) [ ]; above = λ less. refl })

given_unit : (s : Sizes) (i j : ℕ) (d : Fraction) (es : List Entry) → All (EntryFits s) es → IsUnitLower i j d →
    IsUnitLower i j (given_or d J i j es)
given_unit s i j d [] fits start = start
given_unit s i j d (e ∷ es) fits start =
    by_test (is_at J i j e) refl (given_unit s i j d es (All-tail (EntryFits s) e es fits) start)
  where
    by_test : (b : Bool) → is_at J i j e ≡ b → IsUnitLower i j (given_or d J i j es) →
        IsUnitLower i j (cond b e.coef (given_or d J i j es))
    by_test true here rest =
        let place = stands_at J i j e here in
        rw (place.0, place.1.0, place.1.1) at (All-head (EntryFits s) e es fits).unit_lower
    by_test false here rest = rest

pub unit_lower : (f : Implicit) → ImplicitFits f → JIsUnitLower f
unit_lower f fits i j h = given_unit f.sizes i j _ f.entries fits.entries (missing_unit f.sizes.t i j h)

-- ---- one place among the entries

-- behind an entry of a place there is none of that place
none_later : (b : Block) (i j : ℕ) (e : Entry) (c : Fraction) (es : List Entry) → is_at b i j e ≡ true →
    All (λ g. same_place g e ≡ false) es → given_or c b i j es ≡ c
none_later b i j e c [] here apart = refl
none_later b i j e c (g ∷ es) here apart =
    by_test (is_at b i j g) refl (none_later b i j e c es here (All-tail (λ g. same_place g e ≡ false) g es apart))
  where
    by_test : (t : Bool) → is_at b i j g ≡ t → given_or c b i j es ≡ c → cond t g.coef (given_or c b i j es) ≡ c
    by_test true there rest =
        let p = stands_at b i j e here in
        let q = stands_at b i j g there in
        let same = stands_from g.block g.i g.j e (p.0 ∙ sym q.0) (p.1.0 ∙ sym q.1.0) (p.1.1 ∙ sym q.1.1) in
        elim (true≢false (sym same ∙ All-head (λ g. same_place g e ≡ false) g es apart)) [ ]
    by_test false there rest = rest

-- one more entry of a row
one_more : (s : Sizes) (reads : NetRead → Bool) (e : Entry) (es : List Entry) (b : Bool) (c : Fraction) →
    coefficient_or c reads (map (term_of s) (cond b (e ∷ es) es))
    ≡ coefficient_or (cond (b && reads (net_read s e.block e.j)) (plain (on_the_right e.block e.coef)) c) reads
    (map (term_of s) es)
one_more s reads e es true c = refl
one_more s reads e es false c = refl

moved : (a b c : Bool) → (a && b) && c ≡ a && (b && c)
moved true b c = refl
moved false b c = refl

-- the terms of a place's row that read what is read there have the place's coefficient
terms_give : (s : Sizes) (b : Block) (i j : ℕ) (es : List Entry) (c d : Fraction) →
    i < height s b → is_read b i j ≡ true → All (EntryFits s) es → IsDistinct (λ (e g : Entry). same_place g e) es →
    c ≡ plain (on_the_right b d) →
    coefficient_or c (same_read (net_read s b j)) (net_row s es (row_place s b i))
    ≡ plain (on_the_right b (given_or d b i j es))
terms_give s b i j [] c d h reads fits once start = start
terms_give s b i j (e ∷ es) c d h reads fits once start =
    one_more s (same_read (net_read s b j)) e (filter (is_in_row s (row_place s b i)) es)
    (is_in_row s (row_place s b i) e) c
    ∙ ap (λ t. coefficient_or (cond t (plain (on_the_right e.block e.coef)) c) (same_read (net_read s b j))
    (net_row s es (row_place s b i)))
    (moved (is_read e.block e.i e.j) _ _
    ∙ ap (λ t. is_read e.block e.i e.j && t) (place_matches s b i j e h (All-head (EntryFits s) e es fits)))
    ∙ by_test (is_at b i j e) refl
    (λ c d start. terms_give s b i j es c d h reads (All-tail (EntryFits s) e es fits)
    (IsDistinct-tail (λ (e g : Entry). same_place g e) e es once) start)
  where
    rest : Fraction → Fraction
    rest c = coefficient_or c (same_read (net_read s b j)) (net_row s es (row_place s b i))

    by_test : (t : Bool) → is_at b i j e ≡ t →
        ((c d : Fraction) → c ≡ plain (on_the_right b d) → rest c ≡ plain (on_the_right b (given_or d b i j es))) →
        rest (cond (is_read e.block e.i e.j && t) (plain (on_the_right e.block e.coef)) c)
        ≡ plain (on_the_right b (cond t e.coef (given_or d b i j es)))
    by_test true here next =
        let p = stands_at b i j e here in
        let read : is_read e.block e.i e.j ≡ true = rw (p.0, p.1.0, p.1.1) reads in
        let block : on_the_right e.block e.coef ≡ on_the_right b e.coef = ap (λ x. on_the_right x e.coef) p.0 in
        ap rest (cond-true _ _ _ (and_from _ _ read refl))
        ∙ next (plain (on_the_right e.block e.coef)) e.coef (ap plain block)
        ∙ ap (λ x. plain (on_the_right b x))
        (none_later b i j e e.coef es here (distinct_head (λ (e g : Entry). same_place g e) e es once))
    by_test false here next = ap rest (cond-false _ _ _ (and_right (is_read e.block e.i e.j) false refl))
        ∙ next c d start

-- ---- in the net

now_reads : (at a : ℕ) → reads_now at (at + a) ≡ same_read (Now a)
now_reads at a = fun_ext (by_read at a)
  where
    by_read : (at a : ℕ) (from : NetRead) → reads_now at (at + a) from ≡ same_read (Now a) from
    by_read at a (Now s) = shifted at a s
    by_read at a (Old s) = refl
    by_read at a (In s) = refl

old_reads : (at a : ℕ) → reads_old at (at + a) ≡ same_read (Old a)
old_reads at a = fun_ext (by_read at a)
  where
    by_read : (at a : ℕ) (from : NetRead) → reads_old at (at + a) from ≡ same_read (Old a) from
    by_read at a (Now s) = refl
    by_read at a (Old s) = shifted at a s
    by_read at a (In s) = refl

input_reads : (a : ℕ) → reads_input a ≡ same_read (In a)
input_reads a = fun_ext (by_read a)
  where
    by_read : (a : ℕ) (from : NetRead) → reads_input a from ≡ same_read (In a) from
    by_read a (Now s) = refl
    by_read a (Old s) = refl
    by_read a (In s) = refl

-- a row that was put takes what its terms say
row_takes : (reads reads' : NetRead → Bool) (rows : List (List NetTerm)) (at r : ℕ) (c : Fraction) → r < length rows →
    reads ≡ reads' →
    cond (nat_le at (at + r) && nat_lt (at + r) (at + length rows)) (coefficient reads (row_of rows (at + r - at))) c
    ≡ coefficient reads' (row_of rows r)
row_takes reads reads' rows at r c h e =
    let same : at + r - at ≡ r = omega arith in
    cond-true _ _ _ (and_from _ _ (le-leb at (at + r) (omega arith)) (lt-ltb (at + r) (at + length rows) (omega
    (arith, h))))
    ∙ ap₂ (λ x p. coefficient x (row_of rows p)) e same

taken-is : (rows : List (List NetTerm)) (at r : ℕ) (net : Net) (from : NetRead) → r < length rows →
    taken (put_rows rows at net) at r from ≡ coefficient (same_read from) (row_of rows r)
unfolding put_rows
taken-is rows at r net (Now a) h = row_takes _ _ rows at r _ h (now_reads at a)
taken-is rows at r net (Old a) h = row_takes _ _ rows at r _ h (old_reads at a)
taken-is rows at r net (In a) h = row_takes _ _ rows at r _ h (input_reads a)

-- what is read of what was not given is 0
missing_zero : (s : Sizes) (b : Block) (i j : ℕ) → is_read b i j ≡ true →
    zero_fraction ≡ plain (on_the_right b (not_given s b i j))
missing_zero s J i j h =
    let below : j < i = ltb-true j i h in
    let other : cond (eqb i j && ltb i s.t) one_fraction zero_fraction
    ≡ zero_fraction = cond-false _ _ _ (and_left _ _ (ne_eqb i j (λ e. omega (arith, below, e)))) in
    ap (λ x. plain (on_the_right J x)) (sym other)
missing_zero s K i j h = refl
missing_zero s L i j h = refl
missing_zero s M i j h = refl
missing_zero s N i j h = refl
missing_zero s P i j h = refl
missing_zero s Q i j h = refl
missing_zero s R i j h = refl
missing_zero s S i j h = refl

pub have_blocks : (f : Implicit) → ImplicitFits f → NetsHaveBlocks f
have_blocks f fits at net b i j h k reads =
    let below : row_place f.sizes b i < rows f.sizes = place_below f.sizes b i h in
    taken-is (rows_of f) at (row_place f.sizes b i) net (net_read f.sizes b j) (omega (arith, below, length-rows f))
    ∙ ap (λ ts. coefficient (same_read (net_read f.sizes b j)) ts) (row-rows f (row_place f.sizes b i) below)
    ∙ terms_give f.sizes b i j f.entries zero_fraction (not_given f.sizes b i j) h reads fits.entries fits.once
    (missing_zero f.sizes b i j reads)
