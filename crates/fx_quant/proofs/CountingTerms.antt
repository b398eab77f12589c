-- A design has no more terms than its form has entries.
use Rattle.std.proofs.Common.{◌≡◌, ℕ, zero, suc, ◌+◌, ◌<◌, ◌≤◌, Bool, true, false, cond, eqb}
use Rattle.std.proofs.Common.{List, [], ◌∷◌, ◌++◌, map, filter, length, Result, Ok, refl, arith, sym, ap, subst, ◌∙◌}
use Rattle.std.proofs.Common.{length-append, unsigned_abs, lit<}
use Rattle.std.proofs.Math.IntN.{ℤ}
use Rattle.std.proofs.lemmas.Bool.{cond_both, and_parts, eqb-true, eq-eqb}
use Rattle.std.proofs.lemmas.Int.{ints}
use Rattle.std.proofs.lemmas.List.Sums.{sum_by_push}
use Rattle.fx_math.specs.Sums.{sum_below}
use Rattle.fx_nums.specs.Fraction.{Fraction, zero_fraction}
use Rattle.fx_eqs.specs.Expanded.{NetRead, NetTerm}
use Rattle.fx_eqs.specs.Expanded.NetRead.{Now, Old, In}
use Rattle.fx_net.specs.Links.{coefficients}
use Rattle.fx_net.specs.Net.{Net, plain}
use Rattle.fx_net.specs.Rows.{reads_now, reads_old, reads_input, coefficient_or, coefficient, put_rows}
use Rattle.fx_net.specs.declared.net.Which.{Which}
use Rattle.fx_net.specs.declared.net.Which.TheVariants.{Now as NowTable, Old as OldTable, In as InTable}
use Rattle.fx_code.specs.Code.{BareRow}
use Rattle.fx_sif.specs.Implicit.{Implicit, rows}
use Rattle.fx_sif.specs.Rows.{row_place, term_of, is_in_row, net_row}
use Rattle.fx_sif.specs.declared.parts.Entry.{Entry}
use Rattle.fx_sif.specs.declared.parts.Sizes.{Sizes}
use Rattle.fx_sif.proofs.Summing.{row_is}
use Rattle.fx_quant.specs.Design.{term_count}
use Rattle.fx_quant.specs.Positions.{Grid}
use Rattle.fx_quant.specs.Quantised.{form_net}
use Rattle.fx_quant.specs.Rounding.{rounded}
use Rattle.fx_quant.specs.Rows.{scaled, kept_or_dropped, kept, kept_of, kept_terms, read, first_rows}
use Rattle.fx_quant.specs.declared.fault.QuantFault.{QuantFault}
use Rattle.fx_code.specs.declared.term.Read.{Read}
use Rattle.fx_quant.proofs.Rounding.{to_nearest}
use Rattle.fx_quant.proofs.RowByRow.{both}

-- ---- sums of counts

abbrev one_if : Bool → ℕ
one_if b = cond b 1 0

sum_add : (n : ℕ) (f g : ℕ → ℕ) → sum_below n (λ i. f i + g i) ≡ sum_below n f + sum_below n g
sum_add zero f g = refl
sum_add (suc n) f g = omega (arith, sum_add n f g)

sum_le : (n : ℕ) (f g : ℕ → ℕ) → ((i : ℕ) → i < n → f i ≤ g i) → sum_below n f ≤ sum_below n g
sum_le zero f g h = omega arith
sum_le (suc n) f g h =
    let before = sum_le n f g (λ i l. h i (omega (arith, l))) in
    let here = h n (omega arith) in
    omega (arith, before, here)

sum_zero : (n : ℕ) (f : ℕ → ℕ) → ((i : ℕ) → i < n → f i ≡ 0) → sum_below n f ≡ 0
sum_zero zero f h = refl
sum_zero (suc n) f h =
    let before = sum_zero n f (λ i l. h i (omega (arith, l))) in
    let here = h n (omega arith) in
    omega (arith, before, here)

not_here : (b : Bool) → (b ≡ true → ⊥) → one_if b ≡ 0
not_here true h = absurd (h refl)
not_here false h = refl

-- a test that holds at one place at most counts one at most
at_most_one : (n : ℕ) (test : ℕ → Bool) → ((i j : ℕ) → test i ≡ true → test j ≡ true → i ≡ j) →
    sum_below n (λ i. one_if (test i)) ≤ 1
at_most_one zero test h = omega arith
at_most_one (suc n) test h = by_test (test n) refl (at_most_one n test h)
  where
    by_test : (b : Bool) → test n ≡ b → sum_below n (λ i. one_if (test i)) ≤ 1 →
        sum_below n (λ i. one_if (test i)) + one_if (test n) ≤ 1
    by_test true e before =
        let none = sum_zero n (λ i. one_if (test i)) (λ i l. not_here (test i) (λ t.
        let same : i ≡ n = h i n t e in omega (arith, l, same))) in
        let last : one_if (test n) ≡ 1 = ap one_if e in
        omega (arith, none, last)
    by_test false e before = let last : one_if (test n) ≡ 0 = ap one_if e in omega (arith, before, last)

never : (n : ℕ) → sum_below n (λ i. 0) ≡ 0
never n = sum_zero n (λ i. 0) (λ i l. refl)

-- ---- how often a source is read

abbrev hits : (NetRead → Bool) → List NetTerm → ℕ
hits reads [] = 0
hits reads (t ∷ ts) = one_if (reads t.from) + hits reads ts

unread : (reads : NetRead → Bool) (c : Fraction) (ts : List NetTerm) → hits reads ts ≡ 0 →
    coefficient_or c reads ts ≡ c
unread reads c [] h = refl
unread reads c (t ∷ ts) h = by_test (reads t.from) refl (λ none. unread reads c ts none)
  where
    by_test : (b : Bool) → reads t.from ≡ b → (hits reads ts ≡ 0 → coefficient_or c reads ts ≡ c) →
        coefficient_or (cond (reads t.from) (plain t.coef) c) reads ts ≡ c
    by_test true e rest = let here : one_if (reads t.from) ≡ 1 = ap one_if e in absurd (omega (arith, h, here))
    by_test false e rest =
        let here : one_if (reads t.from) ≡ 0 = ap one_if e in
        ap (λ b. coefficient_or (cond b (plain t.coef) c) reads ts) e ∙ rest (omega (arith, h, here))

-- each term reads one source
abbrev all_hits : ℕ → ℕ → ℕ → List NetTerm → ℕ
all_hits now old input ts =
    sum_below now (λ j. hits (reads_now 0 j) ts) + sum_below old (λ j. hits (reads_old 0 j) ts)
    + sum_below input (λ j. hits (reads_input j) ts)

abbrev term_hits : ℕ → ℕ → ℕ → NetRead → ℕ
term_hits now old input from =
    sum_below now (λ j. one_if (reads_now 0 j from)) + sum_below old (λ j. one_if (reads_old 0 j from))
    + sum_below input (λ j. one_if (reads_input j from))

one_place : (s i j : ℕ) → eqb i s ≡ true → eqb j s ≡ true → i ≡ j
one_place s i j e f = eqb-true i s e ∙ sym (eqb-true j s f)

one_source : (now old input : ℕ) (from : NetRead) → term_hits now old input from ≤ 1
one_source now old input (Now s) =
    omega (arith, at_most_one now (λ j. eqb j (0 + s)) (one_place (0 + s)), never old, never input)
one_source now old input (Old s) =
    omega (arith, at_most_one old (λ j. eqb j (0 + s)) (one_place (0 + s)), never now, never input)
one_source now old input (In s) =
    omega (arith, at_most_one input (λ j. eqb j s) (one_place s), never now, never old)

hits_within : (now old input : ℕ) (ts : List NetTerm) → all_hits now old input ts ≤ length ts
hits_within now old input [] = omega (arith, never now, never old, never input)
hits_within now old input (t ∷ ts) =
    let one = one_source now old input t.from in
    let rest = hits_within now old input ts in
    let a = sum_add now (λ j. one_if (reads_now 0 j t.from)) (λ j. hits (reads_now 0 j) ts) in
    let b = sum_add old (λ j. one_if (reads_old 0 j t.from)) (λ j. hits (reads_old 0 j) ts) in
    let c = sum_add input (λ j. one_if (reads_input j t.from)) (λ j. hits (reads_input j) ts) in
    omega (arith, one, rest, a, b, c)

-- ---- one row

zero_is_dropped : (fraction : ℕ) → unsigned_abs (rounded fraction zero_fraction) ≡ 0
zero_is_dropped fraction =
    let near = to_nearest fraction zero_fraction (lit< tt) in
    omega (arith, ints, near)

short : (g : Grid) (i : ℕ) (from : Read) (c : ℤ) → length (kept_or_dropped g i from c) ≤ 1
short g i from c =
    cond_both (eqb (unsigned_abs c) 0) [] (scaled g i from c ∷ []) (λ ks. length ks ≤ 1) (λ e. omega arith)
    (λ e. omega arith)

dropped : (g : Grid) (i : ℕ) (from : Read) (c : ℤ) → unsigned_abs c ≡ 0 → length (kept_or_dropped g i from c) ≡ 0
dropped g i from c h =
    ap (λ b. length (cond b [] (scaled g i from c ∷ []))) (eq-eqb (unsigned_abs c) 0 h)

kept_within : (g : Grid) (i : ℕ) (from : Read) (reads : NetRead → Bool) (ts : List NetTerm) →
    length (kept g i from (coefficient reads ts)) ≤ hits reads ts
kept_within g i from reads ts = by_count (hits reads ts) refl
  where
    by_count : (n : ℕ) → hits reads ts ≡ n → length (kept g i from (coefficient reads ts)) ≤ hits reads ts
    by_count zero e =
        let none : coefficient reads ts ≡ zero_fraction = unread reads zero_fraction ts e in
        let gone = dropped g i from (rounded g.fraction (coefficient reads ts))
        (ap (λ c. unsigned_abs (rounded g.fraction c)) none ∙ zero_is_dropped g.fraction) in
        omega (arith, gone)
    by_count (suc n) e = omega (arith, e, short g i from (rounded g.fraction (coefficient reads ts)))

kept_of_within : (g : Grid) (net : Net) (i : ℕ) (which : Which) (n : ℕ) (reads : ℕ → NetRead → Bool)
    (ts : List NetTerm) → ((j : ℕ) → j < n → coefficients net which i j ≡ coefficient (reads j) ts) →
    length (kept_of g net i which n) ≤ sum_below n (λ j. hits (reads j) ts)
kept_of_within g net i which zero reads ts h = omega arith
kept_of_within g net i which (suc n) reads ts h =
    let before = kept_of_within g net i which n reads ts (λ j l. h j (omega (arith, l))) in
    let here = subst (λ c. length (kept g i (read which n) c) ≤ hits (reads n) ts) (sym (h n (omega arith)))
    (kept_within g i (read which n) (reads n) ts) in
    omega (
      arith,
      before,
      here,
      length-append (kept_of g net i which n)
          (kept g i (read which n) (coefficients net which i n)),
    )

-- the rows of the form's net
now_is : (f : Implicit) (i j : ℕ) → i < rows f.sizes →
    (form_net f).now i j ≡ coefficient (reads_now 0 j) (net_row f.sizes f.entries i)
unfolding put_rows
now_is f i j h = row_is (reads_now 0 j) f i _ h

old_is : (f : Implicit) (i j : ℕ) → i < rows f.sizes →
    (form_net f).old i j ≡ coefficient (reads_old 0 j) (net_row f.sizes f.entries i)
unfolding put_rows
old_is f i j h = row_is (reads_old 0 j) f i _ h

input_is : (f : Implicit) (i j : ℕ) → i < rows f.sizes →
    (form_net f).input i j ≡ coefficient (reads_input j) (net_row f.sizes f.entries i)
unfolding put_rows
input_is f i j h = row_is (reads_input j) f i _ h

row_within : (g : Grid) (f : Implicit) (inputs i : ℕ) → i < rows f.sizes →
    length (kept_terms g (form_net f) (rows f.sizes) inputs i) ≤ length (net_row f.sizes f.entries i)
row_within g f inputs i h =
    let net : Net = form_net f in
    let ts = net_row f.sizes f.entries i in
    let n = rows f.sizes in
    let now = kept_of_within g net i NowTable i (λ j. reads_now 0 j) ts (λ j l. now_is f i j h) in
    let old = kept_of_within g net i OldTable n (λ j. reads_old 0 j) ts (λ j l. old_is f i j h) in
    let input = kept_of_within g net i InTable inputs reads_input ts (λ j l. input_is f i j h) in
    let all = hits_within i n inputs ts in
    omega (
      arith,
      now,
      old,
      input,
      all,
      length-append (kept_of g net i NowTable i) (kept_of g net i OldTable n),
      length-append (kept_of g net i NowTable i ++ kept_of g net i OldTable n) (kept_of g net i InTable inputs),
    )

-- ---- all rows

-- each entry is in one row at most
one_row : (s : Sizes) (e : Entry) (r q : ℕ) → is_in_row s r e ≡ true → is_in_row s q e ≡ true → r ≡ q
one_row s e r q h k =
    sym (eqb-true (row_place s e.block e.i) r (and_parts _ _ h).1)
    ∙ eqb-true (row_place s e.block e.i) q (and_parts _ _ k).1

row_more : (s : Sizes) (e : Entry) (es : List Entry) (r : ℕ) →
    length (net_row s (e ∷ es) r) ≡ one_if (is_in_row s r e) + length (net_row s es r)
row_more s e es r = by_test (is_in_row s r e)
  where
    by_test : (b : Bool) →
        length (map (term_of s) (cond b (e ∷ filter (is_in_row s r) es) (filter (is_in_row s r) es)))
        ≡ one_if b + length (net_row s es r)
    by_test true = omega arith
    by_test false = omega arith

entries_within : (s : Sizes) (n : ℕ) (es : List Entry) → sum_below n (λ r. length (net_row s es r)) ≤ length es
entries_within s n [] = omega (arith, never n)
entries_within s n (e ∷ es) =
    let one = at_most_one n (λ r. is_in_row s r e) (one_row s e) in
    let rest = entries_within s n es in
    let parts = sum_add n (λ r. one_if (is_in_row s r e)) (λ r. length (net_row s es r)) in
    let all = sum_le n (λ r. length (net_row s (e ∷ es) r)) (λ r. one_if (is_in_row s r e) + length (net_row s es r))
    (λ r l. omega (arith, row_more s e es r)) in
    omega (arith, one, rest, parts, all)

rows_within : (row : ℕ → Result BareRow QuantFault) (most : ℕ → ℕ) (n : ℕ) (bare : List BareRow) →
    ((i : ℕ) (r : BareRow) → i < n → row i ≡ Ok r → length r.terms ≤ most i) → first_rows row n ≡ Ok bare →
    term_count bare ≤ sum_below n most
rows_within row most zero bare h e = let none : bare ≡ [] = cc in omega (arith, ap term_count none)
rows_within row most (suc n) bare h e =
    let p = both (first_rows row n) _ bare e in
    let q = both (row n) _ bare p.2 in
    let all : bare ≡ p.0 ++ q.0 ∷ [] = cc in
    let before = rows_within row most n p.0 (λ i r l. h i r (omega (arith, l))) p.1 in
    let last = h n q.0 (omega arith) q.1 in
    let sum = ap term_count all ∙ sum_by_push (λ (r : BareRow). length r.terms) p.0 q.0 in
    omega (arith, before, last, sum)

pub terms_within : (g : Grid) (f : Implicit) (row : ℕ → Result BareRow QuantFault) (inputs : ℕ)
    (bare : List BareRow) →
    ((i : ℕ) (r : BareRow) → i < rows f.sizes → row i ≡ Ok r →
    length r.terms ≡ length (kept_terms g (form_net f) (rows f.sizes) inputs i)) →
    first_rows row (rows f.sizes) ≡ Ok bare → term_count bare ≤ length f.entries
terms_within g f row inputs bare h e =
    let sum = rows_within row (λ i. length (net_row f.sizes f.entries i)) (rows f.sizes) bare
    (λ i r l k. omega (arith, h i r l k, row_within g f inputs i l)) e in
    omega (arith, sum, entries_within f.sizes (rows f.sizes) f.entries)
