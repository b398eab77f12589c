-- What a row of a design takes of each source, and that its right shift is the least.
use Rattle.std.proofs.Common.{◌≡◌, ℕ, zero, suc, ◌+◌, ◌-◌, ◌*◌, ◌%◌, ◌^◌, ◌<◌, ◌≤◌, ◌⊎◌, inl, inr, Bool, true, false}
use Rattle.std.proofs.Common.{cond, eqb}
use Rattle.std.proofs.Common.{List, [], ◌∷◌, ◌++◌, map, All, refl, arith, sym, ap, subst, ◌∙◌, ◌≢◌, unsigned_abs}
use Rattle.std.proofs.Math.IntN.{ℤ, pos, negsuc, ◌+ℤ◌, ◌-ℤ◌, ◌*ℤ◌}
use Rattle.std.specs.Int.Signed.{◌≤ℤ◌}
use Rattle.std.specs.List.{list_any}
use Rattle.std.specs.Prelude.{IsTrue}
use Rattle.std.proofs.lemmas.Bool.{cond_both, cases_lt, false_from_ne_true, eq-eqb, eqb-true, or_left, or_right}
use Rattle.std.proofs.lemmas.Bool.{true≢false, lt-ltb}
use Rattle.std.proofs.lemmas.Int.{ints, unsigned_abs-mul}
use Rattle.std.proofs.Math.Nat.{mul-le-mul_right}
use Rattle.std.proofs.lemmas.List.{map-append}
use Rattle.std.proofs.lemmas.List.Elements.{All-nil, All-cons, All-head, All-tail, All-map}
use Rattle.std.proofs.lemmas.Nat.{pow-add}
use borrow.Author.Differences.{abs_is}
use Rattle.fx_math.proofs.Ring.{mul_assoc, mul_comm, add-mul}
use Rattle.fx_nums.specs.Fraction.{Fraction, den_value}
use Rattle.fx_net.specs.Links.{coefficients}
use Rattle.fx_net.specs.Net.{Net}
use Rattle.fx_net.specs.declared.net.Which.{Which}
use Rattle.fx_net.specs.declared.net.Which.TheVariants.{Now as NowTable, Old as OldTable, In as InTable}
use Rattle.fx_code.specs.Code.{weight}
use Rattle.fx_code.specs.Limits.{same_source}
use Rattle.fx_eqs.specs.declared.mode.Mode.{Mode}
use Rattle.fx_code.specs.Code.{BareRow}
use Rattle.fx_code.specs.declared.term.CodeTerm.{CodeTerm}
use Rattle.fx_code.specs.declared.term.Read.{Read}
use Rattle.fx_code.specs.declared.term.Read.TheVariants.{Now, Old, In}
use Rattle.fx_code.specs.NetRows.{bare_at}
use Rattle.fx_math.proofs.Division.{floor_bound}
use Rattle.fx_sif.specs.Implicit.{Implicit, rows}
use Rattle.fx_quant.specs.Coefficients.{weight_in, IsUnit, Takes, IsOdd, IsReduced, sources, RowsTakeTheForms}
use Rattle.fx_quant.specs.Coefficients.{RoundedRows, FractionsAreSmall}
use Rattle.fx_quant.specs.Quantised.{form_net, net_rows}
use Rattle.fx_quant.specs.Positions.{Grid, grid}
use Rattle.fx_quant.specs.Rounding.{rounded, zeros}
use Rattle.fx_quant.specs.Rows.{scaled, kept_or_dropped, kept, kept_of, kept_terms, read, at_least_zero, shift_of}
use Rattle.fx_quant.specs.Rows.{left_of, code_term, bare_row, quantised_row}
use Rattle.fx_quant.specs.declared.scaled.Scaled.{Scaled}
use Rattle.fx_quant.proofs.OddParts.{odd_parts}
use Rattle.fx_quant.proofs.FittingRows.{count_of, each_term}
use Rattle.fx_quant.proofs.Rounding.{to_nearest, doubled_bound, raised_small}
use Rattle.fx_quant.proofs.RowByRow.{both, rows_each, row_is_bare}

-- ---- shifts

own_part : (n : ℕ) → at_least_zero (pos n) ≡ n
own_part zero = refl
own_part (suc n) = ap (λ b. unsigned_abs (cond b (pos (suc n)) (pos 0))) (lt-ltb 0 (suc n) (omega arith))

above_zero : (z : ℤ) (s : ℕ) → 0 < s → at_least_zero z ≡ s → z ≡ pos s
above_zero (pos n) s some e = ap pos (sym (own_part n) ∙ e)
above_zero (negsuc n) s some e = absurd (omega (arith, some, e))

below_shift : (z : ℤ) (s : ℕ) → at_least_zero z ≤ s → z ≤ℤ pos s
below_shift (pos n) s h = omega (arith, ints, h, own_part n)
below_shift (negsuc n) s h = omega (arith, ints)

-- no term has more places than the right shift
in_shift : (shift : ℕ) (ks : List Scaled) → shift_of ks ≤ shift → All (λ k. at_least_zero k.places ≤ shift) ks
in_shift shift [] h = All-nil (λ k. at_least_zero k.places ≤ shift)
in_shift shift (k ∷ ks) h =
    All-cons (λ k. at_least_zero k.places ≤ shift) k ks (omega (arith, h)) (in_shift shift ks (omega (arith, h)))

left_is : (shift : ℕ) (k : Scaled) → at_least_zero k.places ≤ shift → pos (left_of shift k) +ℤ k.places ≡ pos shift
left_is shift k h = let below = below_shift k.places shift h in omega (arith, ints, below, abs_is)

-- a right shift that is not 0 is the places of some term
reached : (shift : ℕ) (ks : List Scaled) → 0 < shift → shift_of ks ≡ shift →
    list_any (λ (t : CodeTerm). eqb t.left 0) (map (code_term shift) ks) ≡ true
reached shift [] some e = absurd (omega (arith, some, e))
reached shift (k ∷ ks) some e =
    elim (cases_lt (at_least_zero k.places) shift) [
      | inl below ↦ or_right (eqb (left_of shift k) 0) _ (reached shift ks some (omega (arith, e, below)))
      | inr at ↦ (let same : k.places ≡ pos shift = above_zero k.places shift some (omega (arith, e, at)) in
          or_left (eqb (left_of shift k) 0) _ (eq-eqb (left_of shift k) 0 (omega (arith, ints, same))))
    ]

-- ---- a term

same_itself : (from : Read) → same_source from from ≡ true
same_itself (Now i) = eq-eqb i i refl
same_itself (Old i) = eq-eqb i i refl
same_itself (In j) = eq-eqb j j refl

power_parts : (odd : ℤ) (k l : ℕ) → odd *ℤ pos (2 ^ (k + l)) ≡ (odd *ℤ pos (2 ^ k)) *ℤ pos (2 ^ l)
power_parts odd k l = ap (λ p. odd *ℤ pos p) (pow-add 2 k l) ∙ sym (mul_assoc odd (pos (2 ^ k)) (pos (2 ^ l)))

term_takes : (g : Grid) (i shift : ℕ) (from : Read) (c : ℤ) (a b : ℕ) → unsigned_abs c ≢ 0 → unsigned_abs c < 2 ^ 65 →
    at_least_zero (scaled g i from c).places ≤ shift → IsUnit g i from shift a b →
    weight (code_term shift (scaled g i from c)) *ℤ pos (2 ^ b) ≡ c *ℤ pos (2 ^ a)
term_takes g i shift from c a b some small h e =
    let k : Scaled = scaled g i from c in
    let left : ℕ = left_of shift k in
    let same : left + b ≡ zeros c + a = omega (arith, ints, left_is shift k h, e) in
    sym (power_parts k.odd left b) ∙ ap (λ n. k.odd *ℤ pos (2 ^ n)) same ∙ power_parts k.odd (zeros c) a
    ∙ ap (λ z. z *ℤ pos (2 ^ a)) (odd_parts c some small).whole

weight_alone : (t : CodeTerm) (from : Read) → t.from ≡ from → weight_in (t ∷ []) from ≡ weight t
weight_alone t from e =
    let test : same_source t.from from ≡ true = ap (λ f. same_source f from) e ∙ same_itself from in
    let here : cond (same_source t.from from) (weight t) (pos 0) ≡ weight t =
    ap (λ b. cond b (weight t) (pos 0)) test in
    omega (arith, ints, here)

kept_takes : (g : Grid) (i shift : ℕ) (from : Read) (c : ℤ) (a b : ℕ) → unsigned_abs c < 2 ^ 65 →
    All (λ k. at_least_zero k.places ≤ shift) (kept_or_dropped g i from c) → IsUnit g i from shift a b →
    weight_in (map (code_term shift) (kept_or_dropped g i from c)) from *ℤ pos (2 ^ b) ≡ c *ℤ pos (2 ^ a)
kept_takes g i shift from c a b small = by_test (eqb (unsigned_abs c) 0) refl
  where
    by_test : (t : Bool) → eqb (unsigned_abs c) 0 ≡ t →
        All (λ k. at_least_zero k.places ≤ shift) (cond t [] (scaled g i from c ∷ [])) → IsUnit g i from shift a b →
        weight_in (map (code_term shift) (cond t [] (scaled g i from c ∷ []))) from *ℤ pos (2 ^ b) ≡ c *ℤ pos (2 ^ a)
    by_test true e h u =
        let none : c ≡ pos 0 = omega (arith, ints, eqb-true (unsigned_abs c) 0 e) in
        rw none (omega (arith, ints))
    by_test false e h u =
        let k : Scaled = scaled g i from c in
        let some : unsigned_abs c ≢ 0 = λ z. true≢false (sym (eq-eqb (unsigned_abs c) 0 z) ∙ e) in
        ap (λ w. w *ℤ pos (2 ^ b)) (weight_alone (code_term shift k) from refl)
        ∙ term_takes g i shift from c a b some small (All-head (λ k. at_least_zero k.places ≤ shift) k [] h) u

-- ---- the terms of a row

weight_append : (xs ys : List CodeTerm) (from : Read) →
    weight_in (xs ++ ys) from ≡ weight_in xs from +ℤ weight_in ys from
weight_append [] ys from = omega (arith, ints)
weight_append (t ∷ ts) ys from = omega (arith, ints, weight_append ts ys from)

part_append : (shift : ℕ) (ks ls : List Scaled) (from : Read) →
    weight_in (map (code_term shift) (ks ++ ls)) from
    ≡ weight_in (map (code_term shift) ks) from +ℤ weight_in (map (code_term shift) ls) from
part_append shift ks ls from =
    ap (λ ts. weight_in ts from) (map-append (code_term shift) ks ls)
    ∙ weight_append (map (code_term shift) ks) (map (code_term shift) ls) from

-- terms that read other sources
not_taken : (shift : ℕ) (g : Grid) (i : ℕ) (from other : Read) (c : ℤ) → same_source other from ≡ false →
    weight_in (map (code_term shift) (kept_or_dropped g i other c)) from ≡ pos 0
not_taken shift g i from other c e =
    cond_both (eqb (unsigned_abs c) 0) [] (scaled g i other c ∷ [])
    (λ ks. weight_in (map (code_term shift) ks) from ≡ pos 0) (λ z. refl)
    (λ z. let none : cond (same_source other from) (weight (code_term shift (scaled g i other c))) (pos 0) ≡ pos 0 =
    ap (λ b. cond b (weight (code_term shift (scaled g i other c))) (pos 0)) e in omega (arith, ints, none))

none_taken : (shift : ℕ) (g : Grid) (net : Net) (i : ℕ) (which : Which) (n : ℕ) (from : Read) →
    ((j : ℕ) → j < n → same_source (read which j) from ≡ false) →
    weight_in (map (code_term shift) (kept_of g net i which n)) from ≡ pos 0
none_taken shift g net i which zero from h = refl
none_taken shift g net i which (suc n) from h =
    let before = none_taken shift g net i which n from (λ j l. h j (omega (arith, l))) in
    let here = not_taken shift g i from (read which n) (rounded g.fraction (coefficients net which i n))
    (h n (omega arith)) in
    omega (
      arith,
      ints,
      before,
      here,
      part_append shift (kept_of g net i which n)
          (kept g i (read which n) (coefficients net which i n)) from,
    )

same_read : (which : Which) (j l : ℕ) → same_source (read which j) (read which l) ≡ true → j ≡ l
same_read NowTable j l e = eqb-true j l e
same_read OldTable j l e = eqb-true j l e
same_read InTable j l e = eqb-true j l e

one_taken : (shift : ℕ) (g : Grid) (net : Net) (i : ℕ) (which : Which) (n j : ℕ) → j < n →
    weight_in (map (code_term shift) (kept_of g net i which n)) (read which j)
    ≡ weight_in (map (code_term shift) (kept g i (read which j) (coefficients net which i j))) (read which j)
one_taken shift g net i which zero j h = absurd (omega (arith, h))
one_taken shift g net i which (suc n) j h =
    let parts = part_append shift (kept_of g net i which n) (kept g i (read which n) (coefficients net which i n))
    (read which j) in
    elim (cases_lt j n) [
      | inl below ↦ (let before = one_taken shift g net i which n j below in
          let here = not_taken shift g i (read which j) (read which n) (rounded g.fraction (coefficients net which i n))
          (false_from_ne_true _ (λ e. let same : n ≡ j = same_read which n j e in omega (arith, below, same))) in
          omega (arith, ints, parts, before, here))
      | inr at ↦ (let same : n ≡ j = omega (arith, h, at) in
          let before = none_taken shift g net i which n (read which j) (λ l k. false_from_ne_true _
          (λ e. let equal : l ≡ j = same_read which l j e in omega (arith, k, same, equal))) in
          let last = ap (λ m. weight_in (map (code_term shift) (kept g i (read which m) (coefficients net which i m)))
          (read which j)) same in
          omega (arith, ints, parts, before, last))
    ]

row_weight : (shift : ℕ) (g : Grid) (net : Net) (rows inputs i : ℕ) (which : Which) (j : ℕ) →
    j < count_of rows inputs i which →
    weight_in (map (code_term shift) (kept_terms g net rows inputs i)) (read which j)
    ≡ weight_in (map (code_term shift) (kept g i (read which j) (coefficients net which i j))) (read which j)
row_weight shift g net rows inputs i which j h =
    let now = kept_of g net i NowTable i in
    let old = kept_of g net i OldTable rows in
    let outer = part_append shift (now ++ old) (kept_of g net i InTable inputs) (read which j) in
    let inner = part_append shift now old (read which j) in
    omega (arith, ints, outer, inner, by_kind which h)
  where
    by_kind : (w : Which) → j < count_of rows inputs i w →
        (weight_in (map (code_term shift) (kept_of g net i NowTable i)) (read w j)
        +ℤ weight_in (map (code_term shift) (kept_of g net i OldTable rows)) (read w j))
        +ℤ weight_in (map (code_term shift) (kept_of g net i InTable inputs)) (read w j)
        ≡ weight_in (map (code_term shift) (kept g i (read w j) (coefficients net w i j))) (read w j)
    by_kind NowTable l =
        omega (
          arith,
          ints,
          one_taken shift g net i NowTable i j l,
          none_taken shift g net i OldTable rows (Now j) (λ n k. refl),
          none_taken shift g net i InTable inputs (Now j) (λ n k. refl),
        )
    by_kind OldTable l =
        omega (
          arith,
          ints,
          one_taken shift g net i OldTable rows j l,
          none_taken shift g net i NowTable i (Old j) (λ n k. refl),
          none_taken shift g net i InTable inputs (Old j) (λ n k. refl),
        )
    by_kind InTable l =
        omega (
          arith,
          ints,
          one_taken shift g net i InTable inputs j l,
          none_taken shift g net i NowTable i (In j) (λ n k. refl),
          none_taken shift g net i OldTable rows (In j) (λ n k. refl),
        )

-- ---- what holds of all terms holds of those from one source

all_left : (P : Scaled → Type 0) (xs ys : List Scaled) → All P (xs ++ ys) → All P xs
all_left P [] ys h = All-nil P
all_left P (x ∷ xs) ys h =
    All-cons P x xs (All-head P x (xs ++ ys) h) (all_left P xs ys (All-tail P x (xs ++ ys) h))

all_right : (P : Scaled → Type 0) (xs ys : List Scaled) → All P (xs ++ ys) → All P ys
all_right P [] ys h = h
all_right P (x ∷ xs) ys h = all_right P xs ys (All-tail P x (xs ++ ys) h)

among : (P : Scaled → Type 0) (g : Grid) (net : Net) (i : ℕ) (which : Which) (n j : ℕ) → j < n →
    All P (kept_of g net i which n) → All P (kept g i (read which j) (coefficients net which i j))
among P g net i which zero j h all = absurd (omega (arith, h))
among P g net i which (suc n) j h all =
    elim (cases_lt j n) [
      | inl below ↦ among P g net i which n j below (all_left P (kept_of g net i which n) _ all)
      | inr at ↦ (let same : n ≡ j = omega (arith, h, at) in
          subst (λ m. All P (kept g i (read which m) (coefficients net which i m))) same
          (all_right P (kept_of g net i which n) _ all))
    ]

in_row : (P : Scaled → Type 0) (g : Grid) (net : Net) (rows inputs i : ℕ) (which : Which) (j : ℕ) →
    j < count_of rows inputs i which → All P (kept_terms g net rows inputs i) →
    All P (kept g i (read which j) (coefficients net which i j))
in_row P g net rows inputs i NowTable j h all =
    among P g net i NowTable i j h (all_left P (kept_of g net i NowTable i) (kept_of g net i OldTable rows)
    (all_left P (kept_of g net i NowTable i ++ kept_of g net i OldTable rows) (kept_of g net i InTable inputs) all))
in_row P g net rows inputs i OldTable j h all =
    among P g net i OldTable rows j h (all_right P (kept_of g net i NowTable i) (kept_of g net i OldTable rows)
    (all_left P (kept_of g net i NowTable i ++ kept_of g net i OldTable rows) (kept_of g net i InTable inputs) all))
in_row P g net rows inputs i InTable j h all =
    among P g net i InTable inputs j h
    (all_right P (kept_of g net i NowTable i ++ kept_of g net i OldTable rows) (kept_of g net i InTable inputs) all)

-- ---- near

less-mul : (x y z : ℤ) → (x -ℤ y) *ℤ z ≡ x *ℤ z -ℤ y *ℤ z
less-mul x y z =
    let back : (x -ℤ y) +ℤ y ≡ x = omega (arith, ints) in
    let both : (x -ℤ y) *ℤ z +ℤ y *ℤ z ≡ x *ℤ z = sym (add-mul (x -ℤ y) y z) ∙ ap (λ w. w *ℤ z) back in
    omega (arith, ints, both)

near_by : (w c num : ℤ) (den s p : ℕ) → w ≡ c *ℤ pos p →
    2 * unsigned_abs (c *ℤ pos den -ℤ num *ℤ pos s) ≤ den →
    2 * unsigned_abs (w *ℤ pos den -ℤ (num *ℤ pos s) *ℤ pos p) ≤ den * p
near_by w c num den s p e h =
    let d : ℤ = c *ℤ pos den -ℤ num *ℤ pos s in
    let first : w *ℤ pos den ≡ (c *ℤ pos den) *ℤ pos p =
    ap (λ x. x *ℤ pos den) e ∙ mul_assoc c (pos p) (pos den) ∙ ap (λ x. c *ℤ x) (mul_comm (pos p) (pos den))
    ∙ sym (mul_assoc c (pos den) (pos p)) in
    let all : w *ℤ pos den -ℤ (num *ℤ pos s) *ℤ pos p ≡ d *ℤ pos p =
    ap (λ x. x -ℤ (num *ℤ pos s) *ℤ pos p) first
    ∙ sym (less-mul (c *ℤ pos den) (num *ℤ pos s) (pos p)) in
    let size : unsigned_abs (d *ℤ pos p) ≡ unsigned_abs d * p = unsigned_abs-mul d (pos p) in
    let times : 2 * unsigned_abs d * p ≤ den * p = mul-le-mul_right p h in
    let same : 2 * unsigned_abs d * p ≡ 2 * (unsigned_abs d * p) = omega arith in
    subst (λ x. 2 * unsigned_abs x ≤ den * p) (sym all) (omega (arith, size, times, same))

-- ---- not read

same_coefficient : (net : Net) (i : ℕ) (which other : Which) (j l : ℕ) →
    same_source (read other l) (read which j) ≡ true → coefficients net other i l ≡ coefficients net which i j
same_coefficient net i NowTable NowTable j l e = ap (net.now i) (eqb-true l j e)
same_coefficient net i NowTable OldTable j l e = cc
same_coefficient net i NowTable InTable j l e = cc
same_coefficient net i OldTable NowTable j l e = cc
same_coefficient net i OldTable OldTable j l e = ap (net.old i) (eqb-true l j e)
same_coefficient net i OldTable InTable j l e = cc
same_coefficient net i InTable NowTable j l e = cc
same_coefficient net i InTable OldTable j l e = cc
same_coefficient net i InTable InTable j l e = ap (net.input i) (eqb-true l j e)

-- a source whose coefficient is rounded to 0 is not read
not_read : (mode : Mode) (g : Grid) (net : Net) (rows inputs i : ℕ) (which : Which) (j : ℕ) →
    rounded g.fraction (coefficients net which i j) ≡ pos 0 →
    All (λ (t : CodeTerm). same_source t.from (read which j) ≡ false)
    (bare_row mode (kept_terms g net rows inputs i)).terms
not_read mode g net rows inputs i which j none =
    let ks = kept_terms g net rows inputs i in
    All-map (λ (t : CodeTerm). same_source t.from (read which j) ≡ false) (code_term (shift_of ks)) ks
    (each_term (λ k. same_source k.from (read which j) ≡ false) g net rows inputs i
    (λ other l h some. false_from_ne_true _ (λ e.
    some (ap (λ c. unsigned_abs (rounded g.fraction c)) (same_coefficient net i which other j l e)
    ∙ ap unsigned_abs none))))

-- ---- rows

pub row_takes : (mode : Mode) (g : Grid) (net : Net) (rows inputs i : ℕ) (which : Which) (j : ℕ) →
    j < count_of rows inputs i which →
    unsigned_abs (rounded g.fraction (coefficients net which i j)) < 2 ^ 65 →
    Takes g i (bare_row mode (kept_terms g net rows inputs i)) (read which j) (coefficients net which i j)
row_takes mode g net rows inputs i which j h small =
    let ks = kept_terms g net rows inputs i in
    let shift = shift_of ks in
    let c : Fraction = coefficients net which i j in
    let rounds : (a b : ℕ) → IsUnit g i (read which j) shift a b →
    weight_in (map (code_term shift) ks) (read which j) *ℤ pos (2 ^ b) ≡ rounded g.fraction c *ℤ pos (2 ^ a) =
    λ a b u. ap (λ w. w *ℤ pos (2 ^ b)) (row_weight shift g net rows inputs i which j h)
    ∙ kept_takes g i shift (read which j) (rounded g.fraction c) a b small
    (in_row (λ k. at_least_zero k.places ≤ shift) g net rows inputs i which j h (in_shift shift ks (omega arith))) u in
    record {
      rounds = rounds;
      near = λ a b u some. near_by (weight_in (map (code_term shift) ks) (read which j) *ℤ pos (2 ^ b))
          (rounded g.fraction c) c.num (den_value c.den) (2 ^ g.fraction) (2 ^ a) (rounds a b u)
          (to_nearest g.fraction c some);
      unread = not_read mode g net rows inputs i which j;
    }

is_least : (shift : ℕ) (ks : List Scaled) → shift_of ks ≡ shift →
    (shift ≡ 0) ⊎ IsTrue (list_any (λ (t : CodeTerm). eqb t.left 0) (map (code_term shift) ks))
is_least zero ks e = inl refl
is_least (suc n) ks e = inr (reached (suc n) ks (omega arith) e)

pub row_is_reduced : (mode : Mode) (g : Grid) (net : Net) (rows inputs i : ℕ) →
    ((which : Which) (j : ℕ) → unsigned_abs (rounded g.fraction (coefficients net which i j)) < 2 ^ 65) →
    IsReduced (bare_row mode (kept_terms g net rows inputs i))
row_is_reduced mode g net rows inputs i small =
    let ks = kept_terms g net rows inputs i in
    record {
      odd = All-map IsOdd (code_term (shift_of ks)) ks
          (each_term (λ k. unsigned_abs k.odd % 2 ≡ 1) g net rows inputs i
          (λ which j l some.
          (odd_parts (rounded g.fraction (coefficients net which i j)) some (small which j)).is_odd));
      least = is_least (shift_of ks) ks refl;
    }

-- ---- designs

pub rounded_rows : RoundedRows
rounded_rows f formats guards fraction d small e =
    let g = grid formats guards f.sizes.y fraction in
    let net : Net = form_net f in
    let n = rows f.sizes in
    let u = f.sizes.u in
    let p = both (net_rows formats g net n u) _ d e in
    let same : record { accumulator = formats.accumulator; inputs = u; rows = p.0 } ≡ d = cc in
    let all = rows_each (λ i. quantised_row formats i (kept_terms g net n u i)) n p.0 p.1 in
    let row : (i : ℕ) → i < n → bare_at p.0 i ≡ bare_row formats.mode (kept_terms g net n u i) =
    λ i h. (row_is_bare formats i (kept_terms g net n u i) (bare_at p.0 i) (all.each i h)).1 in
    subst (RowsTakeTheForms f formats guards fraction) same (record {
      takes = λ i which j h l. subst (λ r. Takes g i r (read which j) (coefficients net which i j)) (sym (row i h))
          (row_takes formats.mode g net n u i which j (sources_are f i which j l) (small which i j));
      reduced = λ i h. subst IsReduced (sym (row i h))
          (row_is_reduced formats.mode g net n u i (λ which j. small which i j));
      modes = λ i h. ap (λ (r : BareRow). r.mode) (row i h);
    })
  where
    sources_are : (f : Implicit) (i : ℕ) (which : Which) (j : ℕ) → j < sources f i which →
        j < count_of (rows f.sizes) f.sizes.u i which
    sources_are f i NowTable j l = l
    sources_are f i OldTable j l = l
    sources_are f i InTable j l = l

pub fractions_are_small : FractionsAreSmall
unfolding rounded
fractions_are_small fraction c fits some value =
    let den = den_value c.den in
    let z : ℤ = c.num *ℤ pos (2 ^ (fraction + 1)) in
    let bound = doubled_bound c.num fraction den value fits.high in
    let raised = raised_small z (z +ℤ pos den) den refl bound in
    let high = floor_bound (z +ℤ pos den) (2 * den) (2 ^ 65 - 1) (omega (arith, some)) raised in
    omega (arith, high)
