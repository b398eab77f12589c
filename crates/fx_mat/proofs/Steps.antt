-- One more entry: of a row to which multiples are added, of a row of a product, and one more row.
use Rattle.std.proofs.Common.{◌≡◌, ◌⊎◌, inl, inr, ℕ, ◌+◌, ◌<◌, ◌≤◌}
use Rattle.std.proofs.Common.{refl, sym, ap, ◌∙◌, arith, ℤ}
use mathlib.Core.Path.{fun_ext}
use Rattle.std.proofs.lemmas.Bool.{lt-ltb, le-ltb, and_left, and_right, cond-true, cond-false, and_from, eq-eqb}
use Rattle.std.proofs.lemmas.Bool.{ne_eqb, cases_lt, cases_eq}
use Rattle.fx_nums.specs.Arithmetic.{multiple}
use Rattle.fx_nums.specs.Fraction.{Fraction}
use Rattle.fx_nums.specs.Interval.{Interval, plus}
use Rattle.fx_mat.specs.Intervals.{IsProductBelow, IsRowByColumn, put_interval, with_multiples}

-- at the written place, and at any other
put_here : (i j : ℕ) (v : Interval) (at : ℕ → ℕ → Interval) (p q : ℕ) → p ≡ i → q ≡ j → put_interval i j v at p q ≡ v
put_here i j v at p q e f = cond-true _ _ _ (and_from _ _ (eq-eqb p i e) (eq-eqb q j f))

put_other_row : (i j : ℕ) (v : Interval) (at : ℕ → ℕ → Interval) (p q : ℕ) → (p ≡ i → ⊥) →
    put_interval i j v at p q ≡ at p q
put_other_row i j v at p q ne = cond-false _ _ _ (and_left _ _ (ne_eqb p i ne))

put_other_column : (i j : ℕ) (v : Interval) (at : ℕ → ℕ → Interval) (p q : ℕ) → (q ≡ j → ⊥) →
    put_interval i j v at p q ≡ at p q
put_other_column i j v at p q ne = cond-false _ _ _ (and_right _ _ (ne_eqb q j ne))

-- ---- multiples

with_before : (i n : ℕ) (p : ℤ) (row : ℕ → Fraction) (at : ℕ → ℕ → Interval) (k j : ℕ) → k ≡ i → j < n →
    with_multiples i p row n at k j ≡ plus (at k j) (multiple p (row j))
with_before i n p row at k j e h = cond-true _ _ _ (and_from _ _ (eq-eqb k i e) (lt-ltb j n h))

with_behind : (i n : ℕ) (p : ℤ) (row : ℕ → Fraction) (at : ℕ → ℕ → Interval) (k j : ℕ) → n ≤ j →
    with_multiples i p row n at k j ≡ at k j
with_behind i n p row at k j h = cond-false _ _ _ (and_right _ _ (le-ltb j n h))

with_other_row : (i n : ℕ) (p : ℤ) (row : ℕ → Fraction) (at : ℕ → ℕ → Interval) (k j : ℕ) → (k ≡ i → ⊥) →
    with_multiples i p row n at k j ≡ at k j
with_other_row i n p row at k j ne = cond-false _ _ _ (and_left _ _ (ne_eqb k i ne))

one_more : (i j : ℕ) (p : ℤ) (row : ℕ → Fraction) (at : ℕ → ℕ → Interval) →
    put_interval i j (plus (at i j) (multiple p (row j))) (with_multiples i p row j at)
    ≡ with_multiples i p row (j + 1) at
one_more i j p row at = fun_ext (λ k. fun_ext (λ l. by_place k l (cases_eq k i) (cases_eq l j) (cases_lt l j)))
  where
    v : Interval
    v = plus (at i j) (multiple p (row j))

    by_place : (k l : ℕ) → (k ≡ i) ⊎ (k ≡ i → ⊥) → (l ≡ j) ⊎ (l ≡ j → ⊥) → (l < j) ⊎ (j ≤ l) →
        put_interval i j v (with_multiples i p row j at) k l ≡ with_multiples i p row (j + 1) at k l
    by_place k l (inr other) _ _ = put_other_row i j v (with_multiples i p row j at) k l other
        ∙ with_other_row i j p row at k l other ∙ sym (with_other_row i (j + 1) p row at k l other)
    by_place k l (inl e) (inl f) _ =
        put_here i j v (with_multiples i p row j at) k l e f
        ∙ rw (e, f) refl
        ∙ sym (with_before i (j + 1) p row at k l e (omega arith))
    by_place k l (inl e) (inr other) (inl less) =
        put_other_column i j v (with_multiples i p row j at) k l other ∙ with_before i j p row at k l e less
        ∙ sym (with_before i (j + 1) p row at k l e (omega arith))
    by_place k l (inl e) (inr other) (inr more) =
        put_other_column i j v (with_multiples i p row j at) k l other ∙ with_behind i j p row at k l more
        ∙ sym (with_behind i (j + 1) p row at k l (above k l other more))
      where
        above : (k l : ℕ) → (l ≡ j → ⊥) → j ≤ l → j + 1 ≤ l
        above k l other more = omega (arith, other)

pub multiples_more : (i j : ℕ) (p : ℤ) (row : ℕ → Fraction) (at now next : ℕ → ℕ →
    Interval) (old sum : Interval) → now ≡ with_multiples i p row j at → old ≡ now i j →
    sum ≡ plus old (multiple p (row j)) → next ≡ put_interval i j sum now →
    next ≡ with_multiples i p row (j + 1) at
multiples_more i j p row at now next old sum e f g h =
    let here : old ≡ at i j = f ∙ ap (λ t. t i j) e ∙ with_behind i j p row at i j (omega arith) in
    let added : sum ≡ plus (at i j) (multiple p (row j)) =
    g ∙ ap (λ (t : Interval). plus t (multiple p (row j))) here in
    h ∙ ap (λ t. put_interval i j sum t) e ∙ ap (λ (t : Interval).
    put_interval i j t (with_multiples i p row j at)) added ∙ one_more i j p row at

-- ---- products

pub row_more : (n i j : ℕ) (row : ℕ → Interval) (b : ℕ → ℕ → Fraction) (now next : ℕ → ℕ → Interval) (v : Interval) →
    ((d : ℕ) → d < j → IsRowByColumn n row (λ k. b k d) (now i d)) → IsRowByColumn n row (λ k. b k j) v →
    next ≡ put_interval i j v now →
    (d : ℕ) → d < j + 1 → IsRowByColumn n row (λ k. b k d) (next i d)
row_more n i j row b now next v done is e d h = rw e (by_place (cases_eq d j))
  where
    by_place : (d ≡ j) ⊎ (d ≡ j → ⊥) → IsRowByColumn n row (λ k. b k d) (put_interval i j v now i d)
    by_place (inl same) = rw (put_here i j v now i d refl same, same) is
    by_place (inr other) = rw (put_other_column i j v now i d other) (done d (omega (arith, other)))

pub others_left : (i j : ℕ) (at now next : ℕ → ℕ → Interval) (v : Interval) →
    ((p d : ℕ) → (p ≡ i → ⊥) → now p d ≡ at p d) → next ≡ put_interval i j v now →
    (p d : ℕ) → (p ≡ i → ⊥) → next p d ≡ at p d
others_left i j at now next v left e p d other = ap (λ t. t p d) e ∙ put_other_row i j v now p d other ∙ left p d other

pub rows_more : (i columns n : ℕ) (a : ℕ → ℕ → Interval) (b : ℕ → ℕ → Fraction) (now next : ℕ → ℕ → Interval) →
    IsProductBelow i columns n a b now →
    ((d : ℕ) → d < columns → IsRowByColumn n (a i) (λ k. b k d) (next i d)) →
    ((p d : ℕ) → (p ≡ i → ⊥) → next p d ≡ now p d) → IsProductBelow (i + 1) columns n a b next
rows_more i columns n a b now next below done left p d h k = by_place (cases_eq p i)
  where
    by_place : (p ≡ i) ⊎ (p ≡ i → ⊥) → IsRowByColumn n (a p) (λ k. b k d) (next p d)
    by_place (inl same) = rw same (done d k)
    by_place (inr other) = rw (left p d other) (below p d (omega (arith, other)) k)
