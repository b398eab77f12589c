-- Intervals and words put one after another.
use Rattle.std.proofs.Common.{◌≡◌, ℕ, zero, suc, ◌+◌, ◌-◌, ◌*◌, ◌<◌, List, [], ◌∷◌, ◌++◌, length, get_or, map}
use Rattle.std.proofs.Common.{arith, refl, ap, ap₂, sym, ◌∙◌, subst, inl, inr, length-append, add-one}
use Rattle.std.proofs.lemmas.Bool.{and_from, and_left, and_right, cases_eq, cases_lt, cond-false, cond-true, eq-eqb}
use Rattle.std.proofs.lemmas.Bool.{ne_eqb}
use Rattle.std.proofs.lemmas.List.{append_assoc, get_or-append_right, get_or_append_left, map_push}
use Rattle.fx_math.specs.Sums.{joined}
use Rattle.fx_mat.specs.Intervals.{put_interval}
use Rattle.fx_nums.specs.Interval.{Interval}
use Rattle.fx_gain.proofs.Alone.{length_singles, single_at}

-- ---- intervals

module _ (o j : ℕ) (v : Interval) (old new : ℕ → ℕ → Interval) (put : new ≡ put_interval o j v old) where
  at_place : (p k : ℕ) → new p k ≡ put_interval o j v old p k
  at_place p k = ap (λ (f : ℕ → ℕ → Interval). f p k) put

  pub other_row : (p k : ℕ) → (p ≡ o → ⊥) → new p k ≡ old p k
  other_row p k ne = at_place p k ∙ cond-false _ _ _ (and_left _ _ (ne_eqb p o ne))

  pub one_more_interval : (want : ℕ → Interval) → v ≡ want j → ((k : ℕ) → k < j → old o k ≡ want k) → (k : ℕ) →
      k < j + 1 → new o k ≡ want k
  one_more_interval want here before k l = elim (cases_eq k j) [
    | inl same ↦ at_place o k ∙ cond-true _ _ _ (and_from _ _ (eq-eqb o o refl) (eq-eqb k j same))
        ∙ here ∙ ap want (sym same)
    | inr other ↦ at_place o k ∙ cond-false _ _ _ (and_right _ _ (ne_eqb k j other)) ∙ before k
        (omega (arith, l, other))
  ]

-- ---- words

-- one list of words more
pub one_more_list : {A B : Type 0} (view : A → List B) (xs : List A) (x : A) (start : List (List B)) (n : ℕ) (f : ℕ →
    List B) → map view xs ≡ start ++ joined n (λ k. f k ∷ []) → view x ≡ f n →
    map view (xs ++ x ∷ []) ≡ start ++ joined (n + 1) (λ k. f k ∷ [])
one_more_list view xs x start n f before here =
    map_push view xs x ∙ ap₂ (λ ys y. ys ++ y ∷ []) before here
    ∙ append_assoc start (joined n (λ k. f k ∷ [])) (f n ∷ [])
    ∙ ap (λ i. start ++ joined i (λ k. f k ∷ [])) (sym (add-one n))

-- one row of lists more
pub one_more_row : {A : Type 0} (n : ℕ) (f : ℕ → List A) (old new : List A) → old ≡ joined n f → new ≡ old ++ f n →
    new ≡ joined (n + 1) f
one_more_row n f old new before here =
    here ∙ ap (λ xs. xs ++ f n) before ∙ ap (λ i. joined i f) (sym (add-one n))

pub length_grid : {A : Type 0} (n m : ℕ) (f : ℕ → ℕ → A) → length (joined n (λ p. joined m (λ k. f p k ∷ []))) ≡ n * m
length_grid zero m f = (let e : 0 ≡ zero * m = omega arith in e)
length_grid (suc n) m f =
    length-append (joined n (λ p. joined m (λ k. f p k ∷ []))) (joined m (λ k. f n k ∷ []))
    ∙ (let before = length_grid n m f in let row = length_singles m (f n) in
    let e : suc n * m ≡ n * m + m = grind arith in omega (arith, before, row, e))

pub grid_at : {A : Type 0} (n m p k : ℕ) (f : ℕ → ℕ → A) (d : A) → p < n → k < m →
    get_or (joined n (λ p. joined m (λ k. f p k ∷ []))) (p * m + k) d ≡ f p k
grid_at zero m p k f d l h = absurd (omega (arith, l))
grid_at (suc n) m p k f d l h = elim (cases_lt p n) [
  | inl below ↦ get_or_append_left (joined n (λ p. joined m (λ k. f p k ∷ []))) (joined m (λ k. f n k ∷ [])) d
      (p * m + k)
      (let long = length_grid n m f in let fits = within p n m k below h in omega (arith, long, fits))
      ∙ grid_at n m p k f d below h
  | inr from ↦ (let same : n ≡ p = omega (arith, l, from) in
      subst (λ q. get_or (joined (suc n) (λ p. joined m (λ k. f p k ∷ []))) (q * m + k) d ≡ f q k) same
      (get_or-append_right (joined n (λ p. joined m (λ k. f p k ∷ []))) (joined m (λ k. f n k ∷ [])) (n * m)
      (n * m + k) d
      (length_grid n m f) (omega arith)
      ∙ ap (λ i. get_or (joined m (λ k. f n k ∷ [])) i d) (let e : n * m + k - n * m ≡ k = omega arith in e)
      ∙ single_at m k (f n) d h))
]
  where
    within : (p n m k : ℕ) → p < n → k < m → p * m + k < n * m
    within p zero m k l h = absurd (omega (arith, l))
    within p (suc n) m k l h = elim (cases_lt p n) [
      | inl below ↦ (let before = within p n m k below h in
          let e : suc n * m ≡ n * m + m = grind arith in omega (arith, before, e))
      | inr from ↦ (let same : p ≡ n = omega (arith, l, from) in
          let e : suc n * m ≡ n * m + m = grind arith in
          let s : p * m ≡ n * m = ap (λ q. q * m) same in omega (arith, e, s, h))
    ]
