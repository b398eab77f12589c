-- What is read by row and column from a list of rows; z stands outside.
use Rattle.std.proofs.Common.{◌≡◌, ℕ, ◌+◌, ◌*◌, ◌<◌, ◌≤◌, ◌⊎◌, ◌&&◌, ◌==◌, cond, nat_lt, slice_index_or, List}
use Rattle.std.proofs.Common.{length, get_or, set, replicate, refl, sym, ◌∙◌, inl, inr, arith, get_or-set_same}
use Rattle.std.proofs.Common.{get_or-set_other}
use mathlib.Core.Path.{fun_ext}
use Rattle.std.proofs.lemmas.Bool.{lt-ltb, le-ltb, and_left, and_right, cond-true, cond-false, and_from, eq-eqb}
use Rattle.std.proofs.lemmas.Bool.{ne_eqb, cases_lt, cases_eq}
use Rattle.std.proofs.lemmas.List.{get_or_read, get_or-replicate}
use Rattle.std.proofs.lemmas.Nat.{mul-add-lt, same_from_place}

-- the entry of row i and column j, z outside
abbrev pub entry_of : {A : Type 0} → A → ℕ → ℕ → List A → ℕ → ℕ → A
entry_of z rows columns xs i j = cond (nat_lt i rows && nat_lt j columns) (slice_index_or xs (i * columns + j) z) z

-- the entries with x in row i and column j
abbrev pub put_of : {A : Type 0} → ℕ → ℕ → A → (ℕ → ℕ → A) → ℕ → ℕ → A
put_of i j x at p q = cond (p == i && q == j) x (at p q)

pub inside : {A : Type 0} (z : A) (rows columns : ℕ) (xs : List A) (i j : ℕ) → i < rows → j < columns →
    entry_of z rows columns xs i j ≡ get_or xs (i * columns + j) z
inside z rows columns xs i j h k = rw (lt-ltb i rows h, lt-ltb j columns k) refl

pub below : {A : Type 0} (z : A) (rows columns : ℕ) (xs : List A) (i j : ℕ) → rows ≤ i →
    entry_of z rows columns xs i j ≡ z
below z rows columns xs i j h = rw (le-ltb i rows h) refl

pub past : {A : Type 0} (z : A) (rows columns : ℕ) (xs : List A) (i j : ℕ) → columns ≤ j →
    entry_of z rows columns xs i j ≡ z
past z rows columns xs i j h = cond-false _ _ _ (and_right _ _ (le-ltb j columns h))

-- what is put is read at its place, and what was there before at any other
put_same : {A : Type 0} (i j : ℕ) (x : A) (at : ℕ → ℕ → A) (p q : ℕ) → p ≡ i → q ≡ j → put_of i j x at p q ≡ x
put_same i j x at p q e f = cond-true _ _ _ (and_from _ _ (eq-eqb p i e) (eq-eqb q j f))

put_other_row : {A : Type 0} (i j : ℕ) (x : A) (at : ℕ → ℕ → A) (p q : ℕ) → (p ≡ i → ⊥) → put_of i j x at p q ≡ at p q
put_other_row i j x at p q ne = cond-false _ _ _ (and_left _ _ (ne_eqb p i ne))

put_other_column : {A : Type 0} (i j : ℕ) (x : A) (at : ℕ → ℕ → A) (p q : ℕ) → (q ≡ j → ⊥) →
    put_of i j x at p q ≡ at p q
put_other_column i j x at p q ne = cond-false _ _ _ (and_right _ _ (ne_eqb q j ne))

-- an entry that is not at the written place stays
stays : {A : Type 0} (z : A) (rows columns : ℕ) (xs : List A) (i j : ℕ) (x : A) (p q : ℕ) → j < columns →
    ((p ≡ i) × (q ≡ j) → ⊥) →
    entry_of z rows columns (set xs (i * columns + j) x) p q ≡ entry_of z rows columns xs p q
stays z rows columns xs i j x p q k ne = by_row (cases_lt p rows) (cases_lt q columns)
  where
    by_row : (p < rows) ⊎ (rows ≤ p) → (q < columns) ⊎ (columns ≤ q) →
        entry_of z rows columns (set xs (i * columns + j) x) p q ≡ entry_of z rows columns xs p q
    by_row (inr l) _ = below z rows columns _ p q l ∙ sym (below z rows columns xs p q l)
    by_row (inl l) (inr r) = past z rows columns _ p q r ∙ sym (past z rows columns xs p q r)
    by_row (inl l) (inl r) =
        inside z rows columns _ p q l r
        ∙ get_or-set_other xs (i * columns + j) (p * columns + q) x z (λ same.
        ne (same_from_place p q i j columns r k same))
        ∙ sym (inside z rows columns xs p q l r)

-- a write to the list puts the entry
pub written : {A : Type 0} (z : A) (rows columns : ℕ) (xs : List A) (i j : ℕ) (x : A) → i < rows →
    j < columns → length xs ≡ rows * columns →
    entry_of z rows columns (set xs (i * columns + j) x) ≡ put_of i j x (entry_of z rows columns xs)
written z rows columns xs i j x h k e = fun_ext (λ p. fun_ext (λ q. by_place p q (cases_eq p i) (cases_eq q j)))
  where
    by_place : (p q : ℕ) → (p ≡ i) ⊎ (p ≡ i → ⊥) → (q ≡ j) ⊎ (q ≡ j → ⊥) →
        entry_of z rows columns (set xs (i * columns + j) x) p q ≡ put_of i j x (entry_of z rows columns xs) p q
    by_place p q (inl a) (inl b) =
        let within : i * columns + j < length xs = omega (arith, e, mul-add-lt i columns j rows h k) in
        rw (a, b) (inside z rows columns _ i j h k ∙ get_or-set_same xs (i * columns + j) x z within)
        ∙ sym (put_same i j x (entry_of z rows columns xs) p q a b)
    by_place p q (inr a) _ = stays z rows columns xs i j x p q k (λ s. a s.0)
        ∙ sym (put_other_row i j x (entry_of z rows columns xs) p q a)
    by_place p q (inl a) (inr b) = stays z rows columns xs i j x p q k (λ s. b s.1)
        ∙ sym (put_other_column i j x (entry_of z rows columns xs) p q b)

-- a list of as many zeros as there are places has zeros everywhere
zeros : {A : Type 0} (z : A) (rows columns n : ℕ) → n ≡ rows * columns →
    entry_of z rows columns (replicate n z) ≡ (λ i j. z)
zeros z rows columns n e = fun_ext (λ i. fun_ext (λ j. by_place i j (cases_lt i rows) (cases_lt j columns)))
  where
    by_place : (i j : ℕ) → (i < rows) ⊎ (rows ≤ i) → (j < columns) ⊎ (columns ≤ j) →
        entry_of z rows columns (replicate n z) i j ≡ z
    by_place i j (inr l) _ = below z rows columns _ i j l
    by_place i j (inl l) (inr r) = past z rows columns _ i j r
    by_place i j (inl l) (inl r) =
        let within : i * columns + j < n = omega (arith, e, mul-add-lt i columns j rows l r) in
        inside z rows columns _ i j l r ∙ get_or-replicate n (i * columns + j) z z within

-- the same, of a list that equals it
pub filled : {A : Type 0} (z : A) (rows columns n : ℕ) (xs : List A) (y : A) → xs ≡ replicate n y → y ≡ z →
    n ≡ rows * columns → entry_of z rows columns xs ≡ (λ i j. z)
filled z rows columns n xs y e f k = rw (e, f) (zeros z rows columns n k)

-- what an index reads, at any default
pub read : {A : Type 0} (z : A) (xs : List A) (i : ℕ) (x : A) → x ≡ get_or xs i x → i < length xs → get_or xs i z ≡ x
read z xs i x r h = sym (get_or_read xs i x h r z)
