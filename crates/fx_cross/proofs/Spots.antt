-- What a list of rows has at a row and a column.
use Rattle.std.proofs.Common.{◌≡◌, ℕ, ◌+◌, ◌*◌, ◌<◌, ◌≤◌, ◌⊎◌, List, [], ◌∷◌, length, get_or, set, replicate}
use Rattle.std.proofs.Common.{map, refl, sym, ◌∙◌, ap, inl, inr, arith, get_or-set_same, get_or-set_other, zero}
use Rattle.std.proofs.Common.{suc}
use Rattle.std.proofs.lemmas.Bool.{lt-ltb, le-ltb, cases_lt, cond-false, and_right}
use Rattle.std.proofs.lemmas.Nat.{mul-add-lt, same_from_place}
use Rattle.fx_cross.specs.Table.{spot}

pub spot_inside : {A : Type 0} → (rows columns : ℕ) (d : A) (xs : List A) (i j : ℕ) → i < rows → j < columns →
    spot rows columns d xs i j ≡ get_or xs (i * columns + j) d
unfolding spot
spot_inside rows columns d xs i j h k = rw (lt-ltb i rows h, lt-ltb j columns k) refl

pub spot_outside : {A : Type 0} → (rows columns : ℕ) (d : A) (xs : List A) (i j : ℕ) →
    (rows ≤ i) ⊎ (columns ≤ j) → spot rows columns d xs i j ≡ d
unfolding spot
spot_outside rows columns d xs i j (inl h) = rw (le-ltb i rows h) refl
spot_outside rows columns d xs i j (inr h) = cond-false _ _ _ (and_right _ _ (le-ltb j columns h))

-- inside or not
pub data IsWhere (rows columns i j : ℕ) : Type 0 where
  inside : i < rows → j < columns → IsWhere rows columns i j
  outside : (rows ≤ i) ⊎ (columns ≤ j) → IsWhere rows columns i j

pub where_is : (rows columns i j : ℕ) → IsWhere rows columns i j
where_is rows columns i j = by_row (cases_lt i rows) (cases_lt j columns)
  where
    by_row : (i < rows) ⊎ (rows ≤ i) → (j < columns) ⊎ (columns ≤ j) → IsWhere rows columns i j
    by_row (inl h) (inl k) = inside h k
    by_row (inr h) _ = outside (inl h)
    by_row (inl _) (inr k) = outside (inr k)

-- each number below the product is the place of a row and a column
pub below_product : (rows columns i j n : ℕ) → i < rows → j < columns → n ≡ rows * columns → i * columns + j < n
below_product rows columns i j n h k e = omega (arith, e, mul-add-lt i columns j rows h k)

pub spot_set_same : {A : Type 0} → (rows columns : ℕ) (d : A) (xs : List A) (i j : ℕ) (x : A) → i < rows →
    j < columns → length xs ≡ rows * columns → spot rows columns d (set xs (i * columns + j) x) i j ≡ x
spot_set_same rows columns d xs i j x h k e = spot_inside rows columns d (set xs (i * columns + j) x) i j h k
    ∙ get_or-set_same xs (i * columns + j) x d (below_product rows columns i j (length xs) h k e)

pub spot_set_other : {A : Type 0} → (rows columns : ℕ) (d : A) (xs : List A) (i j : ℕ) (x : A) (p q : ℕ) →
    j < columns → (p ≡ i → q ≡ j → ⊥) → spot rows columns d (set xs (i * columns + j) x) p q
    ≡ spot rows columns d xs p q
spot_set_other rows columns d xs i j x p q hj ne = by_place (where_is rows columns p q)
  where
    by_place : IsWhere rows columns p q → spot rows columns d (set xs (i * columns + j) x) p q
        ≡ spot rows columns d xs p q
    by_place (outside h) = spot_outside rows columns d _ p q h ∙ sym (spot_outside rows columns d xs p q h)
    by_place (inside h k) =
        spot_inside rows columns d _ p q h k
        ∙ get_or-set_other xs (i * columns + j) (p * columns + q) x d (λ e. let s : (p ≡ i) × (q ≡ j) =
        same_from_place p q i j columns k hj e in ne s.0 s.1)
        ∙ sym (spot_inside rows columns d xs p q h k)

-- at any place, an element of the mapped list is that of the list, mapped
get_or_map_same : {A B : Type 0} → (f : A → B) (xs : List A) (k : ℕ) (d : A) →
    get_or (map f xs) k (f d) ≡ f (get_or xs k d)
get_or_map_same f [] k d = refl
get_or_map_same f (x ∷ xs) zero d = refl
get_or_map_same f (x ∷ xs) (suc k) d = get_or_map_same f xs k d

pub spot_map : {A B : Type 0} → (rows columns : ℕ) (f : A → B) (d : A) (xs : List A) (i j : ℕ) →
    spot rows columns (f d) (map f xs) i j ≡ f (spot rows columns d xs i j)
spot_map rows columns f d xs i j = by_place (where_is rows columns i j)
  where
    by_place : IsWhere rows columns i j → spot rows columns (f d) (map f xs) i j ≡ f (spot rows columns d xs i j)
    by_place (outside h) = spot_outside rows columns (f d) _ i j h ∙ sym (ap f (spot_outside rows columns d xs i j h))
    by_place (inside h k) = spot_inside rows columns (f d) _ i j h k ∙ get_or_map_same f xs (i * columns + j) d
        ∙ sym (ap f (spot_inside rows columns d xs i j h k))

get_or_replicate_same : {A : Type 0} → (d : A) (n k : ℕ) → get_or (replicate n d) k d ≡ d
get_or_replicate_same d zero k = refl
get_or_replicate_same d (suc n) zero = refl
get_or_replicate_same d (suc n) (suc k) = get_or_replicate_same d n k

pub spot_replicate : {A : Type 0} → (rows columns : ℕ) (d : A) (n i j : ℕ) → spot rows columns d (replicate n d) i j ≡ d
spot_replicate rows columns d n i j = by_place (where_is rows columns i j)
  where
    by_place : IsWhere rows columns i j → spot rows columns d (replicate n d) i j ≡ d
    by_place (outside h) = spot_outside rows columns d _ i j h
    by_place (inside h k) = spot_inside rows columns d _ i j h k ∙ get_or_replicate_same d n (i * columns + j)
