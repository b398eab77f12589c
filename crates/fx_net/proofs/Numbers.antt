-- The number at a place of a list, and a net's fit.
use Rattle.std.proofs.Common.{◌≡◌, ℕ, ◌<◌, ◌≤◌, ◌+◌, ◌⊎◌, List, length, get_or, set, replicate, All, ap, sym}
use Rattle.std.proofs.Common.{◌∙◌, inl, inr, arith, get_or-set_same, get_or-set_other, cond, eqb}
use mathlib.Core.Path.{fun_ext}
use Rattle.std.proofs.lemmas.Bool.{cond-true, cond-false, eq-eqb, ne_eqb, cases_lt, cases_eq}
use Rattle.std.proofs.lemmas.List.{get_or_read, get_or-replicate, get_or_past, length-replicate}
use Rattle.fx_net.specs.Net.{no_class}
use Rattle.fx_net.specs.Tables.{number_at}

-- what an index reads
pub read_number : (xs : List ℕ) (i x : ℕ) → x ≡ get_or xs i x → i < length xs → number_at xs i ≡ x
unfolding number_at
read_number xs i x r h = sym (get_or_read xs i x h r 0)

-- the same, the other way round
pub number_read : (xs : List ℕ) (i x : ℕ) → x ≡ get_or xs i x → i < length xs → x ≡ number_at xs i
number_read xs i x r h = sym (read_number xs i x r h)

-- nothing stands outside
pub number_outside : (xs : List ℕ) (i : ℕ) → length xs ≤ i → number_at xs i ≡ 0
unfolding number_at
number_outside xs i h = get_or_past xs i 0 h

-- each number is at most so high where all in the list are
pub number_high : (xs : List ℕ) (i most : ℕ) → All (λ e. e ≤ most) xs → number_at xs i ≤ most
unfolding number_at
number_high xs i most h = by_place (cases_lt i (length xs))
  where
    by_place : (i < length xs) ⊎ (length xs ≤ i) → get_or xs i 0 ≤ most
    by_place (inl l) = h i 0 l
    by_place (inr r) = rw (get_or_past xs i 0 r) (omega arith)

-- a list of zeros
pub zero_numbers : (n : ℕ) (xs : List ℕ) → xs ≡ replicate n 0 → number_at xs ≡ no_class
unfolding number_at
zero_numbers n xs e = fun_ext (λ i. rw e (by_place i (cases_lt i n)))
  where
    by_place : (i : ℕ) → (i < n) ⊎ (n ≤ i) → get_or {A = ℕ} (replicate n 0) i 0 ≡ 0
    by_place i (inl l) = get_or-replicate n i 0 0 l
    by_place i (inr r) = get_or_past (replicate n 0) i 0 (omega (arith, length-replicate {A = ℕ} n 0))

-- a written number is read at its place
pub written_number : (xs : List ℕ) (i e : ℕ) → i < length xs →
    number_at (set xs i e) ≡ (λ p. cond (eqb p i) e (number_at xs p))
unfolding number_at
written_number xs i e h = fun_ext (λ p. by_place p (cases_eq p i))
  where
    by_place : (p : ℕ) → (p ≡ i) ⊎ (p ≡ i → ⊥) → get_or (set xs i e) p 0 ≡ cond (eqb p i) e (get_or xs p 0)
    by_place p (inl a) = rw a (get_or-set_same xs i e 0 h) ∙ sym (cond-true _ _ _ (eq-eqb p i a))
    by_place p (inr a) = get_or-set_other xs i p e 0 a ∙ sym (cond-false _ _ _ (ne_eqb p i a))

-- a list that agrees with f below n agrees below n + 1 once f n is written
pub one_more_written : (xs : List ℕ) (f : ℕ → ℕ) (n v : ℕ) → n < length xs → v ≡ f n →
    ((k : ℕ) → k < n → get_or xs k 0 ≡ f k) → (k : ℕ) → k < n + 1 → get_or (set xs n v) k 0 ≡ f k
one_more_written xs f n v h e before k l = by_place (cases_eq k n)
  where
    by_place : (k ≡ n) ⊎ (k ≡ n → ⊥) → get_or (set xs n v) k 0 ≡ f k
    by_place (inl a) = rw a (get_or-set_same xs n v 0 h) ∙ e ∙ ap f (sym a)
    by_place (inr a) = get_or-set_other xs n k v 0 a ∙ before k (omega arith)
