-- The places of no entry, when one is taken and when one comes back.
use Rattle.std.proofs.Common.{◌≡◌, ℕ, ◌+◌, ◌-◌, ◌<◌, ◌≤◌, ◌⊎◌, sym, ◌∙◌, ap, subst, inl, inr, arith}
use Rattle.std.proofs.lemmas.Bool.{cases_eq}
use Rattle.fx_cross.specs.WellLinked.{IsFree, AreFree}

-- another place in row i and column j
pub record IsChange (i j p : ℕ) (place place' : ℕ → ℕ → ℕ) : Type 0 where
  pub here : place' i j ≡ p
  pub others : (a b : ℕ) → (a ≡ i → b ≡ j → ⊥) → place' a b ≡ place a b

-- what is said of the other free cells stays
pub record KeepsFree (room p : ℕ) (rank next rank' next' : ℕ → ℕ) (place : ℕ → ℕ → ℕ) : Type 0 where
  pub ranks : (x : ℕ) → x < room → ((a b : ℕ) → place a b ≡ x → ⊥) → (x ≡ p → ⊥) → rank' x ≡ rank x
  pub nexts : (x : ℕ) → x < room → ((a b : ℕ) → place a b ≡ x → ⊥) → (x ≡ p → ⊥) → next' x ≡ next x

-- the place i j holds after the change, or another
used_by : (i j : ℕ) (P : ℕ → ℕ → Type 0) → P i j → ((a b : ℕ) → (a ≡ i → b ≡ j → ⊥) → P a b) → (a b : ℕ) → P a b
used_by i j P here others a b = by_place (cases_eq a i) (cases_eq b j)
  where
    by_place : (a ≡ i) ⊎ (a ≡ i → ⊥) → (b ≡ j) ⊎ (b ≡ j → ⊥) → P a b
    by_place (inl e) (inl k) = subst (λ (x : ℕ). P x b) (sym e) (subst (λ (y : ℕ). P i y) (sym k) here)
    by_place (inr ne) _ = others a b (λ h _. ne h)
    by_place (inl _) (inr ne) = others a b (λ _ h. ne h)

pub free_put : (room terms i j p : ℕ) (rank next rank' next' : ℕ → ℕ) (place place' : ℕ → ℕ → ℕ) →
    AreFree room terms p rank next place → terms < room → place i j ≡ room →
    IsChange i j p place place' → KeepsFree room p rank next rank' next' place →
    AreFree room (terms + 1) (next p) rank' next' place'
free_put room terms i j p rank next rank' next' place place' free h empty change keeps = record {
  first = λ k. now (next p) (room - (terms + 1)) (subst (λ (r : ℕ).
      IsFree room (next p) r rank place) less (second (omega arith)))
      (not_p (room - (terms + 1)) (omega arith) (subst (λ (r : ℕ).
      IsFree room (next p) r rank place) less (second (omega arith))));
  onward = λ q r s k. let old : IsFree room q r rank place =
      was q r s in let there : IsFree room (next q) (r - 1) rank place = free.onward q r old k in
      subst (λ (x : ℕ). IsFree room x (r - 1) rank' place')
      (sym (keeps.nexts q old.below old.unused (apart q r s)))
      (now (next q) (r - 1) there (not_p (r - 1) (let bound : r + terms ≤ room =
      free.high q r old in omega arith) there));
  high = λ q r s. below q r s (cases_eq r (room - terms)) (free.high q r (was q r s));
  only = λ q s r x y. free.only q s r (was q r x) (was s r y);
}
  where
    top : IsFree room p (room - terms) rank place
    top = free.first h

    less : room - terms - 1 ≡ room - (terms + 1)
    less = omega arith

    second : 1 < room - terms → IsFree room (next p) (room - terms - 1) rank place
    second k = free.onward p (room - terms) top k

    apart : (q r : ℕ) → IsFree room q r rank' place' → q ≡ p → ⊥
    apart q r s e = s.unused i j (change.here ∙ sym e)

    was : (q r : ℕ) → IsFree room q r rank' place' → IsFree room q r rank place
    was q r s =
        let free_before : (a b : ℕ) → place a b ≡ q → ⊥ =
        used_by i j (λ a b. place a b ≡ q → ⊥) (λ e. let low : q < room =
        s.below in omega arith) (λ a b ne e. s.unused a b (change.others a b ne ∙ e)) in
        record {
          below = s.below;
          unused = free_before;
          ranked =
              sym (keeps.ranks q s.below free_before (apart q r s)) ∙ s.ranked;
        }

    now : (q r : ℕ) → IsFree room q r rank place → (q ≡ p → ⊥) → IsFree room q r rank' place'
    now q r s ne = record {
      below = s.below;
      unused = used_by i j (λ a b. place' a b ≡ q → ⊥) (λ e. ne (sym e ∙ change.here)) (λ a b other e.
          s.unused a b (sym (change.others a b other) ∙ e));
      ranked = keeps.ranks q s.below s.unused ne ∙ s.ranked;
    }

    -- a lower rank is that of another place
    not_p : {q : ℕ} → (r : ℕ) → r < room - terms → IsFree room q r rank place → q ≡ p → ⊥
    not_p {q = q} r k s e = let same : r ≡ room - terms = sym s.ranked ∙ ap rank e ∙ top.ranked in omega arith

    below : (q r : ℕ) → IsFree room q r rank' place' → (r ≡ room - terms) ⊎ (r ≡ room - terms → ⊥) →
        r + terms ≤ room → r + (terms + 1) ≤ room
    below q r s (inl e) k = absurd
        (apart q r s (free.only q p r (was q r s) (subst (λ (x : ℕ). IsFree room p x rank place) (sym e) top)))
    below q r s (inr ne) k = omega arith

pub free_take : (room terms free i j p : ℕ) (rank next rank' next' : ℕ → ℕ) (place place' : ℕ → ℕ → ℕ) →
    AreFree room terms free rank next place → 1 ≤ terms → terms ≤ room → p < room →
    ((a b : ℕ) → place a b ≡ p → (a ≡ i) × (b ≡ j)) → place i j ≡ p → IsChange i j room place place' →
    rank' p ≡ room - (terms - 1) → next' p ≡ free →
    KeepsFree room p rank next rank' next' place → AreFree room (terms - 1) p rank' next' place'
free_take room terms free i j p rank next rank' next' place place' spare some few low alone here change top to
    keeps = record {
      first = λ _. fresh;
      onward = λ q r s k. onward_by q r s k (cases_eq q p);
      high = λ q r s. high_by q r s (cases_eq q p);
      only = λ q s r x y. only_by q s r x y (cases_eq q p) (cases_eq s p);
    }
  where
    fresh : IsFree room p (room - (terms - 1)) rank' place'
    fresh = record {
      below = low;
      unused = used_by i j (λ a b. place' a b ≡ p → ⊥) (λ e. let is : room ≡ p =
          sym change.here ∙ e in omega arith) (λ a b ne e. let both : (a ≡ i) × (b ≡ j) =
          alone a b (sym (change.others a b ne) ∙ e) in ne both.0 both.1);
      ranked = top;
    }

    apart : (q r : ℕ) → IsFree room q r rank place → q ≡ p → ⊥
    apart q r s e = s.unused i j (here ∙ sym e)

    was : (q r : ℕ) → IsFree room q r rank' place' → (q ≡ p → ⊥) → IsFree room q r rank place
    was q r s ne =
        let free_before : (a b : ℕ) → place a b ≡ q → ⊥ =
        used_by i j (λ a b. place a b ≡ q → ⊥) (λ e. ne (sym e ∙ here)) (λ a b other e.
        s.unused a b (change.others a b other ∙ e)) in
        record { below = s.below; unused = free_before; ranked = sym (keeps.ranks q s.below free_before ne) ∙ s.ranked }

    now : (q r : ℕ) → IsFree room q r rank place → IsFree room q r rank' place'
    now q r s = record {
      below = s.below;
      unused = used_by i j (λ a b. place' a b ≡ q → ⊥) (λ e. let is : room ≡ q =
          sym change.here ∙ e in let under : q < room = s.below in omega arith) (λ a b other e.
          s.unused a b (sym (change.others a b other) ∙ e));
      ranked = keeps.ranks q s.below s.unused (apart q r s) ∙ s.ranked;
    }

    fresh_rank : (q r : ℕ) → IsFree room q r rank' place' → q ≡ p → r ≡ room - (terms - 1)
    fresh_rank q r s e = sym s.ranked ∙ ap rank' e ∙ top

    onward_by : (q r : ℕ) → IsFree room q r rank' place' → 1 < r → (q ≡ p) ⊎ (q ≡ p → ⊥) →
        IsFree room (next' q) (r - 1) rank' place'
    onward_by q r s k (inl e) =
        let is : r ≡ room - (terms - 1) = fresh_rank q r s e in
        let rest : room - terms ≡ r - 1 = omega arith in
        subst (λ (x : ℕ). IsFree room x (r - 1) rank' place') (sym (ap next' e ∙ to))
        (subst (λ (m : ℕ). IsFree room free m rank' place') rest
        (now free (room - terms) (spare.first (omega arith))))
    onward_by q r s k (inr ne) =
        let old : IsFree room q r rank place = was q r s ne in
        subst (λ (x : ℕ). IsFree room x (r - 1) rank' place') (sym (keeps.nexts q old.below old.unused ne))
        (now (next q) (r - 1) (spare.onward q r old k))

    high_by : (q r : ℕ) → IsFree room q r rank' place' → (q ≡ p) ⊎ (q ≡ p → ⊥) → r + (terms - 1) ≤ room
    high_by q r s (inl e) = let is : r ≡ room - (terms - 1) = fresh_rank q r s e in omega arith
    high_by q r s (inr ne) = let bound : r + terms ≤ room = spare.high q r (was q r s ne) in omega arith

    only_by : (q s r : ℕ) → IsFree room q r rank' place' → IsFree room s r rank' place' →
        (q ≡ p) ⊎ (q ≡ p → ⊥) → (s ≡ p) ⊎ (s ≡ p → ⊥) → q ≡ s
    only_by q s r x y (inl e) (inl k) = e ∙ sym k
    only_by q s r x y (inl e) (inr ne) = let is : r ≡ room - (terms - 1) =
        fresh_rank q r x e in let bound : r + terms ≤ room = spare.high s r (was s r y ne) in absurd (omega arith)
    only_by q s r x y (inr ne) (inl k) = let is : r ≡ room - (terms - 1) =
        fresh_rank s r y k in let bound : r + terms ≤ room = spare.high q r (was q r x ne) in absurd (omega arith)
    only_by q s r x y (inr ne) (inr nk) = spare.only q s r (was q r x ne) (was s r y nk)
