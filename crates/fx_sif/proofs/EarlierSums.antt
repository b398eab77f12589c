-- Sums over the moments of a sequence: linear, and two of them in either order.
use Rattle.std.proofs.Common.{◌≡◌, ℕ, zero, suc, ◌+◌, ◌≤◌, List, [], ◌∷◌, length, map, drop, refl, arith, sym}
use Rattle.std.proofs.Common.{ap, ap₂, ◌∙◌}
use Rattle.std.proofs.Math.IntN.{ℤ, pos, ◌+ℤ◌, ◌*ℤ◌}
use Rattle.std.proofs.lemmas.Int.{ints}
use Rattle.std.proofs.lemmas.List.{drop_all}
use Rattle.fx_math.proofs.Ring.{mul-add, mul_assoc, mul_comm}
use Rattle.fx_nums.specs.Fraction.{Fraction, minus}
use Rattle.fx_nums.specs.Fraction.{zero_fraction}
use Rattle.fx_sif.specs.Entries.{coefficient}
use Rattle.fx_sif.proofs.Earlier.{ago, weigh}
use Rattle.fx_sif.proofs.Uniqueness.{ago_same}

-- ---- one sequence

pub weigh_same : (w : Fraction → ℤ) (x y : ℕ → ℤ) (k : ℕ) (cs : List Fraction) (l : ℕ) →
    ((j : ℕ) → j ≤ k → x j ≡ y j) → weigh w x k l cs ≡ weigh w y k l cs
weigh_same w x y k [] l h = refl
weigh_same w x y k (c ∷ cs) l h = ap₂ (λ a b. w c *ℤ a +ℤ b) (ago_same x y k l h) (weigh_same w x y k cs (l + 1) h)

-- one moment later, one moment more before
pub weigh_later : (w : Fraction → ℤ) (f : ℕ → ℤ) (k : ℕ) (cs : List Fraction) (l : ℕ) →
    weigh w f (suc k) (suc l) cs ≡ weigh w f k l cs
weigh_later w f k [] l = refl
weigh_later w f k (c ∷ cs) l = let e : suc l + 1 ≡ suc (l + 1) = omega arith in
    rw e (ap (λ b. w c *ℤ ago f k l +ℤ b) (weigh_later w f k cs (l + 1)))

no_weight_left : (a : ℤ) → a *ℤ pos 0 +ℤ pos 0 ≡ pos 0
no_weight_left a = omega (arith, ints)

-- nothing lies before moment 0
pub weigh_start : (w : Fraction → ℤ) (f : ℕ → ℤ) (cs : List Fraction) (l : ℕ) → weigh w f 0 (suc l) cs ≡ pos 0
weigh_start w f [] l = refl
weigh_start w f (c ∷ cs) l = let e : suc l + 1 ≡ suc (l + 1) = omega arith in
    rw e (ap (λ b. w c *ℤ pos 0 +ℤ b) (weigh_start w f cs (l + 1)) ∙ no_weight_left (w c))

-- ---- linear

ago_scaled : (d : ℤ) (x : ℕ → ℤ) (k l : ℕ) → ago (λ k. d *ℤ x k) k l ≡ d *ℤ ago x k l
ago_scaled d x k zero = refl
ago_scaled d x zero (suc l) = omega (arith, ints)
ago_scaled d x (suc k) (suc l) = ago_scaled d x k l

ago_sum : (x y : ℕ → ℤ) (k l : ℕ) → ago (λ k. x k +ℤ y k) k l ≡ ago x k l +ℤ ago y k l
ago_sum x y k zero = refl
ago_sum x y zero (suc l) = refl
ago_sum x y (suc k) (suc l) = ago_sum x y k l

ago_ago : (t : ℕ → ℤ) (k m l : ℕ) → ago (λ k. ago t k l) k m ≡ ago t k (m + l)
ago_ago t k zero l = let e : l ≡ 0 + l = omega arith in ap (ago t k) e
ago_ago t zero (suc m) l = let e : suc (m + l) ≡ suc m + l = omega arith in ap (ago t zero) e
ago_ago t (suc k) (suc m) l = ago_ago t k m l ∙ (let e : suc (m + l) ≡ suc m + l = omega arith in ap (ago t (suc k)) e)

exchanged : (c d y b : ℤ) → c *ℤ (d *ℤ y) +ℤ d *ℤ b ≡ d *ℤ (c *ℤ y +ℤ b)
exchanged c d y b = ap (λ x. x +ℤ d *ℤ b) (sym (mul_assoc c d y) ∙ ap (λ x. x *ℤ y) (mul_comm c d) ∙ mul_assoc d c y)
    ∙ sym (mul-add d (c *ℤ y) b)

pub weigh_scaled : (w : Fraction → ℤ) (d : ℤ) (x : ℕ → ℤ) (k : ℕ) (cs : List Fraction) (l : ℕ) →
    weigh w (λ k. d *ℤ x k) k l cs ≡ d *ℤ weigh w x k l cs
weigh_scaled w d x k [] l = omega (arith, ints)
weigh_scaled w d x k (c ∷ cs) l = ap₂ (λ a b. w c *ℤ a +ℤ b) (ago_scaled d x k l) (weigh_scaled w d x k cs (l + 1))
    ∙ exchanged (w c) d (ago x k l) (weigh w x k (l + 1) cs)

paired : (c x y a b : ℤ) → c *ℤ (x +ℤ y) +ℤ (a +ℤ b) ≡ (c *ℤ x +ℤ a) +ℤ (c *ℤ y +ℤ b)
paired c x y a b = ap (λ v. v +ℤ (a +ℤ b)) (mul-add c x y) ∙ omega (arith, ints)

pub weigh_sum : (w : Fraction → ℤ) (x y : ℕ → ℤ) (k : ℕ) (cs : List Fraction) (l : ℕ) →
    weigh w (λ k. x k +ℤ y k) k l cs ≡ weigh w x k l cs +ℤ weigh w y k l cs
weigh_sum w x y k [] l = refl
weigh_sum w x y k (c ∷ cs) l =
    ap₂ (λ a b. w c *ℤ a +ℤ b) (ago_sum x y k l) (weigh_sum w x y k cs (l + 1))
    ∙ paired (w c) (ago x k l) (ago y k l) (weigh w x k (l + 1) cs) (weigh w y k (l + 1) cs)

-- ---- two of them

weigh_of_ago : (w : Fraction → ℤ) (t : ℕ → ℤ) (k l : ℕ) (bs : List Fraction) (m : ℕ) →
    weigh w (λ k. ago t k l) k m bs ≡ weigh w t k (m + l) bs
weigh_of_ago w t k l [] m = refl
weigh_of_ago w t k l (b ∷ bs) m =
    ap₂ (λ x y. w b *ℤ x +ℤ y) (ago_ago t k m l)
    (weigh_of_ago w t k l bs (m + 1)
    ∙ (let e : m + 1 + l ≡ m + l + 1 = omega arith in ap (λ n. weigh w t k n bs) e))

ago_of_weigh : (w : Fraction → ℤ) (t : ℕ → ℤ) (bs : List Fraction) (m k l : ℕ) →
    ago (λ k. weigh w t k m bs) k l ≡ weigh w t k (m + l) bs
ago_of_weigh w t bs m k zero = let e : m ≡ m + 0 = omega arith in ap (λ n. weigh w t k n bs) e
ago_of_weigh w t bs m zero (suc l) = sym (weigh_start w t bs (m + l))
    ∙ (let e : suc (m + l) ≡ m + suc l = omega arith in ap (λ n. weigh w t zero n bs) e)
ago_of_weigh w t bs m (suc k) (suc l) =
    ago_of_weigh w t bs m k l ∙ sym (weigh_later w t k bs (m + l))
    ∙ (let e : suc (m + l) ≡ m + suc l = omega arith in ap (λ n. weigh w t (suc k) n bs) e)

weigh_nothing : (w : Fraction → ℤ) (k : ℕ) (bs : List Fraction) (m : ℕ) → pos 0 ≡ weigh w (λ k. pos 0) k m bs
weigh_nothing w k [] m = refl
weigh_nothing w k (b ∷ bs) m =
    sym (ap₂ (λ x y. w b *ℤ x +ℤ y) (none k m) (sym (weigh_nothing w k bs (m + 1))) ∙ no_weight_left (w b))
  where
    none : (k m : ℕ) → ago (λ k. pos 0) k m ≡ pos 0
    none k zero = refl
    none zero (suc m) = refl
    none (suc k) (suc m) = none k m

-- coefficients over coefficients, in either order
pub weigh_exchanged : (w : Fraction → ℤ) (t : ℕ → ℤ) (k : ℕ) (bs : List Fraction) (m : ℕ) (cs : List Fraction) (l : ℕ) →
    weigh w (λ k. weigh w t k m bs) k l cs ≡ weigh w (λ k. weigh w t k l cs) k m bs
weigh_exchanged w t k bs m [] l = weigh_nothing w k bs m
weigh_exchanged w t k bs m (c ∷ cs) l =
    ap₂ (λ x y. w c *ℤ x +ℤ y)
    (ago_of_weigh w t bs m k l ∙ sym (weigh_of_ago w t k l bs m))
    (weigh_exchanged w t k bs m cs (l + 1))
    ∙ ap (λ x. x +ℤ weigh w (λ k. weigh w t k (l + 1) cs) k m bs) (sym (weigh_scaled w (w c) (λ k. ago t k l) k bs m))
    ∙ sym (weigh_sum w (λ k. w c *ℤ ago t k l) (λ k. weigh w t k (l + 1) cs) k bs m)

-- ---- from a place of the list on

pub coefficient_next : (cs : List Fraction) (i : ℕ) → coefficient (drop 1 cs) i ≡ coefficient cs (i + 1)
coefficient_next [] i = refl
coefficient_next (c ∷ cs) i = let e : suc i ≡ i + 1 = omega arith in ap (coefficient (c ∷ cs)) e

pub coefficient_opposite : (cs : List Fraction) (i : ℕ) → coefficient (map minus cs) i ≡ minus (coefficient cs i)
coefficient_opposite [] i = refl
coefficient_opposite (c ∷ cs) zero = refl
coefficient_opposite (c ∷ cs) (suc i) = coefficient_opposite cs i

nothing_missing : (a y : ℤ) → a ≡ pos 0 → pos 0 ≡ a *ℤ y +ℤ pos 0
nothing_missing a y e = rw e (omega (arith, ints))

-- a coefficient, and those behind it; a missing one has no weight
pub weigh_from : (w : Fraction → ℤ) → w zero_fraction ≡ pos 0 → (f : ℕ → ℤ) (k l : ℕ) (cs : List Fraction) (i : ℕ) →
    weigh w f k l (drop i cs) ≡ w (coefficient cs i) *ℤ ago f k l +ℤ weigh w f k (l + 1) (drop (i + 1) cs)
weigh_from w none f k l [] i =
    let nil : List Fraction = [] in
    let here : drop i nil ≡ [] = drop_all i nil (omega arith) in
    let behind : drop (i + 1) nil ≡ [] = drop_all (i + 1) nil (omega arith) in
    rw (here, behind) (nothing_missing (w zero_fraction) (ago f k l) none)
weigh_from w none f k l (c ∷ cs) zero = refl
weigh_from w none f k l (c ∷ cs) (suc i) = let e : suc i + 1 ≡ suc (i + 1) = omega arith in
    rw e (weigh_from w none f k l cs i)

pub weigh_past : (w : Fraction → ℤ) (f : ℕ → ℤ) (k l i : ℕ) (cs : List Fraction) → length cs ≤ i →
    weigh w f k l (drop i cs) ≡ pos 0
weigh_past w f k l i cs h = ap (weigh w f k l) (drop_all i cs h)
