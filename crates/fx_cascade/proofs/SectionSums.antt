-- What the entries of sections add to the rows of a form.
use Rattle.std.proofs.Common.{◌≡◌, ◌⊎◌, ℕ, zero, suc, ◌+◌, ◌<◌, ◌≤◌, inl, inr, List, ◌∷◌, ◌++◌, refl, arith, ap}
use Rattle.std.proofs.Common.{subst, ◌∙◌}
use Rattle.std.proofs.Math.IntN.{ℤ, pos, neg_ℤ, ◌+ℤ◌, ◌*ℤ◌}
use Rattle.std.proofs.lemmas.Bool.{cases_lt, lt-ltb}
use Rattle.std.proofs.lemmas.Int.{ints}
use Rattle.fx_math.specs.Sums.{joined}
use Rattle.fx_math.specs.Unroll.{before}
use Rattle.fx_nums.specs.Fraction.{Fraction, IsWholeOver, minus}
use Rattle.fx_eqs.specs.TextbookRuns.{section_source}
use Rattle.fx_net.specs.Net.{plain}
use Rattle.fx_sif.specs.declared.parts.Entry.{Entry}
use Rattle.fx_sif.specs.declared.parts.Sizes.{Sizes}
use Rattle.fx_sif.proofs.Denominators.{IsSuited}
use Rattle.fx_sif.proofs.Earlier.{ago}
use Rattle.fx_sif.proofs.EntriesOfRow.{InRow}
use Rattle.fx_sif.proofs.LagSums.{sequence}
use Rattle.fx_sif.proofs.RowSums.{adds, adds_first, adds_second, all_add}
use Rattle.fx_cascade.specs.Cascades.{state_takes, taken_in}

-- ---- parts one behind the other

module _ (s : Sizes) (w : Fraction → ℤ) (x u : ℕ → ℕ → ℤ) (k : ℕ) where
  pub adds_no_part : (n r : ℕ) (f : ℕ → List Entry) → ((i : ℕ) → i < n → adds s w x u k r (f i) ≡ pos 0) →
      adds s w x u k r (joined n f) ≡ pos 0
  adds_no_part zero r f each = refl
  adds_no_part (suc n) r f each =
      adds_first s w x u k r (joined n f) (f n) (each n (omega arith))
      ∙ adds_no_part n r f (λ i h. each i (omega arith))

  pub adds_its_part : (n r : ℕ) (f : ℕ → List Entry) (j : ℕ) → j < n →
      ((i : ℕ) → i < n → (i ≡ j → ⊥) → adds s w x u k r (f i) ≡ pos 0) →
      adds s w x u k r (joined n f) ≡ adds s w x u k r (f j)
  adds_its_part zero r f j h each = absurd (omega arith)
  adds_its_part (suc n) r f j h each =
      by_place (λ below. adds_its_part n r f j below (λ i l other. each i (omega arith) other)) (cases_lt j n)
    where
      by_place : (j < n → adds s w x u k r (joined n f) ≡ adds s w x u k r (f j)) → (j < n) ⊎ (n ≤ j) →
          adds s w x u k r (joined n f ++ f n) ≡ adds s w x u k r (f j)
      by_place earlier (inl below) =
          adds_first s w x u k r (joined n f) (f n) (each n (omega arith) (λ same. omega (arith, same, below)))
          ∙ earlier below
      by_place earlier (inr high) =
          let last : n ≡ j = omega arith in
          adds_second s w x u k r (joined n f) (f n)
          (adds_no_part n r f (λ i l. each i (omega arith) (λ same. omega (arith, same, l, high))))
          ∙ ap (λ i. adds s w x u k r (f i)) last

-- ---- what a section takes in

neg_neg : (z : ℤ) → neg_ℤ (neg_ℤ z) ≡ z
neg_neg z = omega (arith, ints)

pub minus_minus : (c : Fraction) → minus (minus c) ≡ c
minus_minus c = ap (λ z. record { num = z; den = c.den }) (neg_neg c.num)

pub taken_here : (s : Sizes) (i : ℕ) (c : Fraction) (es : List Entry) → InRow s i es → InRow s i (taken_in i c ∷ es)
taken_here s zero c es rest = (refl, refl, rest)
taken_here s (suc i) c es rest = (lt-ltb i (suc i) (omega arith), refl, rest)

pub taken_adds : (s : Sizes) (w : Fraction → ℤ) (x u : ℕ → ℕ → ℤ) (k i : ℕ) (c : Fraction) (es : List Entry) →
    all_add s w x u k (taken_in i c ∷ es) ≡ w c *ℤ sequence x u (section_source i) k +ℤ all_add s w x u k es
taken_adds s w x u k zero c es = refl
taken_adds s w x u k (suc i) c es = ap (λ c. w c *ℤ x k i +ℤ all_add s w x u k es) (minus_minus c)

pub taken_suits : (q i : ℕ) (c : Fraction) → IsSuited q (taken_in i c) → IsWholeOver q (plain c)
taken_suits q zero c h = h refl
taken_suits q (suc i) c h = subst (λ c. IsWholeOver q (plain c)) (minus_minus c) (h (lt-ltb i (suc i) (omega arith)))

pub state_here : (s : Sizes) (row i : ℕ) (c : Fraction) (es : List Entry) → InRow s (s.t + row) es →
    InRow s (s.t + row) (state_takes row i c ∷ es)
state_here s row zero c es rest = (refl, refl, rest)
state_here s row (suc i) c es rest = (refl, refl, rest)

pub state_adds : (s : Sizes) (w : Fraction → ℤ) (x u : ℕ → ℕ → ℤ) (k row i : ℕ) (c : Fraction) (es : List Entry) →
    all_add s w x u k (state_takes row i c ∷ es) ≡ w c *ℤ sequence x u (section_source i) k +ℤ all_add s w x u k es
state_adds s w x u k row zero c es = refl
state_adds s w x u k row (suc i) c es = refl

pub state_suits : (q row i : ℕ) (c : Fraction) → IsSuited q (state_takes row i c) → IsWholeOver q (plain c)
state_suits q row zero c h = h refl
state_suits q row (suc i) c h = h refl

-- ---- a row of the moment before

pub before_is : (x : ℕ → ℕ → ℤ) (v : ℕ → ℤ) (last r l : ℕ) → ((k : ℕ) → k ≤ last → x k r ≡ ago v k l) → (k : ℕ) →
    k ≤ last →
    before x k r ≡ ago v k (suc l)
before_is x v last r l held zero h = refl
before_is x v last r l held (suc k) h = held k (omega arith)
