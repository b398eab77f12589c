-- States that pass a value on hold the value of earlier moments.
use Rattle.std.proofs.Common.{◌≡◌, ℕ, zero, suc, ◌+◌, ◌*◌, ◌/◌, ◌<◌, ◌≤◌, true, List, [], ◌∷◌, length, refl}
use Rattle.std.proofs.Common.{arith, sym, ap, ap₂, ◌∙◌}
use Rattle.std.proofs.Math.IntN.{ℤ, pos, ◌+ℤ◌, ◌*ℤ◌}
use Rattle.std.proofs.lemmas.Int.{ints}
use Rattle.fx_math.specs.Unroll.{before}
use Rattle.fx_nums.specs.Fraction.{Fraction, one_fraction}
use Rattle.fx_sif.specs.Implicit.{Implicit, rows}
use Rattle.fx_sif.specs.Rows.{row_place, net_read, on_the_right, is_read}
use Rattle.fx_sif.specs.declared.parts.Block.{Block}
use Rattle.fx_sif.specs.declared.parts.Block.TheVariants.{P}
use Rattle.fx_sif.specs.declared.parts.Sizes.{Sizes}
use Rattle.fx_sif.specs.Entries.{across, delay_row}
use Rattle.fx_sif.proofs.Earlier.{ago, weigh}
use Rattle.fx_sif.proofs.OneScale.{weight, read_of, RowsMeet, cancelled}
use Rattle.fx_sif.proofs.RowSums.{adds, all_add}
use Rattle.fx_sif.proofs.EntriesOfRow.{InRow}

-- ---- the number 1

-- a row at the scale of a form's rows
pub one_weighs : (q g : ℕ) → weight q g one_fraction ≡ pos (q * g)
one_weighs q g =
    let whole : q / 1 ≡ q = omega arith in
    let e : 1 * (q / 1) * g ≡ q * g = ap (λ m. 1 * m * g) whole ∙ omega arith in
    ap pos e

nothing_more : (y : ℤ) → y +ℤ pos 0 ≡ y
nothing_more y = omega (arith, ints)

-- what a row reads with coefficient 1 alone
pub alone : (q g : ℕ) (y : ℤ) → weight q g one_fraction *ℤ y +ℤ pos 0 ≡ pos (q * g) *ℤ y
alone q g y = nothing_more (weight q g one_fraction *ℤ y) ∙ ap (λ w. w *ℤ y) (one_weighs q g)

-- ---- where the entries of such states stand

pub delay_in : (s : Sizes) (block : Block) (column at i : ℕ) → ((i : ℕ) → row_place s block i ≡ s.t + i) →
    ((i j : ℕ) → is_read block i j ≡ true) → InRow s (s.t + at + i) (delay_row block column at i)
delay_in s block column at zero place read = (read at column, place at ∙ omega arith, tt)
delay_in s block column at (suc i) place read = (refl, omega arith, tt)

-- ---- what they hold

module _ (f : Implicit) (q g last : ℕ) (x u : ℕ → ℕ → ℤ) (positive : 0 < q * g) (meet : RowsMeet f q g last x u) where
  -- a state from a place on holds what the first takes in, so many moments before
  pub delayed : (block : Block) (column : ℕ) (v : ℕ → ℤ) (at count : ℕ) →
      ((i k : ℕ) → i < count →
      adds f.sizes (weight q g) x u k (f.sizes.t + (at + i)) f.entries
      ≡ all_add f.sizes (weight q g) x u k (delay_row block column at i)) →
      ((k : ℕ) → k ≤ last → read_of x u k (net_read f.sizes block column) ≡ v k) →
      on_the_right block one_fraction ≡ one_fraction → f.sizes.t + (at + count) ≤ rows f.sizes →
      (i k : ℕ) → k ≤ last → i < count → x k (f.sizes.t + (at + i)) ≡ ago v k i
  delayed block column v at count rows_are source plus room zero k h l =
      cancelled (q * g) (x k (f.sizes.t + (at + 0))) (v k) positive
      (meet k (f.sizes.t + (at + 0)) h (omega arith)
      ∙ rows_are 0 k l
      ∙ ap₂ (λ c y. weight q g c *ℤ y +ℤ pos 0) plus (source k h)
      ∙ alone q g (v k))
  delayed block column v at count rows_are source plus room (suc i) k h l =
      cancelled (q * g) (x k (f.sizes.t + (at + suc i))) (ago v k (suc i)) positive
      (meet k (f.sizes.t + (at + suc i)) h (omega arith)
      ∙ rows_are (suc i) k l
      ∙ alone q g (before x k (f.sizes.t + (at + i)))
      ∙ ap (λ y. pos (q * g) *ℤ y)
      (state (λ k h. delayed block column v at count rows_are source plus room i k h (omega arith)) k h))
    where
      state : ((k : ℕ) → k ≤ last → x k (f.sizes.t + (at + i)) ≡ ago v k i) → (k : ℕ) → k ≤ last →
          before x k (f.sizes.t + (at + i)) ≡ ago v k (suc i)
      state before_it zero h = refl
      state before_it (suc k) h = before_it k (omega arith)

-- a row's coefficients over such states, from column j on
pub over_states : (f : Implicit) (q g last : ℕ) (x u : ℕ → ℕ → ℤ) (block : Block) (v : ℕ → ℤ) (at count : ℕ) →
    ((j : ℕ) → net_read f.sizes block j ≡ net_read f.sizes P j) → ((c : Fraction) → on_the_right block c ≡ c) →
    ((i k : ℕ) → k ≤ last → i < count → x k (f.sizes.t + (at + i)) ≡ ago v k i) →
    (k r : ℕ) (cs : List Fraction) (i j : ℕ) → k ≤ last → at + i ≡ j → i + length cs ≤ count →
    all_add f.sizes (weight q g) x u k (across block r j cs) ≡ weigh (weight q g) v k (i + 1) cs
over_states f q g last x u block v at count reads plus states k r [] i j h same room = refl
over_states f q g last x u block v at count reads plus states k r (c ∷ cs) i j h same room =
    ap₂ (λ a b. a +ℤ b)
    (ap₂ (λ a b. weight q g a *ℤ read_of x u k b) (plus c) (reads j) ∙ ap (λ y. weight q g c *ℤ y) (state k h))
    (over_states f q g last x u block v at count reads plus states k r cs (i + 1) (j + 1) h (omega arith) (omega arith))
  where
    state : (k : ℕ) → k ≤ last → before x k (f.sizes.t + j) ≡ ago v k (i + 1)
    state zero h = let e : i + 1 ≡ suc i = omega arith in rw e refl
    state (suc k) h =
        let e : i + 1 ≡ suc i = omega arith in
        let place : f.sizes.t + j ≡ f.sizes.t + (at + i) = omega arith in
        ap (x k) place ∙ states i k (omega arith) (omega arith) ∙ ap (ago v (suc k)) (sym e)
