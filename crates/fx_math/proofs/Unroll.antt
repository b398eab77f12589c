-- How a moment is filled: row by row, and alike where the steps agree on the way.
use Rattle.std.proofs.Common.{◌≡◌, ℕ, zero, suc, ◌<◌, ◌≤◌, inl, inr, arith, refl, ap, ap₂, sym, ◌∙◌, cond, eqb}
use mathlib.Core.Path.{fun_ext}
use Rattle.std.proofs.Math.IntN.{ℤ}
use Rattle.std.proofs.lemmas.Bool.{cases_lt}
use Rattle.std.proofs.lemmas.Bool.Decides.{nat_tests}
use Rattle.fx_math.specs.Laws.{UnrolledIsItsStep}
use Rattle.fx_math.specs.Unroll.{Step, before, fill, last, unroll}

pub same_fill : (f g : ℕ → (ℕ → ℤ) → ℤ) (n : ℕ) → ((i : ℕ) → i < n → f i (fill g i) ≡ g i (fill g i)) →
    fill f n ≡ fill g n
same_fill f g zero h = refl
same_fill f g (suc n) h =
    let e : fill f n ≡ fill g n = same_fill f g n (λ i l. h i (omega arith)) in
    let v : f n (fill f n) ≡ g n (fill g n) = ap (f n) e ∙ h n (omega arith) in
    fun_ext (λ j. ap₂ (λ x (y : ℕ → ℤ). cond (eqb j n) x (y j)) v e)

-- a row that was filled is its step of the rows before it
pub fill_at : (f : ℕ → (ℕ → ℤ) → ℤ) (n i : ℕ) → i < n → fill f n i ≡ f i (fill f i)
fill_at f zero i h = absurd (omega arith)
fill_at f (suc n) i h =
    elim (cases_lt i n) [
      | inl below ↦ grind (arith, nat_tests, fill_at f n i below)
      | inr at ↦ let same : i ≡ n = omega arith in rw same (grind (arith, nat_tests))
    ]

-- later rows leave it
pub fill_kept : (f : ℕ → (ℕ → ℤ) → ℤ) (n i j : ℕ) → j < i → i ≤ n → fill f i j ≡ fill f n j
fill_kept f n i j h l = fill_at f i j h ∙ sym (fill_at f n j (omega arith))

-- the moment before is the one that was unrolled
pub last_is_before : (n : ℕ) (step : Step) (k : ℕ) → last n step k ≡ before (unroll n step) k
last_is_before n step zero = fun_ext (λ j. refl)
last_is_before n step (suc k) = fun_ext (λ j. refl)

pub unrolled_step : UnrolledIsItsStep
unrolled_step n step reads k i h =
    let f : ℕ → (ℕ → ℤ) → ℤ = λ i now. step k i now (last n step k) in
    fill_at f n i h
    ∙ reads k i (fill f i) (fill f n) (last n step k) h (λ j l. fill_kept f n i j l (omega arith))
    ∙ ap₂ (λ now old. step k i now old) (fun_ext (λ j. refl)) (last_is_before n step k)
