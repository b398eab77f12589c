-- What is carried as a sweep begins.
use Rattle.std.proofs.Common.{◌≡◌, ◌≢◌, ℕ, ◌^◌, ◌≤◌, ◌⊎◌, ◌==◌, cond, sym, ◌∙◌, ap, inl, inr}
use Rattle.std.proofs.Common.{arith, unsigned_abs, lit<, Bool, true, false}
use Rattle.std.proofs.Math.IntN.{ℤ, pos, ◌+ℤ◌, ◌-ℤ◌, neg_ℤ}
use Rattle.std.proofs.Math.Nat.{pow-le-pow_right}
use Rattle.std.proofs.lemmas.Int.{ints}
use Rattle.std.proofs.lemmas.Bool.{cases_eq, eq-eqb, ne_eqb, cond-true, cond-false}
use borrow.Author.Differences.{abs_is}
use mathlib.Core.Path.{fun_ext}
use Rattle.fx_nums.specs.Interval.{Interval, point}
use Rattle.fx_sweep.specs.Steps.{IsNarrow, carried_width, greatest}
use Rattle.fx_sweep.specs.Swept.{no_intervals}
use Rattle.fx_sweep.specs.Target.{TargetFits, one, only, power, start_of, weights}
use Rattle.fx_sweep.specs.declared.target.Target.{Target}
use Rattle.fx_sweep.specs.declared.target.Target.TheVariants.{Row, Pair}

only_here : (t : ℕ) (w : ℤ) (j : ℕ) → j ≡ t → only t w j ≡ w
only_here t w j e = cond-true _ _ _ (eq-eqb j t e)

only_else : (t : ℕ) (w : ℤ) (j : ℕ) → (j ≡ t → ⊥) → only t w j ≡ pos 0
only_else t w j ne = cond-false _ _ _ (ne_eqb j t ne)

pub row_started : (old new : ℕ → Interval) (t : ℕ) → old ≡ no_intervals → new t ≡ point one →
    ((k : ℕ) → k ≢ t → new k ≡ old k) → new ≡ start_of (Row t)
row_started old new t zero here others = fun_ext (λ j. by_place j (cases_eq j t))
  where
    by_place : (j : ℕ) → (j ≡ t) ⊎ (j ≡ t → ⊥) → new j ≡ point (weights (Row t) j)
    by_place j (inl e) = ap new e ∙ here ∙ ap point (sym (only_here t one j e))
    by_place j (inr ne) = others j ne ∙ ap (λ f. f j) zero ∙ ap point (sym (only_else t one j ne))

pub pair_started : (old mid new : ℕ → Interval) (code original : ℕ) (shift : ℤ) → (code ≡ original → ⊥) →
    old ≡ no_intervals → mid code ≡ point one → ((k : ℕ) → k ≢ code → mid k ≡ old k) →
    new original ≡ point (neg_ℤ (power shift)) → ((k : ℕ) → k ≢ original → new k ≡ mid k) →
    new ≡ start_of (Pair code original shift)
pair_started old mid new code original shift apart zero first rest second others =
    fun_ext (λ j. by_place j (cases_eq j code) (cases_eq j original))
  where
    by_place : (j : ℕ) → (j ≡ code) ⊎ (j ≡ code → ⊥) → (j ≡ original) ⊎ (j ≡ original → ⊥) →
        new j ≡ point (only code one j -ℤ only original (power shift) j)
    by_place j (inl e) (inl f) = absurd (apart (sym e ∙ f))
    by_place j (inl e) (inr ne) =
        others j ne ∙ ap mid e ∙ first
        ∙ ap point (let a = only_here code one j e in let b =
        only_else original (power shift) j ne in omega (arith, ints, a, b))
    by_place j (inr ne) (inl f) =
        ap new f ∙ second
        ∙ ap point (let a = only_else code one j ne in let b =
        only_here original (power shift) j f in omega (arith, ints, a, b))
    by_place j (inr ne) (inr other) =
        others j other ∙ rest j ne ∙ ap (λ f. f j) zero
        ∙ ap point (let a = only_else code one j ne in let b =
        only_else original (power shift) j other in omega (arith, ints, a, b))

only_small : (t : ℕ) (w : ℤ) (j b : ℕ) → unsigned_abs w ≤ b → unsigned_abs (only t w j) ≤ b
only_small t w j b h = by_test (j == t)
  where
    by_test : (x : Bool) → unsigned_abs (cond x w (pos 0)) ≤ b
    by_test true = h
    by_test false = omega arith

point_narrow : (v : ℤ) → unsigned_abs v ≤ greatest → IsNarrow greatest carried_width (point v)
point_narrow v h = record { low = h; high = h; near = omega (arith, ints) }

pub start_narrow : (n : ℕ) (target : Target) → TargetFits n target → (j : ℕ) →
    IsNarrow greatest carried_width (start_of target j)
start_narrow n (Row t) fits j = point_narrow _ (let a = only_small t one j (2 ^ 64) (omega arith) in omega (arith, a))
start_narrow n (Pair code original shift) (c, o, apart, small) j =
    let exponent : unsigned_abs (pos 64 +ℤ shift) ≤ 80 = omega (arith, ints, abs_is, small) in
    let high : 2 ^ unsigned_abs (pos 64 +ℤ shift) ≤ 2 ^ 80 = pow-le-pow_right (lit< tt) exponent in
    let a = only_small code one j (2 ^ 64) (omega arith) in
    let b = only_small original (power shift) j (2 ^ 80) (omega (arith, high)) in
    point_narrow _ (omega (arith, ints, abs_is, a, b))
