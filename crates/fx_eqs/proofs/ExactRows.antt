-- The exact values meet their equations.
use Rattle.std.proofs.Common.{◌≡◌, ℕ, zero, suc, ◌+◌, ◌-◌, ◌*◌, ◌^◌, ◌<◌, arith, refl, ap, ap₂, sym, subst, ◌≤◌}
use Rattle.std.proofs.Common.{◌∙◌, List, [], ◌∷◌, Bool, true, false, eqb, inl, inr, All, if◌then◌else◌}
use Rattle.std.proofs.Math.IntN.{ℤ, pos, ◌+ℤ◌, ◌*ℤ◌}
use Rattle.std.proofs.lemmas.Bool.{cases_lt}
use Rattle.std.proofs.lemmas.Bool.Decides.{nat_tests}
use Rattle.std.proofs.lemmas.List.Elements.{All-head, All-tail}
use Rattle.fx_math.specs.Unroll.{fill, lagged}
use Rattle.fx_nums.specs.Fraction.{over}
use Rattle.fx_eqs.specs.Equations.{Equations}
use Rattle.fx_eqs.specs.ExactRun.{value_read, terms_sum, with_now, past_values, exact_value}
use Rattle.fx_eqs.specs.Fits.{IsThereByThen, TermFits, EquationsFit}
use Rattle.fx_eqs.specs.Laws.{MeetsEquations}
use Rattle.fx_eqs.specs.declared.term.Source.{Source}
use Rattle.fx_eqs.specs.declared.term.Source.TheVariants.{Row, In}
use Rattle.fx_eqs.specs.declared.term.Term.{Term}

-- a place below n is filled by its own step
fill_at : (f : ℕ → (ℕ → ℤ) → ℤ) (n i : ℕ) → i < n → fill f n i ≡ f i (fill f i)
fill_at f zero i h = absurd (omega arith)
fill_at f (suc n) i h =
    elim (cases_lt i n) [
      | inl below ↦ grind (arith, nat_tests, fill_at f n i below)
      | inr at ↦ let same : i ≡ n = omega arith in rw same (grind (arith, nat_tests))
    ]

past_is : (s : Equations) (q : ℕ) (u : ℕ → ℕ → ℤ) (k l j : ℕ) →
    past_values s q u (suc k) l j ≡ lagged (exact_value s q u) k l j
past_is s q u k zero j = refl
past_is s q u zero (suc l) j = refl
past_is s q u (suc k) (suc l) j = past_is s q u k l j

-- the rows of this moment agree before row i, and those of the moments before agree
record Agree (i : ℕ) (f g : ℕ → ℕ → ℤ) : Type 0 where
  now : (j : ℕ) → j < i → f zero j ≡ g zero j
  old : (l j : ℕ) → f (suc l) j ≡ g (suc l) j

same_read : (s : Equations) (q : ℕ) (u : ℕ → ℕ → ℤ) (k i : ℕ) (f g : ℕ → ℕ → ℤ) → Agree i f g →
    (from : Source) (lag : ℕ) → IsThereByThen i from lag →
    value_read s q u k i f from lag ≡ value_read s q u k i g from lag
same_read s q u k i f g a (Row j) zero b = ap (λ x. x *ℤ pos (q ^ (zero * s.rows + i - j - 1))) (a.now j (b refl))
same_read s q u k i f g a (Row j) (suc l) b = ap (λ x. x *ℤ pos (q ^ (suc l * s.rows + i - j - 1))) (a.old l j)
same_read s q u k i f g a (In j) lag b = refl

same_term : (s : Equations) (q : ℕ) (u : ℕ → ℕ → ℤ) (k i : ℕ) (f g : ℕ → ℕ → ℤ) → Agree i f g → (t : Term) →
    IsThereByThen t.row t.from t.lag → (b : Bool) → (b ≡ true → t.row ≡ i) →
    (if b then over q t.coef *ℤ value_read s q u k i f t.from t.lag else pos 0)
    ≡ (if b then over q t.coef *ℤ value_read s q u k i g t.from t.lag else pos 0)
same_term s q u k i f g a t there true same =
    ap (λ x. over q t.coef *ℤ x)
    (same_read s q u k i f g a t.from t.lag (subst (λ row. IsThereByThen row t.from t.lag) (same refl) there))
same_term s q u k i f g a t there false same = refl

same_row : (a b : ℕ) → eqb a b ≡ true → a ≡ b
same_row a b e = grind (arith, nat_tests)

same_sum : (s : Equations) (q : ℕ) (u : ℕ → ℕ → ℤ) (k i : ℕ) (f g : ℕ → ℕ → ℤ) → Agree i f g →
    (ts : List Term) → All (TermFits s.rows s.inputs) ts → terms_sum s q u k i f ts ≡ terms_sum s q u k i g ts
same_sum s q u k i f g a [] fits = refl
same_sum s q u k i f g a (t ∷ ts) fits =
    ap₂ (λ x y. x +ℤ y)
    (same_term s q u k i f g a t (All-head (TermFits s.rows s.inputs) t ts fits).causal (eqb t.row i)
    (same_row t.row i))
    (same_sum s q u k i f g a ts (All-tail (TermFits s.rows s.inputs) t ts fits))

fill_stays : (f : ℕ → (ℕ → ℤ) → ℤ) (n i j : ℕ) → i ≤ n → j < i → fill f i j ≡ fill f n j
fill_stays f zero i j h b = absurd (omega arith)
fill_stays f (suc n) i j h b =
    elim (cases_lt i (suc n)) [
      | inl below ↦ fill_stays f n i j (omega arith) b ∙ sym (later n (omega arith))
      | inr at ↦ let same : i ≡ suc n = omega arith in rw same
    ]
  where
    later : (n : ℕ) → j < n → fill f (suc n) j ≡ fill f n j
    later n l = grind (arith, nat_tests)

pub exact_rows : (s : Equations) → EquationsFit s → MeetsEquations s
exact_rows s fits q u k i h =
    let f : ℕ → (ℕ → ℤ) → ℤ = λ i now. terms_sum s q u k i (with_now now (past_values s q u k)) s.terms in
    fill_at f s.rows i h
    ∙ same_sum s q u k i (with_now (fill f i) (past_values s q u k)) (λ l j.
    lagged (exact_value s q u) k l j) (record {
      now = λ j b. fill_stays f s.rows i j (omega arith) b;
      old =
          λ l j. past_is s q u k (suc l) j;
    }) s.terms fits.terms
