-- A form whose outputs are those of an equation system at one scale puts out the same.
use Rattle.std.proofs.Common.{◌≡◌, ℕ, zero, suc, ◌+◌, ◌-◌, ◌*◌, ◌^◌, ◌<◌, ◌≤◌, All, length, arith, sym, ap, subst, ◌∙◌}
use Rattle.std.proofs.Math.IntN.{ℤ, pos, ◌*ℤ◌}
use Rattle.std.proofs.Math.Nat.{pow-succ', le-mul_of_pos_right, one-le-pow}
use Rattle.std.proofs.lemmas.Int.{ints}
use Rattle.std.proofs.lemmas.Nat.{pow-add}
use Rattle.fx_math.proofs.Polynomials.{int, nat, mul, same_value}
use Rattle.fx_nums.specs.Fraction.{IsWholeOver}
use Rattle.fx_eqs.specs.Denominator.{DividesEach}
use Rattle.fx_eqs.specs.Equations.{Equations}
use Rattle.fx_eqs.specs.ExactRun.{exact_value}
use Rattle.fx_eqs.specs.Fits.{EquationsFit}
use Rattle.fx_eqs.specs.declared.term.Term.{Term}
use Rattle.fx_net.specs.Rows.{put_rows}
use Rattle.fx_net.specs.Run.{IsDenominator, IsRun}
use Rattle.fx_sif.specs.Fits.{ImplicitFits}
use Rattle.fx_sif.specs.Implicit.{Implicit, rows}
use Rattle.fx_sif.specs.SameOutputs.{net_alone, form_output, equations_output, HasOutputs}
use Rattle.fx_sif.proofs.EquationsAtScale.{EquationsMeet, equations_meet, exact_over_nothing, input_times}
use Rattle.fx_sif.proofs.OneScale.{RowsMeet, cancelled, lifted, lifted_input, raise, rows_meet}

-- what a form owes to equations: as many inputs and outputs, a denominator of its net suits their coefficients, and at
-- one
-- scale the rows that are put out are equal wherever form and equations have the same inputs
pub record Agrees (f : Implicit) (s : Equations) : Type 0 where
  pub inputs : f.sizes.u ≡ s.inputs
  pub outputs : f.sizes.y ≡ length s.outputs
  pub inside : (o : ℕ) → o < f.sizes.y → equations_output s o < s.rows
  pub suits : (q : ℕ) → IsDenominator (net_alone f) q → All (λ (t : Term). IsWholeOver q t.coef) s.terms
  pub same : (q g last : ℕ) (x y u : ℕ → ℕ → ℤ) → 0 < q * g → RowsMeet f q g last x u → EquationsMeet s q g last y u →
      (o k : ℕ) → o < f.sizes.y → k ≤ last → x k (form_output f o) ≡ y k (equations_output s o)

-- ---- the scales

-- what is left to the end of the last moment
rest_of : (q k n r : ℕ) → r < n → q ^ (suc k * n) ≡ q ^ (k * n + r + 1) * q ^ (n - (r + 1))
rest_of q k n r h =
    let e : suc k * n ≡ (k * n + r + 1) + (n - (r + 1)) = omega arith in
    ap (λ m. q ^ m) e ∙ pow-add q (k * n + r + 1) (n - (r + 1))

raise_at_last : (q k n r : ℕ) → raise k n q k r ≡ q ^ (n - (r + 1))
raise_at_last q k n r = let e : (k - k) * n + (n - (r + 1))
    ≡ n - (r + 1) = (let z : k - k ≡ 0 = omega arith in rw z (omega arith)) in ap (λ m. q ^ m) e

moved : (z v : ℤ) (a b c d : ℕ) → z *ℤ pos (a * (c * b)) ≡ v *ℤ pos (b * (d * a)) →
    pos (a * b) *ℤ (z *ℤ pos c) ≡ pos (a * b) *ℤ (v *ℤ pos d)
moved z v a b c d h =
    same_value (mul (nat (a * b)) (mul (int z) (nat c))) (mul (int z) (nat (a * (c * b)))) (omega arith)
    ∙ h
    ∙ same_value (mul (int v) (nat (b * (d * a)))) (mul (nat (a * b)) (mul (int v) (nat d))) (omega arith)

positive_product : (a b : ℕ) → 1 ≤ a → 1 ≤ b → 0 < a * b
positive_product a b h l = let step : a ≤ a * b = le-mul_of_pos_right a (omega (arith, l)) in omega arith

-- ---- the law

module _ (f : Implicit) (s : Equations) (fits : ImplicitFits f) (sound : EquationsFit s) (owed : Agrees f s) where
  output_same : (q g : ℕ) (u z : ℕ → ℕ → ℤ) → 0 < g → IsDenominator (net_alone f) q → DividesEach g s.terms →
      IsRun (net_alone f) q u z (λ k i. pos 0) →
      (k o : ℕ) → o < f.sizes.y →
      z k (form_output f o) *ℤ pos (g ^ (k * s.rows + equations_output s o + 1))
      ≡ exact_value s g u k (equations_output s o) *ℤ pos (q ^ (k * rows f.sizes + form_output f o + 1))
  output_same q g u z some denominator divides run k o there =
      let n : ℕ = rows f.sizes in
      let m : ℕ = s.rows in
      let r : ℕ = form_output f o in
      let i : ℕ = equations_output s o in
      let below : r < n = omega (arith, there) in
      let low : i < m = owed.inside o there in
      let of_form : ℕ = g ^ (suc k * m) in
      let of_equations : ℕ = q ^ (suc k * n) in
      let x = lifted k n q of_form z in
      let y = lifted k m g of_equations (exact_value s g u) in
      let v = lifted_input k n q of_form u in
      let q_positive : 1 ≤ q = denominator.positive in
      let positive : 0 < q * g = positive_product q g q_positive some in
      let shared : g ^ (suc k * m) * of_equations ≡ q ^ (suc k * n) * of_form = omega arith in
      let meet = rows_meet f fits q g k of_form u z run in
      let theirs : EquationsMeet s q g k y v =
      subst (λ c. EquationsMeet s q g k y (input_times c u)) shared
      (equations_meet s sound q g k of_equations u (owed.suits q denominator) divides) in
      let same : x k r ≡ y k i = owed.same q g k x y v positive meet theirs o k there (omega arith) in
      let a : ℕ = q ^ (n - (r + 1)) in
      let b : ℕ = g ^ (m - (i + 1)) in
      let c : ℕ = g ^ (k * m + i + 1) in
      let d : ℕ = q ^ (k * n + r + 1) in
      let left : z k r *ℤ pos (raise k n q k r * of_form) ≡ z k r *ℤ pos (a * (c * b)) =
      ap (λ p. z k r *ℤ pos (p * of_form)) (raise_at_last q k n r)
      ∙ ap (λ p. z k r *ℤ pos (a * p)) (rest_of g k m i low) in
      let right : exact_value s g u k i *ℤ pos (raise k m g k i * of_equations)
      ≡ exact_value s g u k i *ℤ pos (b * (d * a)) =
      ap (λ p. exact_value s g u k i *ℤ pos (p * of_equations)) (raise_at_last g k m i)
      ∙ ap (λ p. exact_value s g u k i *ℤ pos (b * p)) (rest_of q k n r below) in
      cancelled (a * b) (z k r *ℤ pos c) (exact_value s g u k i *ℤ pos d)
      (positive_product a b (one-le-pow (n - (r + 1)) q q_positive) (one-le-pow (m - (i + 1)) g some))
      (moved (z k r) (exact_value s g u k i) a b c d (sym left ∙ same ∙ right))

  any_same : (q g : ℕ) (u z : ℕ → ℕ → ℤ) → IsDenominator (net_alone f) q → DividesEach g s.terms →
      IsRun (net_alone f) q u z (λ k i. pos 0) →
      (k o : ℕ) → o < f.sizes.y →
      z k (form_output f o) *ℤ pos (g ^ (k * s.rows + equations_output s o + 1))
      ≡ exact_value s g u k (equations_output s o) *ℤ pos (q ^ (k * rows f.sizes + form_output f o + 1))
  any_same q zero u z denominator divides run k o there =
      let i : ℕ = equations_output s o in
      let next : k * s.rows + i + 1 ≡ suc (k * s.rows + i) = omega arith in
      let none : zero ^ (k * s.rows + i + 1) ≡ 0 = ap (λ n. zero ^ n) next ∙ pow-succ' 0 (k * s.rows + i)
      ∙ omega arith in
      rw (none, exact_over_nothing s sound u k i (owed.inside o there)) (omega (arith, ints))
  any_same q (suc g) u z denominator divides run k o there =
      output_same q (suc g) u z (omega arith) denominator divides run k o there

  pub has_outputs_of : HasOutputs f s
  unfolding put_rows
  has_outputs_of = record {
    inputs = owed.inputs;
    outputs = owed.outputs;
    same = λ q g u z denominator divides run k o below. any_same q g u z denominator divides run k o below;
  }
