-- The exact run of an equation system, brought to one scale, at which no powers of its denominator are left: each row
-- is the
-- sum of its terms over the values of earlier moments.
use Rattle.std.proofs.Common.{◌≡◌, ℕ, zero, suc, ◌+◌, ◌-◌, ◌*◌, ◌^◌, ◌<◌, ◌≤◌, Bool, true, false, if◌then◌else◌}
use Rattle.std.proofs.Common.{eqb, List, [], ◌∷◌, All, refl, arith, sym, ap, ap₂, subst, ◌∙◌}
use Rattle.std.proofs.Math.IntN.{ℤ, pos, ◌+ℤ◌, ◌*ℤ◌}
use Rattle.std.proofs.Math.Nat.{zero-div}
use Rattle.std.proofs.lemmas.Bool.{eqb-true}
use Rattle.std.proofs.lemmas.Int.{ints}
use Rattle.std.proofs.lemmas.List.Elements.{All-head, All-tail}
use Rattle.fx_math.proofs.Polynomials.{int, nat, add, mul, same_value}
use Rattle.fx_math.specs.Unroll.{lagged}
use Rattle.fx_nums.specs.Fraction.{Fraction, den_value, over, IsWholeOver}
use Rattle.fx_eqs.specs.Denominator.{DividesEach}
use Rattle.fx_eqs.specs.Equations.{Equations}
use Rattle.fx_eqs.specs.ExactRun.{exact_value, terms_sum, value_read}
use Rattle.fx_eqs.specs.Fits.{EquationsFit, IsThereByThen, SourceFits, TermFits}
use Rattle.fx_eqs.specs.declared.term.Source.{Source}
use Rattle.fx_eqs.specs.declared.term.Source.TheVariants.{Row, In}
use Rattle.fx_eqs.specs.declared.term.Term.{Term}
use Rattle.fx_eqs.proofs.ExactRows.{exact_rows}
use Rattle.fx_net.proofs.Carried.{crossed}
use Rattle.fx_sif.proofs.Earlier.{ago, ago_scaled}
use Rattle.fx_sif.proofs.LagSums.{lag_sum, sequence}
use Rattle.fx_sif.proofs.OneScale.{weight, raise, lifted, powers, raised}

-- ---- the scale

-- each row is the sum of its terms, at one scale
abbrev pub EquationsMeet : Equations → ℕ → ℕ → ℕ → (ℕ → ℕ → ℤ) → (ℕ → ℕ → ℤ) → Type 0
EquationsMeet s q g last y u =
    (k i : ℕ) → k ≤ last → i < s.rows → pos (q * g) *ℤ y k i ≡ lag_sum (weight q g) y u k i s.terms

-- an input at that scale
abbrev pub input_times : ℕ → (ℕ → ℕ → ℤ) → ℕ → ℕ → ℤ
input_times m u k j = u k j *ℤ pos m

-- ---- one term

-- a row, so many moments before
ago_lifted : (last n g e : ℕ) (z : ℕ → ℕ → ℤ) (j k l : ℕ) → k ≤ last →
    ago (λ k. lifted last n g e z k j) k l ≡ lagged z k l j *ℤ pos (g ^ ((last - k + l) * n + (n - (j + 1))) * e)
ago_lifted last n g e z j k zero h =
    let same : last - k ≡ last - k + 0 = omega arith in
    ap (λ d. z k j *ℤ pos (g ^ (d * n + (n - (j + 1))) * e)) same
ago_lifted last n g e z j zero (suc l) h = nothing (g ^ ((last - 0 + suc l) * n + (n - (j + 1))) * e)
  where
    nothing : (n : ℕ) → pos 0 ≡ pos 0 *ℤ pos n
    nothing n = ap pos (omega arith)
ago_lifted last n g e z j (suc k) (suc l) h =
    let same : last - k + l ≡ last - suc k + suc l = omega arith in
    ago_lifted last n g e z j k l (omega arith)
    ∙ ap (λ d. lagged z k l j *ℤ pos (g ^ (d * n + (n - (j + 1))) * e)) same

-- the distance from what is read to the end, by whole moments
now_distance : (d n i j : ℕ) → j < i → i < n → suc ((i - j - 1) + (d + (n - (i + 1)))) ≡ d + (n - (j + 1))
now_distance d n i j h l = omega arith

old_distance : (p d n i j : ℕ) → n ≤ p → j < n → i < n →
    suc ((p + i - j - 1) + (d + (n - (i + 1)))) ≡ d + p + (n - (j + 1))
old_distance p d n i j far h l = omega arith

row_distance : (d n l i j : ℕ) → (l ≡ 0 → j < i) → j < n → i < n →
    suc ((l * n + i - j - 1) + (d * n + (n - (i + 1)))) ≡ (d + l) * n + (n - (j + 1))
row_distance d n zero i j causal h low =
    let none : zero * n + i ≡ i = omega arith in
    let rest : (d + zero) * n ≡ d * n = omega arith in
    rw (none, rest) (now_distance (d * n) n i j (causal refl) low)
row_distance d n (suc l) i j causal h low =
    let far : n ≤ suc l * n = omega arith in
    let shared : d * n + suc l * n ≡ (d + suc l) * n = omega arith in
    old_distance (suc l * n) (d * n) n i j far h low ∙ ap (λ p. p + (n - (j + 1))) shared

input_distance : (d k n i : ℕ) → i < n → suc ((k * n + i) + (d * n + (n - (i + 1)))) ≡ suc (k + d) * n
input_distance d k n i l = omega arith

lifted_source : (s : Equations) (g last e k i : ℕ) (u z : ℕ → ℕ → ℤ) (from : Source) (lag : ℕ) →
    SourceFits s.rows s.inputs from → IsThereByThen i from lag → i < s.rows → k ≤ last →
    pos g *ℤ (value_read s g u k i (λ l j. lagged z k l j) from lag *ℤ pos (raise last s.rows g k i * e))
    ≡ ago (sequence (lifted last s.rows g e z) (input_times (g ^ (suc last * s.rows) * e) u) from) k lag
lifted_source s g last e k i u z (Row j) lag there causal low h =
    let n : ℕ = s.rows in
    raised (lagged z k lag j) g (g ^ (lag * n + i - j - 1)) (raise last n g k i)
    (g ^ ((last - k + lag) * n + (n - (j + 1)))) e
    (powers g (lag * n + i - j - 1) ((last - k) * n + (n - (i + 1))) ((last - k + lag) * n + (n - (j + 1)))
    (row_distance (last - k) n lag i j causal there low))
    ∙ sym (ago_lifted last n g e z j k lag h)
lifted_source s g last e k i u z (In j) lag there causal low h =
    let n : ℕ = s.rows in
    let all : k + (last - k) ≡ last = omega arith in
    raised (lagged u k lag j) g (g ^ (k * n + i)) (raise last n g k i) (g ^ (suc last * n)) e
    (powers g (k * n + i) ((last - k) * n + (n - (i + 1))) (suc last * n)
    (input_distance (last - k) k n i low ∙ ap (λ m. suc m * n) all))
    ∙ sym (ago_scaled u (pos (g ^ (suc last * n) * e)) k lag j)

-- ---- a row

split_off : (o v w : ℤ) (q g r : ℕ) →
    pos (q * g) *ℤ ((o *ℤ v +ℤ w) *ℤ pos r) ≡ (o *ℤ pos q) *ℤ (pos g *ℤ (v *ℤ pos r)) +ℤ pos (q * g) *ℤ (w *ℤ pos r)
split_off o v w q g r =
    same_value (mul (nat (q * g)) (mul (add (mul (int o) (int v)) (int w)) (nat r)))
    (add (mul (mul (int o) (nat q)) (mul (nat g) (mul (int v) (nat r)))) (mul (nat (q * g)) (mul (int w) (nat r))))
    (omega arith)

passed_by : (w : ℤ) (d r : ℕ) (y : ℤ) → pos d *ℤ (w *ℤ pos r) ≡ y → pos d *ℤ ((pos 0 +ℤ w) *ℤ pos r) ≡ pos 0 +ℤ y
passed_by w d r y h = let e : pos 0 +ℤ w ≡ w = omega (arith, ints) in rw e (omega (arith, ints, h))

no_terms : (d r : ℕ) → pos d *ℤ (pos 0 *ℤ pos r) ≡ pos 0
no_terms d r = ap pos (omega arith)

module _ (s : Equations) (q g last e : ℕ) (u z : ℕ → ℕ → ℤ) (k i : ℕ) (low : i < s.rows) (h : k ≤ last) where
  abbrev y : ℕ → ℕ → ℤ
  y = lifted last s.rows g e z

  abbrev v : ℕ → ℕ → ℤ
  v = input_times (g ^ (suc last * s.rows) * e) u

  abbrev r : ℕ
  r = raise last s.rows g k i * e

  lifted_sum : (ts : List Term) → All (TermFits s.rows s.inputs) ts → All (λ (t : Term). IsWholeOver q t.coef) ts →
      DividesEach g ts →
      pos (q * g) *ℤ (terms_sum s g u k i (λ l j. lagged z k l j) ts *ℤ pos r) ≡ lag_sum (weight q g) y v k i ts
  lifted_sum [] fits whole divides = no_terms (q * g) r
  lifted_sum (t ∷ ts) fits whole divides =
      by_row (eqb t.row i) (λ e. eqb_is e)
      (lifted_sum ts (All-tail (TermFits s.rows s.inputs) t ts fits)
      (All-tail (λ (t : Term). IsWholeOver q t.coef) t ts whole)
      (All-tail (λ (t : Term). IsWholeOver g t.coef) t ts divides))
    where
      fit : TermFits s.rows s.inputs t
      fit = All-head (TermFits s.rows s.inputs) t ts fits

      eqb_is : eqb t.row i ≡ true → t.row ≡ i
      eqb_is e = eqb-true t.row i e

      read : ℤ
      read = value_read s g u k i (λ l j. lagged z k l j) t.from t.lag

      by_row : (b : Bool) → (b ≡ true → t.row ≡ i) →
          pos (q * g) *ℤ (terms_sum s g u k i (λ l j. lagged z k l j) ts *ℤ pos r) ≡ lag_sum (weight q g) y v k i ts →
          pos (q * g) *ℤ (((if b then over g t.coef *ℤ read else pos 0) +ℤ terms_sum s g u k i
          (λ l j. lagged z k l j) ts) *ℤ pos r)
          ≡ (if b then weight q g t.coef *ℤ ago (sequence y v t.from) k t.lag else pos 0)
          +ℤ lag_sum (weight q g) y v k i ts
      by_row true same rest =
          split_off (over g t.coef) read (terms_sum s g u k i (λ l j. lagged z k l j) ts) q g r
          ∙ ap₂ (λ a b. a +ℤ b)
          (ap₂ (λ a b. a *ℤ b)
          (sym (crossed q g t.coef (All-head (λ (t : Term). IsWholeOver q t.coef) t ts whole)
          (All-head (λ (t : Term). IsWholeOver g t.coef) t ts divides)))
          (lifted_source s g last e k i u z t.from t.lag fit.source
          (subst (λ row. IsThereByThen row t.from t.lag) (same refl) fit.causal) low h))
          rest
      by_row false same rest =
          passed_by (terms_sum s g u k i (λ l j. lagged z k l j) ts) (q * g) r (lag_sum (weight q g) y v k i ts) rest

pub equations_meet : (s : Equations) → EquationsFit s → (q g last e : ℕ) (u : ℕ → ℕ → ℤ) →
    All (λ (t : Term). IsWholeOver q t.coef) s.terms → DividesEach g s.terms →
    EquationsMeet s q g last (lifted last s.rows g e (exact_value s g u)) (input_times (g ^ (suc last * s.rows) * e) u)
equations_meet s fits q g last e u whole divides k i h low =
    ap (λ x. pos (q * g) *ℤ (x *ℤ pos (raise last s.rows g k i * e))) (exact_rows s fits g u k i low)
    ∙ lifted_sum s q g last e u (exact_value s g u) k i low h s.terms fits.terms whole divides

-- ---- over a denominator of 0 all is 0

over_nothing : (c : Fraction) → over 0 c ≡ pos 0
over_nothing c = ap (λ n. c.num *ℤ pos n) (zero-div (den_value c.den)) ∙ times_nothing c.num
  where
    times_nothing : (z : ℤ) → z *ℤ pos 0 ≡ pos 0
    times_nothing z = omega (arith, ints)

none_of : (b : Bool) (o x w : ℤ) → o ≡ pos 0 → w ≡ pos 0 → (if b then o *ℤ x else pos 0) +ℤ w ≡ pos 0
none_of true o x w e f = rw (e, f) (omega (arith, ints))
none_of false o x w e f = rw f refl

nothing_over : (s : Equations) (u v : ℕ → ℕ → ℤ) (k i : ℕ) (ts : List Term) → terms_sum s 0 u k i v ts ≡ pos 0
nothing_over s u v k i [] = refl
nothing_over s u v k i (t ∷ ts) =
    none_of (eqb t.row i) (over 0 t.coef) (value_read s 0 u k i v t.from t.lag) (terms_sum s 0 u k i v ts)
    (over_nothing t.coef)
    (nothing_over s u v k i ts)

pub exact_over_nothing : (s : Equations) → EquationsFit s → (u : ℕ → ℕ → ℤ) (k i : ℕ) → i < s.rows →
    exact_value s 0 u k i ≡ pos 0
exact_over_nothing s fits u k i low =
    exact_rows s fits 0 u k i low ∙ nothing_over s u (λ l j. lagged (exact_value s 0 u) k l j) k i s.terms
