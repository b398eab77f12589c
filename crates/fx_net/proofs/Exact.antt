-- A net that holds the expanded rows of an equation system has its exact values.
use Rattle.std.proofs.Common.{◌≡◌, ℕ, zero, suc, ◌+◌, ◌-◌, ◌*◌, ◌^◌, ◌<◌, ◌≤◌, List, [], ◌∷◌, length, arith}
use Rattle.std.proofs.Common.{refl, ap, ap₂, sym, ◌∙◌, subst, inl, inr, All, eqb, if◌then◌else◌}
use Rattle.std.proofs.Math.IntN.{ℤ, pos, ◌+ℤ◌, ◌*ℤ◌}
use Rattle.std.proofs.lemmas.Int.{ints}
use Rattle.std.proofs.lemmas.Bool.{cases_lt, cases_eq, eq-eqb, ne_eqb}
use Rattle.std.proofs.lemmas.List.Elements.{All-head, All-tail}
use Rattle.fx_math.proofs.Lines.{swapped}
use Rattle.fx_math.proofs.Ring.{add-mul}
use Rattle.fx_math.specs.Ratio.{SameValue, whole}
use Rattle.fx_math.specs.Unroll.{lagged}
use Rattle.fx_eqs.specs.declared.limits.TheConstants.{PORTS}
use Rattle.fx_eqs.specs.Denominator.{DividesEach}
use Rattle.fx_nums.specs.Fraction.{over, IsWholeOver, one_fraction}
use Rattle.fx_eqs.specs.Equations.{Equations}
use Rattle.fx_eqs.specs.ExactRun.{exact_value, row_value, terms_sum, value_read}
use Rattle.fx_eqs.specs.Expanded.{NetRead, NetTerm, expanded, net_read, input_hold_place, row_place, row_hold_place}
use Rattle.fx_eqs.specs.Expanded.NetRead.{Old, In}
use Rattle.fx_eqs.specs.Fits.{EquationsFit, IsThereByThen}
use Rattle.fx_eqs.specs.Lags.{greatest_lag}
use Rattle.fx_eqs.specs.Laws.{MeetsEquations}
use Rattle.fx_eqs.specs.Values.{earlier}
use Rattle.fx_eqs.specs.declared.term.Source.{Source}
use Rattle.fx_eqs.specs.declared.term.Source.TheVariants.{Row, In as Input}
use Rattle.fx_eqs.specs.declared.term.Term.{Term}
use Rattle.fx_net.specs.Layout.{IsRead}
use Rattle.fx_net.specs.Laws.{AreUnperturbed, HasExactValues}
use Rattle.fx_net.specs.Net.{Net}
use Rattle.fx_net.specs.Rows.{reads_now, reads_old, reads_input, coefficient, row_of, HoldsRows, ReadFits}
use Rattle.fx_net.specs.Run.{IsDenominator, IsRun, net_value, row_time, row_sum}
use Rattle.fx_net.proofs.Apart.{Stands, terms_once}
use Rattle.fx_net.proofs.Carried.{of_now, of_old, of_input, one_power, no_power, crossed, one_term, Carries}
use Rattle.fx_net.proofs.Carried.{carries, carried, CarriesInput, now_source, old_source, held_source}
use Rattle.fx_net.proofs.Carried.{hold_input, hold_held, hold_first, keep_held, keep_first, kept_first}
use Rattle.fx_net.proofs.Carried.{kept_value, carried_input}
use Rattle.fx_net.proofs.Coefficients.{AreOnce, AllFit, value_at, net_sum}
use Rattle.fx_net.proofs.Positions.{at_input_hold, at_row, at_row_hold, row_inside, row_hold_inside, input_hold_inside}
use Rattle.fx_net.proofs.Sources.{net_terms, takes, passes_over, read_fits, lag_high}
use Rattle.fx_net.proofs.Terms.{HasTerms, AllWhole, as_terms, whole_terms}

-- ---- the equations' rows

rows_fit : (s : Equations) (n at i : ℕ) → at + length (expanded s) ≤ n → s.inputs ≤ PORTS → (ts : List Term) →
    All (Stands s) ts → AllFit n at (row_place s i) (net_terms s i ts)
rows_fit s n at i h few [] stands = tt
rows_fit s n at i h few (t ∷ ts) stands =
    let rest = rows_fit s n at i h few ts (All-tail (Stands s) t ts stands) in
    let here = All-head (Stands s) t ts stands in
    elim (cases_eq t.row i) [
      | inl same ↦
          rw (takes s i t ts same) (
            read_fits n at s i t.from t.lag h few here.read
                (subst (λ r. IsThereByThen r t.from t.lag) same here.fits.causal),
            rest,
          )
      | inr other ↦ rw (passes_over s i t ts other) rest
    ]

all_stand : (s : Equations) → EquationsFit s → All (Stands s) s.terms
all_stand s fits k d h =
    let fit = fits.terms k d h in
    record { read = record { source = fit.source; lag = lag_high s.terms k d h }; fits = fit }

over_one : (q : ℕ) → over q one_fraction ≡ pos q
over_one q = ap pos (omega arith)

module _ (s : Equations) (net : Net) (at q g : ℕ) (u z : ℕ → ℕ → ℤ)
    (fits : EquationsFit s) (meets : MeetsEquations s) (holds : HoldsRows net at (expanded s))
    (den : IsDenominator net q)
    (divides : DividesEach g s.terms) (unperturbed : AreUnperturbed net q u z at (length (expanded s))) where
  abbrev y : ℕ → ℕ → ℤ
  y = exact_value s g u

  -- where the rows are
  abbrev row : ℕ → ℕ
  row i = at + row_place s i

  abbrev keep : ℕ → ℕ → ℕ
  keep j l = at + (row_hold_place s j + l)

  abbrev hold : ℕ → ℕ → ℕ
  hold j l = at + (input_hold_place s j + l)

  has : (r : ℕ) (ts : List NetTerm) → r < length (expanded s) → row_of (expanded s) r ≡ ts → AreOnce ts →
      AllFit net.rows at r ts → HasTerms net at r ts
  has r ts h e once fit = record {
    inside = let all = holds.inside in omega arith;
    once = once;
    fits = fit;
    now = λ j l. holds.now r j h l ∙ ap (coefficient (reads_now at j)) e;
    old = λ j l. holds.old r j h l ∙ ap (coefficient (reads_old at j)) e;
    input = λ j l. holds.input r j h l ∙ ap (coefficient (reads_input j)) e;
  }

  row_has : (i : ℕ) → i < s.rows → HasTerms net at (row_place s i) (net_terms s i s.terms)
  row_has i h =
      has (row_place s i) (net_terms s i s.terms) (row_inside s i h) (at_row s i h)
      (terms_once s i s.terms (all_stand s fits) fits.once)
      (rows_fit s net.rows at i holds.inside fits.inputs_high s.terms (all_stand s fits))

  -- what a row holds
  held_value : (k r : ℕ) (from : NetRead) → r < length (expanded s) →
      row_of (expanded s) r ≡ record { coef = one_fraction; from = from } ∷ [] → ReadFits net.rows at r from →
      z k (at + r) ≡ pos q *ℤ value_at at from (of_now q z k (at + r)) (of_old net q z k (at + r))
      (of_input net q u k (at + r))
  held_value k r from h e fit =
      let x : ℤ = value_at at from (of_now q z k (at + r)) (of_old net q z k (at + r)) (of_input net q u k (at + r)) in
      let o : over q one_fraction *ℤ x +ℤ pos 0 ≡ pos q *ℤ x =
      ap (λ w. w *ℤ x +ℤ pos 0) (over_one q) ∙ omega (arith, ints) in
      unperturbed k r h ∙ as_terms net at q r (record { coef = one_fraction; from = from } ∷ []) u z k
      (has r (record { coef = one_fraction; from = from } ∷ []) h e (tt, refl, tt) (fit, tt)) ∙ o

  record Moment (k : ℕ) : Type 0 where
    rows : (i : ℕ) → i < s.rows → Carries net q g s.rows y z k (row i) i 0
    keeps : (j l : ℕ) → j < s.rows → l < greatest_lag (Row j) s.terms - 1 →
        Carries net q g s.rows y z k (keep j l) j (suc l)
    inputs : (j l : ℕ) → j < s.inputs → l < greatest_lag (Input j) s.terms → CarriesInput net q u z k (hold j l) j l

  Before : ℕ → Type 0
  Before zero = Unit {0}
  Before (suc k) = Moment k

  -- one source of equation row i
  one_source : (k i : ℕ) → i < s.rows → Before k → ((j : ℕ) → j < i → Carries net q g s.rows y z k (row j) j 0) →
      (from : Source) (lag : ℕ) → IsRead s from lag → IsThereByThen i from lag →
      value_at at (net_read s from lag) (of_now q z k (row i)) (of_old net q z k (row i))
      (of_input net q u k (row i)) *ℤ pos (g ^ (k * s.rows + i))
      ≡ value_read s g u k i (λ l j. lagged y k l j) from lag *ℤ pos (q ^ row_time net k (row i))
  unfolding Before
  one_source k i h b now (Row j) zero r there =
      now_source net q g s.rows y z k (row i) (row j) i j (let l : j < i =
      there refl in omega arith) (there refl) (now j (there refl))
  one_source zero i h b now (Row j) (suc zero) r there = ap pos (omega arith)
  one_source (suc k) i h b now (Row j) (suc zero) r there =
      old_source net q g s.rows y z k (row i) (row j) i j 0 (let l = row_inside s j r.source in let a =
      holds.inside in omega arith) r.source (b.rows j r.source)
  one_source zero i h b now (Row j) (suc (suc l)) r there = ap pos (omega arith)
  one_source (suc k) i h b now (Row j) (suc (suc l)) r there =
      let m : l < greatest_lag (Row j) s.terms - 1 = let x = r.lag in omega arith in
      old_source net q g s.rows y z k (row i) (keep j l) i j (suc l) (let p =
      row_hold_inside s j l r.source m in let a = holds.inside in
      omega arith) r.source (b.keeps j l r.source m)
  one_source k i h b now (Input j) zero r there =
      swapped (u k j) (pos (q ^ row_time net k (row i))) (pos (g ^ (k * s.rows + i)))
  one_source zero i h b now (Input j) (suc l) r there = ap pos (omega arith)
  one_source (suc k) i h b now (Input j) (suc l) r there =
      let m : l < greatest_lag (Input j) s.terms = let x = r.lag in omega arith in
      held_source net q (g ^ (suc k * s.rows + i)) u z k (row i) (hold j l) j l (let p =
      input_hold_inside s j l r.source m in let a = holds.inside in omega arith) (b.inputs j l r.source m)

  all_terms : (k i : ℕ) → i < s.rows → Before k → ((j : ℕ) → j < i → Carries net q g s.rows y z k (row j) j 0) →
      (ts : List Term) → All (Stands s) ts → AllWhole q (net_terms s i ts) → DividesEach g ts →
      net_sum q at (net_terms s i ts) (of_now q z k (row i)) (of_old net q z k (row i))
      (of_input net q u k (row i)) *ℤ pos (g ^ (k * s.rows + i) * g)
      ≡ terms_sum s g u k i (λ l j. lagged y k l j) ts *ℤ pos (q ^ row_time net k (row i) * q)
  all_terms k i h b now [] stands wq wg = ap pos (omega arith)
  all_terms k i h b now (t ∷ ts) stands wq wg =
      let here = All-head (Stands s) t ts stands in
      let rest = all_terms k i h b now ts (All-tail (Stands s) t ts stands) in
      let wg' = All-tail (λ (t : Term). IsWholeOver g t.coef) t ts wg in
      let x : ℤ = value_at at (net_read s t.from t.lag) (of_now q z k (row i)) (of_old net q z k (row i))
      (of_input net q u k (row i)) in
      let r : ℤ = value_read s g u k i (λ l j. lagged y k l j) t.from t.lag in
      let left : List NetTerm → ℤ =
      λ xs. net_sum q at xs (of_now q z k (row i)) (of_old net q z k (row i)) (of_input net q u k (row i)) in
      let right : ℤ = terms_sum s g u k i (λ l j. lagged y k l j) ts in
      let a : ℕ = g ^ (k * s.rows + i) * g in
      let c : ℕ = q ^ row_time net k (row i) * q in
      elim (cases_eq t.row i) [
        | inl same ↦
            let wq' : AllWhole q (record {
              coef = t.coef;
              from =
                  net_read s t.from t.lag;
            } ∷ net_terms s i ts) = rw (takes s i t ts same) at wq in
            let e : (over q t.coef *ℤ x) *ℤ pos a ≡ (over g t.coef *ℤ r) *ℤ pos c =
            one_term (over q t.coef) (over g t.coef) x r q g (g ^ (k * s.rows + i))
            (q ^ row_time net k (row i))
            (crossed q g t.coef wq'.0 (All-head (λ (t : Term). IsWholeOver g t.coef) t ts wg))
            (one_source k i h b now t.from t.lag here.read
            (subst (λ r. IsThereByThen r t.from t.lag) same here.fits.causal)) in
            ap (λ xs. left xs *ℤ pos a) (takes s i t ts same)
            ∙ add-mul (over q t.coef *ℤ x) (left (net_terms s i ts)) (pos a)
            ∙ ap₂ (λ v w. v +ℤ w) e (rest wq'.1 wg')
            ∙ sym (add-mul (over g t.coef *ℤ r) right (pos c))
            ∙ ap (λ v. (v +ℤ right) *ℤ pos c) (sym (this_row t.row i (over g t.coef *ℤ r) same))
        | inr other ↦
            let wq' : AllWhole q (net_terms s i ts) = rw (passes_over s i t ts other) at wq in
            ap (λ xs. left xs *ℤ pos a) (passes_over s i t ts other) ∙ rest wq' wg'
            ∙ ap (λ v. v *ℤ pos c) (sym (ap (λ v. v +ℤ right) (other_row t.row i (over g t.coef *ℤ r) other)
            ∙ plus_zero right))
      ]
    where
      this_row : (a i : ℕ) (w : ℤ) → a ≡ i → (if eqb a i then w else pos 0) ≡ w
      this_row a i w e = rw (eq-eqb a i e) refl

      other_row : (a i : ℕ) (w : ℤ) → (a ≡ i → ⊥) → (if eqb a i then w else pos 0) ≡ pos 0
      other_row a i w ne = rw (ne_eqb a i ne) refl

      plus_zero : (w : ℤ) → pos 0 +ℤ w ≡ w
      plus_zero w = omega (arith, ints)

  row_at : (k i : ℕ) → i < s.rows → Before k → ((j : ℕ) → j < i → Carries net q g s.rows y z k (row j) j 0) →
      Carries net q g s.rows y z k (row i) i 0
  row_at k i h b now =
      let e : z k (row i) *ℤ pos (g ^ (k * s.rows + i) * g) ≡ y k i *ℤ pos (q ^ row_time net k (row i) * q) =
      ap (λ x. x *ℤ pos (g ^ (k * s.rows + i) * g)) (unperturbed k (row_place s i) (row_inside s i h)
      ∙ as_terms net at q (row_place s i) (net_terms s i s.terms) u z k (row_has i h))
      ∙ all_terms k i h b now s.terms (all_stand s fits)
      (whole_terms net at q (row_place s i) (net_terms s i s.terms) den (row_has i h)) divides
      ∙ ap (λ x. x *ℤ pos (q ^ row_time net k (row i) * q)) (sym (meets g u k i h)) in
      carries net q g s.rows y z k (row i) i 0
      (ap (λ n. z k (row i) *ℤ pos n) (one_power g (k * s.rows + i)) ∙ e
      ∙ ap (λ n. y k i *ℤ pos n)
      (sym (ap₂ (λ m n. m * n) (no_power g s.rows) (one_power q (row_time net k (row i)))
      ∙ (let o : 1 * (q ^ row_time net k (row i) * q) ≡ q ^ row_time net k (row i) * q = omega arith in o))))

  rows_below : (k : ℕ) → Before k → (n : ℕ) → n ≤ s.rows → (j : ℕ) → j < n → Carries net q g s.rows y z k (row j) j 0
  rows_below k b zero h j l = absurd (omega arith)
  rows_below k b (suc n) h j l =
      elim (cases_lt j n) [
        | inl c ↦ rows_below k b n (omega arith) j c
        | inr c ↦ subst (λ m. Carries net q g s.rows y z k (row m) m 0) (let e : n ≡ j =
            omega arith in e) (row_at k n (omega arith) b (rows_below k b n (omega arith)))
      ]

  below : (r : ℕ) → r < length (expanded s) → at + r < net.rows
  below r h = let a = holds.inside in omega arith

  keep_at : (k j l : ℕ) → j < s.rows → l < greatest_lag (Row j) s.terms - 1 → Before k →
      Carries net q g s.rows y z k (keep j l) j (suc l)
  unfolding Before
  keep_at zero j zero h m b =
      let fit = below (row_place s j) (row_inside s j h) in
      keep_first net q g s.rows y z (keep j 0) (row j) j 0
      (held_value 0 (row_hold_place s j + 0) (Old (row_place s j)) (row_hold_inside s j 0 h m)
      (at_row_hold s j 0 h m) fit)
  keep_at (suc k) j zero h m b =
      let fit = below (row_place s j) (row_inside s j h) in
      keep_held net q g s.rows y z k (keep j 0) (row j) j 0 fit
      (held_value (suc k) (row_hold_place s j + 0) (Old (row_place s j)) (row_hold_inside s j 0 h m)
      (at_row_hold s j 0 h m) fit) (b.rows j h)
  keep_at zero j (suc l) h m b =
      let fit = below (row_hold_place s j + l) (row_hold_inside s j l h (omega arith)) in
      keep_first net q g s.rows y z (keep j (suc l)) (keep j l) j (suc l)
      (held_value 0 (row_hold_place s j + suc l) (Old (row_hold_place s j + l))
      (row_hold_inside s j (suc l) h m) (at_row_hold s j (suc l) h m) fit)
  keep_at (suc k) j (suc l) h m b =
      let fit = below (row_hold_place s j + l) (row_hold_inside s j l h (omega arith)) in
      keep_held net q g s.rows y z k (keep j (suc l)) (keep j l) j (suc l) fit
      (held_value (suc k) (row_hold_place s j + suc l) (Old (row_hold_place s j + l))
      (row_hold_inside s j (suc l) h m) (at_row_hold s j (suc l) h m) fit) (b.keeps j l h (omega arith))

  hold_at : (k j l : ℕ) → j < s.inputs → l < greatest_lag (Input j) s.terms → Before k →
      CarriesInput net q u z k (hold j l) j l
  unfolding Before
  hold_at k j zero h m b =
      let few = fits.inputs_high in
      hold_input net q u z k (hold j 0) j
      (held_value k (input_hold_place s j + 0) (In j) (input_hold_inside s j 0 h m) (at_input_hold s j 0 h m)
      (omega arith))
  hold_at zero j (suc l) h m b =
      let fit = below (input_hold_place s j + l) (input_hold_inside s j l h (omega arith)) in
      hold_first net q u z (hold j (suc l)) (hold j l) j l
      (held_value 0 (input_hold_place s j + suc l) (Old (input_hold_place s j + l))
      (input_hold_inside s j (suc l) h m) (at_input_hold s j (suc l) h m) fit)
  hold_at (suc k) j (suc l) h m b =
      let fit = below (input_hold_place s j + l) (input_hold_inside s j l h (omega arith)) in
      hold_held net q u z k (hold j (suc l)) (hold j l) j l fit
      (held_value (suc k) (input_hold_place s j + suc l) (Old (input_hold_place s j + l))
      (input_hold_inside s j (suc l) h m) (at_input_hold s j (suc l) h m) fit) (b.inputs j l h (omega arith))

  before_all : (k : ℕ) → Before k
  unfolding Before
  before_all zero = tt
  before_all (suc k) = record {
    rows = λ i h. rows_below k (before_all k) s.rows (omega arith) i h;
    keeps = λ j l h m. keep_at k j l h m (before_all k);
    inputs = λ j l h m. hold_at k j l h m (before_all k);
  }

  -- each row has its exact value
  row_exact : (k i : ℕ) → i < s.rows → SameValue (net_value net q z k (row i)) (row_value s g u k i)
  unfolding Before
  row_exact k i h =
      carried net q g s.rows y z k (row i) i 0 ((before_all (suc k)).rows i h)
      ∙ ap (λ n. y k i *ℤ pos n) (ap (λ m. m * q ^ (row_time net k (row i) + 1)) (no_power g s.rows)
      ∙ (let o : 1 * q ^ (row_time net k (row i) + 1) ≡ q ^ (row_time net k (row i) + 1) = omega arith in o))

  input_hold_exact : (k j l : ℕ) → j < s.inputs → l < greatest_lag (Input j) s.terms →
      SameValue (net_value net q z k (hold j l)) (whole (lagged u k l j))
  unfolding Before
  input_hold_exact k j l h m =
      omega (arith, ints, carried_input net q u z k (hold j l) j l ((before_all (suc k)).inputs j l h m))

  row_hold_exact : (k j l : ℕ) → j < s.rows → l < greatest_lag (Row j) s.terms - 1 →
      SameValue (net_value net q z k (keep j l)) (earlier (λ m. row_value s g u m j) k (suc l))
  row_hold_exact zero j zero h m =
      kept_first net q z (keep j 0) (row j)
      (held_value 0 (row_hold_place s j + 0) (Old (row_place s j)) (row_hold_inside s j 0 h m)
      (at_row_hold s j 0 h m) (below (row_place s j) (row_inside s j h)))
  row_hold_exact (suc k) j zero h m =
      let fit = below (row_place s j) (row_inside s j h) in
      kept_value net q z k (keep j 0) (row j) (row_value s g u k j) fit
      (held_value (suc k) (row_hold_place s j + 0) (Old (row_place s j)) (row_hold_inside s j 0 h m)
      (at_row_hold s j 0 h m) fit) (row_exact k j h)
  row_hold_exact zero j (suc l) h m =
      kept_first net q z (keep j (suc l)) (keep j l)
      (held_value 0 (row_hold_place s j + suc l) (Old (row_hold_place s j + l))
      (row_hold_inside s j (suc l) h m) (at_row_hold s j (suc l) h m)
      (below (row_hold_place s j + l) (row_hold_inside s j l h (omega arith))))
  row_hold_exact (suc k) j (suc l) h m =
      let fit = below (row_hold_place s j + l) (row_hold_inside s j l h (omega arith)) in
      kept_value net q z k (keep j (suc l)) (keep j l) (earlier (λ m. row_value s g u m j) k (suc l)) fit
      (held_value (suc k) (row_hold_place s j + suc l) (Old (row_hold_place s j + l))
      (row_hold_inside s j (suc l) h m) (at_row_hold s j (suc l) h m) fit)
      (row_hold_exact k j l h (omega arith))

  pub exact_in_net : HasExactValues s g net q at u z
  exact_in_net = record { rows = row_exact; input_holds = input_hold_exact; row_holds = row_hold_exact }

-- so in a run without perturbation in these rows
pub exact_in_run : (s : Equations) (net : Net) (at q g : ℕ) (u z perturbations : ℕ → ℕ → ℤ) → EquationsFit s →
    MeetsEquations s → HoldsRows net at (expanded s) → IsDenominator net q →
    DividesEach g s.terms → IsRun net q u z perturbations →
    ((k r : ℕ) → r < length (expanded s) → perturbations k (at + r) ≡ pos 0) → HasExactValues s g net q at u z
exact_in_run s net at q g u z perturbations fits meets holds den divides runs none =
    exact_in_net s net at q g u z fits meets holds den divides
    (λ k r h.
    let all = holds.inside in
    let sum : ℤ = row_sum net q u z k (at + r) in
    runs.row k (at + r) (omega arith) ∙ ap (λ x. sum +ℤ x) (none k r h)
    ∙ (let e : sum +ℤ pos 0 ≡ sum = omega (arith, ints) in e))
