-- Rows of a net with their terms: what they read, and a denominator of theirs.
use Rattle.std.proofs.Common.{◌≡◌, ℕ, ◌+◌, ◌-◌, ◌^◌, ◌<◌, List, [], ◌∷◌, arith, refl, ap, ap₂, sym, ◌∙◌, subst}
use Rattle.std.proofs.Math.IntN.{ℤ, pos, ◌+ℤ◌, ◌*ℤ◌}
use Rattle.std.proofs.lemmas.Bool.{eq-eqb}
use Rattle.fx_math.proofs.Ring.{mul_assoc}
use Rattle.fx_math.proofs.Sums.{total_ext}
use Rattle.fx_math.specs.Unroll.{before}
use Rattle.fx_eqs.specs.declared.limits.TheConstants.{PORTS}
use Rattle.fx_nums.specs.Fraction.{over, IsWholeOver, zero_fraction}
use Rattle.fx_eqs.specs.Expanded.{NetRead, NetTerm}
use Rattle.fx_eqs.specs.Expanded.NetRead.{Now, Old, In}
use Rattle.fx_net.specs.Net.{Net}
use Rattle.fx_net.specs.Rows.{reads_now, reads_old, reads_input, coefficient, ReadFits}
use Rattle.fx_net.specs.Run.{IsDenominator, row_time, row_sum}
use Rattle.fx_net.proofs.Coefficients.{AreOnce, AllFit, taken, coefficient_over, whole_here, whole_rest}
use Rattle.fx_net.proofs.Coefficients.{now_picks, old_picks, input_picks, net_sum, sum_by_source}
use Rattle.fx_net.proofs.Carried.{of_now, of_old, of_input}

-- ---- a row of the net with its terms

-- row r of those from a place on has just these terms
pub record HasTerms (net : Net) (at r : ℕ) (ts : List NetTerm) : Type 0 where
  pub inside : at + r < net.rows
  pub once : AreOnce ts
  pub fits : AllFit net.rows at r ts
  pub now : (j : ℕ) → j < at + r → net.now (at + r) j ≡ coefficient (reads_now at j) ts
  pub old : (j : ℕ) → j < net.rows → net.old (at + r) j ≡ coefficient (reads_old at j) ts
  pub input : (j : ℕ) → j < PORTS → net.input (at + r) j ≡ coefficient (reads_input j) ts

pub as_terms : (net : Net) (at q r : ℕ) (ts : List NetTerm) (u z : ℕ → ℕ → ℤ) (k : ℕ) → HasTerms net at r ts →
    row_sum net q u z k (at + r)
    ≡ net_sum q at ts (of_now q z k (at + r)) (of_old net q z k (at + r)) (of_input net q u k (at + r))
unfolding row_sum
as_terms net at q r ts u z k h =
    let i : ℕ = at + r in
    ap₂ (λ x y. x +ℤ y)
    (ap₂ (λ x y. x +ℤ y)
    (total_ext i (λ j. over q (net.now i j) *ℤ z k j *ℤ pos (q ^ (i - j - 1))) (λ j.
    taken (reads_now at j) q ts *ℤ of_now q z k i j)
    (λ j l. mul_assoc (over q (net.now i j)) (z k j) (pos (q ^ (i - j - 1)))
    ∙ ap (λ y. y *ℤ of_now q z k i j) (ap (over q) (h.now j l)
    ∙ coefficient_over (reads_now at j) (now_picks at j) q ts h.once)))
    (total_ext net.rows (λ j. over q (net.old i j) *ℤ before z k j *ℤ pos (q ^ (net.rows + i - j - 1))) (λ j.
    taken (reads_old at j) q ts *ℤ of_old net q z k i j)
    (λ j l. mul_assoc (over q (net.old i j)) (before z k j) (pos (q ^ (net.rows + i - j - 1)))
    ∙ ap (λ y. y *ℤ of_old net q z k i j) (ap (over q) (h.old j l)
    ∙ coefficient_over (reads_old at j) (old_picks at j) q ts h.once))))
    (total_ext PORTS (λ j. over q (net.input i j) *ℤ u k j *ℤ pos (q ^ row_time net k i)) (λ j.
    taken (reads_input j) q ts *ℤ of_input net q u k i j)
    (λ j l. mul_assoc (over q (net.input i j)) (u k j) (pos (q ^ row_time net k i))
    ∙ ap (λ y. y *ℤ of_input net q u k i j) (ap (over q) (h.input j l)
    ∙ coefficient_over (reads_input j) (input_picks j) q ts h.once)))
    ∙ sym (sum_by_source q net.rows at r ts (of_now q z k i) (of_old net q z k i) (of_input net q u k i) h.fits)

-- ---- a denominator of the net is one of the terms

abbrev pub AllWhole : ℕ → List NetTerm → Type 0
AllWhole q [] = Unit {0}
AllWhole q (t ∷ ts) = IsWholeOver q t.coef × AllWhole q ts

record WholeAt (n at r q : ℕ) (ts : List NetTerm) : Type 0 where
  now : (j : ℕ) → j < at + r → IsWholeOver q (coefficient (reads_now at j) ts)
  old : (j : ℕ) → j < n → IsWholeOver q (coefficient (reads_old at j) ts)
  input : (j : ℕ) → j < PORTS → IsWholeOver q (coefficient (reads_input j) ts)

pub zero_whole : (q : ℕ) → IsWholeOver q zero_fraction
zero_whole q = omega arith

whole_first : (n at r q : ℕ) (t : NetTerm) (ts : List NetTerm) → AreOnce (t ∷ ts) → WholeAt n at r q (t ∷ ts) →
    (from : NetRead) → t.from ≡ from → ReadFits n at r from → IsWholeOver q t.coef
whole_first n at r q t ts once whole (Now s) e fit =
    whole_here (reads_now at (at + s)) (now_picks at (at + s)) q t ts once
    (rw e (eq-eqb (at + s) (at + s) refl)) (whole.now (at + s) (omega arith))
whole_first n at r q t ts once whole (Old s) e fit =
    whole_here (reads_old at (at + s)) (old_picks at (at + s)) q t ts once
    (rw e (eq-eqb (at + s) (at + s) refl)) (whole.old (at + s) fit)
whole_first n at r q t ts once whole (In s) e fit =
    whole_here (reads_input s) (input_picks s) q t ts once (rw e (eq-eqb s s refl)) (whole.input s fit)

all_whole : (n at r q : ℕ) (ts : List NetTerm) → AreOnce ts → AllFit n at r ts → WholeAt n at r q ts → AllWhole q ts
all_whole n at r q [] once fits whole = tt
all_whole n at r q (t ∷ ts) once fits whole = (
  whole_first n at r q t ts once whole t.from refl fits.0,
  all_whole n at r q ts once.2 fits.1 (record {
    now = λ j l. whole_rest (reads_now at j) (now_picks at j) q t ts once (zero_whole q) (whole.now j l);
    old = λ j l. whole_rest (reads_old at j) (old_picks at j) q t ts once (zero_whole q) (whole.old j l);
    input = λ j l. whole_rest (reads_input j) (input_picks j) q t ts once (zero_whole q) (whole.input j l);
  }),
)

pub whole_terms : (net : Net) (at q r : ℕ) (ts : List NetTerm) → IsDenominator net q → HasTerms net at r ts →
    AllWhole q ts
whole_terms net at q r ts den h =
    all_whole net.rows at r q ts h.once h.fits (record {
      now = λ j l. subst (IsWholeOver q) (h.now j l) (den.now (at + r) j h.inside l);
      old = λ j l. subst (IsWholeOver q) (h.old j l) (den.old (at + r) j h.inside l);
      input = λ j l. subst (IsWholeOver q) (h.input j l) (den.input (at + r) j h.inside l);
    })
