-- A form whose output meets the recursion of a transfer function puts out what the equations put out.
use Rattle.std.proofs.Common.{◌≡◌, ℕ, ◌+◌, ◌*◌, ◌<◌, ◌≤◌, List, [], ◌∷◌, length, arith, lit<, lit≤, ◌∙◌}
use Rattle.std.proofs.Math.IntN.{ℤ}
use Rattle.std.proofs.lemmas.List.Elements.{All-cons, All-nil}
use Rattle.fx_nums.specs.Fraction.{Fraction}
use Rattle.fx_eqs.specs.Fits.{EquationsFit}
use Rattle.fx_eqs.specs.Textbook.{tf_equations, tf_terms}
use Rattle.fx_eqs.specs.declared.limits.TheConstants.{COEFFICIENTS}
use Rattle.fx_eqs.specs.declared.term.Source.TheVariants.{In}
use Rattle.fx_eqs.proofs.Recursions.{tf_has_no_fault}
use Rattle.fx_net.specs.Run.{IsDenominator}
use Rattle.fx_sif.specs.Fits.{ImplicitFits}
use Rattle.fx_sif.specs.Implicit.{Implicit}
use Rattle.fx_sif.specs.SameOutputs.{net_alone, HasOutputs}
use Rattle.fx_sif.proofs.Agreement.{Agrees, has_outputs_of}
use Rattle.fx_sif.proofs.Denominators.{Suits}
use Rattle.fx_sif.proofs.Earlier.{weigh}
use Rattle.fx_sif.proofs.EquationsAtScale.{EquationsMeet}
use Rattle.fx_sif.proofs.LagSums.{kept_whole, lag_sum-kept, lag_sum-recursion, recursion_suits}
use Rattle.fx_sif.proofs.OneScale.{RowsMeet, no_weight, weight}
use Rattle.fx_sif.proofs.Recursion.{MeetsAt, fed_back}
use Rattle.fx_eqs.proofs.SystemsFit.{system_fits}
use Rattle.fx_sif.proofs.Uniqueness.{same_sequence}

-- the one output's row
abbrev pub top : Implicit → ℕ
top f = f.sizes.t + f.sizes.x + 0

-- what a form owes: one input, one output that meets the recursion, and a denominator of its net suits the coefficients
pub record MeetsTransfer (f : Implicit) (b a : List Fraction) : Type 0 where
  pub inputs : f.sizes.u ≡ 1
  pub outputs : f.sizes.y ≡ 1
  pub numerator : (q : ℕ) → IsDenominator (net_alone f) q → Suits q b
  pub denominator : (q : ℕ) → IsDenominator (net_alone f) q → Suits q (fed_back a)
  pub meets : (q g last : ℕ) (x u : ℕ → ℕ → ℤ) → 0 < q * g → RowsMeet f q g last x u → (k : ℕ) → k ≤ last →
      MeetsAt (weight q g) (q * g) b a (λ k. u k 0) (λ k. x k (top f)) k

-- the equations meet it too
equation_meets : (b a : List Fraction) (q g last : ℕ) (y u : ℕ → ℕ → ℤ) →
    EquationsMeet (tf_equations b a) q g last y u →
    (k : ℕ) → k ≤ last → MeetsAt (weight q g) (q * g) b a (λ k. u k 0) (λ k. y k 0) k
equation_meets b a q g last y u theirs k h =
    theirs k 0 h (lit< tt)
    ∙ lag_sum-kept (weight q g) y u k 0 (λ c none. no_weight q g c none) (tf_terms b a)
    ∙ lag_sum-recursion (weight q g) y u k 0 (In 0) b a

module _ (f : Implicit) (b a : List Fraction) (short_b : length b ≤ COEFFICIENTS) (short_a : length a ≤ COEFFICIENTS)
    (fits : ImplicitFits f) (owed : MeetsTransfer f b a) where
  equations_fit : EquationsFit (tf_equations b a)
  equations_fit =
      system_fits 1 1 (tf_terms b a) (0 ∷ []) (lit≤ tt) (lit≤ tt) (lit≤ tt) (lit≤ tt)
      (λ h. All-cons (λ o. o < 1) 0 [] (lit< tt) (All-nil (λ o. o < 1))) (tf_has_no_fault b a short_b short_a)

  agrees : Agrees f (tf_equations b a)
  agrees =
      let one = owed.outputs in
      record {
        inputs = owed.inputs;
        outputs = owed.outputs;
        inside = λ o h. (let first : o ≡ 0 = omega (arith, h, one) in rw first (lit< tt));
        suits = λ q d. kept_whole q (tf_terms b a)
            (recursion_suits q 0 (In 0) b a (owed.numerator q d) (owed.denominator q d));
        same = λ q g last x y u positive meet theirs o k h l.
            let first : o ≡ 0 = omega (arith, h, one) in
            rw first (same_sequence (weight q g) (q * g) last (λ j. weigh (weight q g) (λ k. u k 0) j 0 b)
            (λ j. x j (top f))
            (λ j. y j 0) (fed_back a) positive (λ j low. owed.meets q g last x u positive meet j low)
            (λ j low. equation_meets b a q g last y u theirs j low) k l);
      }

  pub has_outputs : HasOutputs f (tf_equations b a)
  has_outputs = has_outputs_of f (tf_equations b a) fits equations_fit agrees
