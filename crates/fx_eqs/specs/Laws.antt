-- What the laws of this crate say.
use Rattle.std.specs.Prelude.{◌≡◌, ℕ, ◌*◌, ◌<◌, ℤ, List, None}
use Rattle.fx_math.specs.Unroll.{lagged}
use Rattle.fx_eqs.specs.Denominator.{DividesEach, common}
use Rattle.fx_eqs.specs.Equations.{Equations, kept}
use Rattle.fx_eqs.specs.ExactRun.{exact_value, terms_sum}
use Rattle.fx_eqs.specs.Faults.{eqs_fault}
use Rattle.fx_eqs.specs.Fits.{EquationsFit}
use Rattle.fx_eqs.specs.declared.term.Term.{Term}

-- the exact value of each row at each moment is the sum of its terms over the exact values
abbrev pub MeetsEquations : Equations → Type 0
MeetsEquations s =
    (q : ℕ) (u : ℕ → ℕ → ℤ) (k i : ℕ) → i < s.rows → exact_value s q u k i
    ≡ terms_sum s q u k i (λ l j. lagged (exact_value s q u) k l j) s.terms

-- so it is in each system within the limits
abbrev pub SystemsMeetTheirEquations : Type 0
SystemsMeetTheirEquations = (s : Equations) → EquationsFit s → MeetsEquations s

-- terms are never refused where those that are kept make a system within the limits
abbrev pub WhatFitsHasNoFault : Type 0
WhatFitsHasNoFault =
    (rows inputs : ℕ) (terms : List Term) (outputs : List ℕ) →
    EquationsFit (record { rows = rows; inputs = inputs; terms = kept terms; outputs = outputs }) →
    eqs_fault rows inputs terms ≡ None

-- the common denominator is positive, and each multiple of it is one of every coefficient
abbrev pub CommonDividesEach : Type 0
CommonDividesEach = (eqs : Equations) → (0 < common eqs) × ((m : ℕ) → DividesEach (common eqs * m) eqs.terms)
