-- Denominators of all coefficients of an equation system.
use Rattle.std.specs.Prelude.{ℕ, ◌*◌, ◌^◌, max, List, [], ◌∷◌, All}
use Rattle.fx_nums.specs.Fraction.{IsWholeOver}
use Rattle.fx_nums.specs.declared.fraction.Den.{Den}
use Rattle.fx_nums.specs.declared.fraction.Den.TheVariants.{Two, Ten}
use Rattle.fx_eqs.specs.Equations.{Equations}
use Rattle.fx_eqs.specs.declared.term.Term.{Term}

-- the denominator of each term's coefficient divides g
abbrev pub DividesEach : ℕ → List Term → Type 0
DividesEach g terms = All (λ (t : Term). IsWholeOver g t.coef) terms

-- the power of two in a denominator, and the power of ten; each is 1 where there is none
abbrev pub two_part : Den → ℕ
two_part (Two e) = 2 ^ e
two_part (Ten d) = 1

abbrev pub ten_part : Den → ℕ
ten_part (Two e) = 1
ten_part (Ten d) = 10 ^ d

-- the greatest among the terms, and 1 where there is none
abbrev pub greatest : (Den → ℕ) → List Term → ℕ
greatest part [] = 1
greatest part (t ∷ ts) = max (part t.coef.den) (greatest part ts)

-- the product of both, which each denominator divides
abbrev pub common : Equations → ℕ
common eqs = greatest two_part eqs.terms * greatest ten_part eqs.terms
