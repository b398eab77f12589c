-- Equation systems, as contracts see them.
use Rattle.std.specs.Prelude.{ℕ, Bool, not, List, filter}
use Rattle.fx_nums.specs.Fraction.{is_zero}
use Rattle.fx_eqs.specs.declared.term.Term.{Term}

-- rows and inputs are numbered from 0; the terms of all rows stand in one list; outputs are rows
pub record Equations : Type 0 where
  pub rows : ℕ
  pub inputs : ℕ
  pub terms : List Term
  pub outputs : List ℕ

-- the coefficient is not 0
abbrev pub is_kept : Term → Bool
is_kept t = not (is_zero t.coef)

-- the terms that a system has, of those that are given
abbrev pub kept : List Term → List Term
kept terms = filter is_kept terms
