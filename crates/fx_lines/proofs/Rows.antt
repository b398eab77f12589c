-- The terms of one row.
use Rattle.std.proofs.Common.{ℕ, List, ◌==◌, All}
use Rattle.std.proofs.lemmas.List.Elements.{All-filter}
use Rattle.fx_eqs.specs.declared.term.Term.{Term}
use Rattle.fx_nums.specs.Fraction.{OverTen}
use Rattle.fx_lines.specs.Filter.{terms_of}

-- they have their coefficients over powers of ten where all terms have
pub terms_over_ten : (row : ℕ) (terms : List Term) → All (λ t. OverTen t.coef) terms →
    All (λ t. OverTen t.coef) (terms_of row terms)
terms_over_ten row terms fits = All-filter (λ t. t.row == row) (λ t. OverTen t.coef) terms fits
