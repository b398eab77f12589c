-- The three parts of an expanded net, each up to a count of inputs or rows.
use Rattle.std.specs.Prelude.{ℕ, ◌-◌, List, [], ◌∷◌}
use Rattle.fx_math.specs.Sums.{joined}
use Rattle.fx_eqs.specs.Equations.{Equations}
use Rattle.fx_eqs.specs.Expanded.{NetTerm, hold_rows, equation_row, input_hold_place, row_place, row_hold_place}
use Rattle.fx_eqs.specs.Expanded.NetRead.{Old, In}
use Rattle.fx_eqs.specs.Lags.{greatest_lag}
use Rattle.fx_eqs.specs.declared.term.Source.TheVariants.{Row, In as Input}

-- the rows that hold the first n inputs
abbrev pub input_holds : Equations → ℕ → List (List NetTerm)
input_holds s n = joined n (λ j. hold_rows (In j) (greatest_lag (Input j) s.terms) (input_hold_place s j))

-- the first n rows of the equations
abbrev pub equations : Equations → ℕ → List (List NetTerm)
equations s n = joined n (λ i. equation_row s i ∷ [])

-- the rows that hold the first n rows
abbrev pub row_holds : Equations → ℕ → List (List NetTerm)
row_holds s n = joined n (λ j. hold_rows (Old (row_place s j)) (greatest_lag (Row j) s.terms - 1) (row_hold_place s j))
