-- The expanded net of an equation system: rows that read rows of this moment or the one before, and inputs of this
-- moment.
use Rattle.std.specs.Prelude.{ℕ, zero, suc, ◌+◌, ◌-◌, ◌==◌, List, [], ◌∷◌, ◌++◌, map, filter}
use Rattle.fx_math.specs.Sums.{sum_below, joined}
use Rattle.fx_nums.specs.Fraction.{Fraction, one_fraction}
use Rattle.fx_eqs.specs.Equations.{Equations}
use Rattle.fx_eqs.specs.Lags.{greatest_lag}
use Rattle.fx_eqs.specs.declared.term.Source.{Source}
use Rattle.fx_eqs.specs.declared.term.Source.TheVariants.{Row, In as Input}
use Rattle.fx_eqs.specs.declared.term.Term.{Term}

-- where a row of a net reads: a row of this moment, a row of the moment before, an input of this moment
pub data NetRead : Type 0 where
  Now : ℕ → NetRead
  Old : ℕ → NetRead
  In : ℕ → NetRead

pub record NetTerm : Type 0 where
  pub coef : Fraction
  pub from : NetRead

-- ---- the order: rows that hold inputs, the rows of the equations, rows that hold rows

-- the first row that holds input j
abbrev pub input_hold_place : Equations → ℕ → ℕ
input_hold_place s j = sum_below j (λ i. greatest_lag (Input i) s.terms)

-- row i of the equations
abbrev pub row_place : Equations → ℕ → ℕ
row_place s i = input_hold_place s s.inputs + i

-- the first row that holds row j
abbrev pub row_hold_place : Equations → ℕ → ℕ
row_hold_place s j = row_place s s.rows + sum_below j (λ i. greatest_lag (Row i) s.terms - 1)

-- ---- the rows

-- what reads a source at a lag
abbrev pub net_read : Equations → Source → ℕ → NetRead
net_read s (Input j) zero = In j
net_read s (Input j) (suc l) = Old (input_hold_place s j + l)
net_read s (Row j) zero = Now (row_place s j)
net_read s (Row j) (suc zero) = Old (row_place s j)
net_read s (Row j) (suc (suc l)) = Old (row_hold_place s j + l)

-- so many rows from a place on: the first holds what is read, each further one what the one before it held
abbrev pub hold_rows : NetRead → ℕ → ℕ → List (List NetTerm)
hold_rows from zero place = []
hold_rows from (suc count) place =
    (record { coef = one_fraction; from = from } ∷ []) ∷ hold_rows (Old place) count (place + 1)

abbrev pub equation_row : Equations → ℕ → List NetTerm
equation_row s i = map (λ (t : Term). record { coef = t.coef; from = net_read s t.from t.lag })
    (filter (λ (t : Term). t.row == i) s.terms)

-- the rows in their order, each a list of its terms
abbrev pub expanded : Equations → List (List NetTerm)
expanded s =
    joined s.inputs (λ j. hold_rows (In j) (greatest_lag (Input j) s.terms) (input_hold_place s j))
    ++ joined s.rows (λ i. equation_row s i ∷ [])
    ++ joined s.rows (λ j. hold_rows (Old (row_place s j)) (greatest_lag (Row j) s.terms - 1) (row_hold_place s j))
