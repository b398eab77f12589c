-- The exact values of an equation system, over a common denominator that grows with each row.
use Rattle.std.specs.Prelude.{ℕ, zero, suc, ◌+◌, ◌-◌, ◌*◌, ◌^◌, ◌==◌, if◌then◌else◌, ℤ, pos, ◌+ℤ◌, ◌*ℤ◌, List, [], ◌∷◌}
use Rattle.fx_math.specs.Ratio.{Ratio}
use Rattle.fx_math.specs.Unroll.{fill, lagged}
use Rattle.fx_nums.specs.Fraction.{over}
use Rattle.fx_eqs.specs.Equations.{Equations}
use Rattle.fx_eqs.specs.declared.term.Source.{Source}
use Rattle.fx_eqs.specs.declared.term.Source.TheVariants.{Row, In}
use Rattle.fx_eqs.specs.declared.term.Term.{Term}

-- The value of row j at moment k is a whole number over q ^ (k * rows + j + 1).
-- What a term of row i reads at moment k, over q ^ (k * rows + i): a row at the distance lag * rows + i - j, or an
-- input.
-- `values l j` is row j, l moments before.
abbrev pub value_read : Equations → ℕ → (ℕ → ℕ → ℤ) → ℕ → ℕ → (ℕ → ℕ → ℤ) → Source → ℕ → ℤ
value_read eqs q u k i values (Row j) lag = values lag j *ℤ pos (q ^ (lag * eqs.rows + i - j - 1))
value_read eqs q u k i values (In j) lag = lagged u k lag j *ℤ pos (q ^ (k * eqs.rows + i))

-- the sum of the terms of row i at moment k
abbrev pub terms_sum : Equations → ℕ → (ℕ → ℕ → ℤ) → ℕ → ℕ → (ℕ → ℕ → ℤ) → List Term → ℤ
terms_sum eqs q u k i values [] = pos 0
terms_sum eqs q u k i values (t ∷ ts) =
    (if t.row == i then over q t.coef *ℤ value_read eqs q u k i values t.from t.lag else pos 0) +ℤ terms_sum
    eqs q u k i values ts

-- the rows of this moment come first, and then those of the moments before
abbrev pub with_now : (ℕ → ℤ) → (ℕ → ℕ → ℤ) → ℕ → ℕ → ℤ
with_now now past zero j = now j
with_now now past (suc l) j = past l j

-- row j, l moments before the last of the first k moments; what lies before moment 0 is 0
abbrev pub past_values : Equations → ℕ → (ℕ → ℕ → ℤ) → ℕ → ℕ → ℕ → ℤ
past_values eqs q u zero l j = pos 0
past_values eqs q u (suc k) zero j =
    fill (λ i now. terms_sum eqs q u k i (with_now now (past_values eqs q u k)) eqs.terms) eqs.rows j
past_values eqs q u (suc k) (suc l) j = past_values eqs q u k l j

-- row i at moment k, as that whole number
abbrev pub exact_value : Equations → ℕ → (ℕ → ℕ → ℤ) → ℕ → ℕ → ℤ
exact_value eqs q u k i = past_values eqs q u (suc k) zero i

-- the value of row i at moment k, in input steps
abbrev pub row_value : Equations → ℕ → (ℕ → ℕ → ℤ) → ℕ → ℕ → Ratio
row_value eqs q u k i = record { num = exact_value eqs q u k i; den = q ^ (k * eqs.rows + i + 1) }
