-- The greatest lags of the sources, and the rows that hold what was read before.
use Rattle.std.specs.Prelude.{ℕ, ◌+◌, ◌-◌, ◌==◌, max, Bool, false, if◌then◌else◌, List, [], ◌∷◌}
use Rattle.fx_math.specs.Sums.{sum_below}
use Rattle.fx_eqs.specs.declared.term.Source.{Source}
use Rattle.fx_eqs.specs.declared.term.Source.TheVariants.{Row, In}
use Rattle.fx_eqs.specs.declared.term.Term.{Term}

-- the same row or the same input
abbrev pub same_source : Source → Source → Bool
same_source (Row i) (Row j) = i == j
same_source (In i) (In j) = i == j
same_source _ _ = false

-- the greatest lag at which a source is read; 0 where it is not read
abbrev pub greatest_lag : Source → List Term → ℕ
greatest_lag source [] = 0
greatest_lag source (t ∷ ts) = max (if same_source t.from source then t.lag else 0) (greatest_lag source ts)

-- the rows of the net: for each input as many as its greatest lag, the rows, and for each row one less than its
-- greatest lag
abbrev pub net_rows : ℕ → ℕ → List Term → ℕ
net_rows rows inputs terms =
    sum_below inputs (λ j. greatest_lag (In j) terms) + rows + sum_below rows (λ j. greatest_lag (Row j) terms - 1)
