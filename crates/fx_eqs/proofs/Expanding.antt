-- The expanded net has as many rows as are counted.
use Rattle.std.proofs.Common.{◌≡◌, ℕ, zero, suc, ◌+◌, ◌-◌, ◌++◌, ◌∷◌, [], List, length, arith, refl, ap, ap₂}
use Rattle.std.proofs.Common.{◌∙◌, length-append}
use Rattle.fx_math.specs.Sums.{sum_below, joined}
use Rattle.fx_eqs.specs.Equations.{Equations}
use Rattle.fx_eqs.specs.Expanded.{NetRead, NetTerm, hold_rows, expanded, equation_row, input_hold_place}
use Rattle.fx_eqs.specs.Expanded.{row_place, row_hold_place}
use Rattle.fx_eqs.specs.Expanded.NetRead.{Old, In}
use Rattle.fx_eqs.specs.Lags.{greatest_lag, net_rows}
use Rattle.fx_eqs.specs.declared.term.Source.TheVariants.{Row, In as Input}

length-holds : (from : NetRead) (count place : ℕ) → length (hold_rows from count place) ≡ count
length-holds from zero place = refl
length-holds from (suc count) place = ap suc (length-holds (Old place) count (place + 1))

length-joined : (n : ℕ) (f : ℕ → List (List NetTerm)) (size : ℕ → ℕ) → ((j : ℕ) → length (f j) ≡ size j) →
    length (joined n f) ≡ sum_below n size
length-joined zero f size each = refl
length-joined (suc n) f size each = length-append (joined n f) (f n)
    ∙ ap₂ (λ a b. a + b) (length-joined n f size each) (each n)

ones : (n : ℕ) → sum_below n (λ i. 1) ≡ n
ones zero = refl
ones (suc n) = let before = ones n in omega arith

pub length-expanded : (s : Equations) → length (expanded s) ≡ net_rows s.rows s.inputs s.terms
length-expanded s =
    let inputs = joined s.inputs (λ j. hold_rows (In j) (greatest_lag (Input j) s.terms) (input_hold_place s j)) in
    let rows = joined s.rows (λ i. equation_row s i ∷ []) in
    let holds = joined s.rows (λ j.
    hold_rows (Old (row_place s j)) (greatest_lag (Row j) s.terms - 1) (row_hold_place s j)) in
    length-append (inputs ++ rows) holds
    ∙ ap₂ (λ a b. a + b)
    (length-append inputs rows
    ∙ ap₂ (λ a b. a + b) (length-joined s.inputs _ (λ j. greatest_lag (Input j) s.terms) (λ j.
    length-holds _ _ _)) (length-joined s.rows _ (λ i. 1) (λ i. refl) ∙ ones s.rows))
    (length-joined s.rows _ (λ j. greatest_lag (Row j) s.terms - 1) (λ j. length-holds _ _ _))
