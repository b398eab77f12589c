-- What the laws of this crate say.
use Rattle.std.specs.Prelude.{◌≡◌, ◌⊎◌, ℕ, suc, ◌+◌, ◌-◌, ◌<◌, ◌≤◌, ℤ, pos, List, length, All}
use Rattle.fx_math.specs.Ratio.{SameValue, whole}
use Rattle.fx_math.specs.Unroll.{lagged}
use Rattle.fx_nums.specs.Fraction.{IsWholeOver}
use Rattle.fx_eqs.specs.Denominator.{DividesEach}
use Rattle.fx_eqs.specs.Equations.{Equations}
use Rattle.fx_eqs.specs.ExactRun.{row_value}
use Rattle.fx_eqs.specs.Expanded.{NetTerm, expanded, input_hold_place, row_hold_place, row_place}
use Rattle.fx_eqs.specs.Fits.{EquationsFit}
use Rattle.fx_eqs.specs.Lags.{greatest_lag}
use Rattle.fx_eqs.specs.Values.{earlier}
use Rattle.fx_eqs.specs.declared.term.Source.TheVariants.{Row, In}
use Rattle.fx_net.specs.Net.{Net, empty_net}
use Rattle.fx_net.specs.Rows.{AreEmpty, HoldsRows, IsSameRow, put_rows}
use Rattle.fx_net.specs.Run.{IsDenominator, IsRun, net_value, row_sum}

-- ---- rows that are put

-- they stand there
abbrev pub RowsStand : Type 0
RowsStand = (rows : List (List NetTerm)) (at : ℕ) (net : Net) → at + length rows ≤ net.rows →
    HoldsRows (put_rows rows at net) at rows

-- so many rows from a place on lie before or behind so many others
abbrev pub AreApart : ℕ → ℕ → ℕ → ℕ → Type 0
AreApart place count at others = (place + count ≤ at) ⊎ (at + others ≤ place)

-- all other rows stay as they were
abbrev pub OtherRowsStay : Type 0
OtherRowsStay =
    (rows : List (List NetTerm)) (at i : ℕ) (net : Net) → AreApart i 1 at (length rows) →
    IsSameRow i net (put_rows rows at net)

-- so other rows still stand where they stood
abbrev pub OtherRowsStillStand : Type 0
OtherRowsStillStand =
    (rows others : List (List NetTerm)) (at place : ℕ) (net : Net) → AreApart place (length others) at (length rows) →
    HoldsRows net place others → HoldsRows (put_rows rows at net) place others

-- and others that were empty still are
abbrev pub OtherRowsStayEmpty : Type 0
OtherRowsStayEmpty =
    (rows : List (List NetTerm)) (at place count : ℕ) (net : Net) → AreApart place count at (length rows) →
    AreEmpty place count net → AreEmpty place count (put_rows rows at net)

-- all rows of a new net are empty
abbrev pub NewRowsAreEmpty : Type 0
NewRowsAreEmpty = (at count n : ℕ) → AreEmpty at count (empty_net n)

-- ---- denominators

-- the denominator of each coefficient of these rows divides q
abbrev pub DividesRows : ℕ → List (List NetTerm) → Type 0
DividesRows q rows = All (λ ts. All (λ (t : NetTerm). IsWholeOver q t.coef) ts) rows

-- each positive number is a denominator of a new net
abbrev pub NewNetsAreDivided : Type 0
NewNetsAreDivided = (n q : ℕ) → 0 < q → IsDenominator (empty_net n) q

-- a denominator of a net and of rows is one of the net with these rows put
abbrev pub PutRowsAreDivided : Type 0
PutRowsAreDivided =
    (rows : List (List NetTerm)) (at q : ℕ) (net : Net) → IsDenominator net q → DividesRows q rows →
    IsDenominator (put_rows rows at net) q

-- a denominator of all terms of equations is one of their expanded rows
abbrev pub ExpandedRowsAreDivided : Type 0
ExpandedRowsAreDivided = (eqs : Equations) (q : ℕ) → DividesEach q eqs.terms → DividesRows q (expanded eqs)

-- ---- exact values

-- so many rows from a place on have just what they read, at all moments
abbrev pub AreUnperturbed : Net → ℕ → (ℕ → ℕ → ℤ) → (ℕ → ℕ → ℤ) → ℕ → ℕ → Type 0
AreUnperturbed net q u z at count = (k r : ℕ) → r < count → z k (at + r) ≡ row_sum net q u z k (at + r)

-- Each expanded row has its exact value in the net, at all moments: a row of the equations its own, row l that holds an
-- input the input l moments before, and row l that holds a row that row's value l + 1 moments before.
pub record HasExactValues (eqs : Equations) (g : ℕ) (net : Net) (q at : ℕ) (u z : ℕ → ℕ → ℤ) : Type 0 where
  pub rows : (k i : ℕ) → i < eqs.rows → SameValue (net_value net q z k (at + row_place eqs i)) (row_value eqs g u k i)
  pub input_holds : (k j l : ℕ) → j < eqs.inputs → l < greatest_lag (In j) eqs.terms →
      SameValue (net_value net q z k (at + (input_hold_place eqs j + l))) (whole (lagged u k l j))
  pub row_holds : (k j l : ℕ) → j < eqs.rows → l < greatest_lag (Row j) eqs.terms - 1 →
      SameValue (net_value net q z k (at + (row_hold_place eqs j + l))) (earlier (λ m. row_value eqs g u m j) k (suc l))

-- a net that holds the expanded rows has the exact values, where these rows have just what they read; its other rows
-- are free
abbrev pub ExactInNet : Type 0
ExactInNet =
    (eqs : Equations) (net : Net) (at q g : ℕ) (u z : ℕ → ℕ → ℤ) → EquationsFit eqs →
    HoldsRows net at (expanded eqs) → IsDenominator net q → DividesEach g eqs.terms →
    AreUnperturbed net q u z at (length (expanded eqs)) → HasExactValues eqs g net q at u z

-- so it is in each run without perturbation in these rows
abbrev pub ExactInRuns : Type 0
ExactInRuns =
    (eqs : Equations) (net : Net) (at q g : ℕ) (u z perturbations : ℕ → ℕ → ℤ) → EquationsFit eqs →
    HoldsRows net at (expanded eqs) → IsDenominator net q → DividesEach g eqs.terms → IsRun net q u z perturbations →
    ((k r : ℕ) → r < length (expanded eqs) → perturbations k (at + r) ≡ pos 0) → HasExactValues eqs g net q at u z

-- a net holds the expanded rows, and these have just what they read
pub record RunsEquations (eqs : Equations) (net : Net) (at q : ℕ) (u z : ℕ → ℕ → ℤ) : Type 0 where
  pub holds : HoldsRows net at (expanded eqs)
  pub denominator : IsDenominator net q
  pub unperturbed : AreUnperturbed net q u z at (length (expanded eqs))

-- nets that run the same equations on the same inputs have the same values, in each of the expanded rows
abbrev pub ExpandedRowsAgree : Type 0
ExpandedRowsAgree =
    (eqs : Equations) (a b : Net) (at place q p : ℕ) (u y z : ℕ → ℕ → ℤ) → EquationsFit eqs →
    RunsEquations eqs a at q u y → RunsEquations eqs b place p u z → (k r : ℕ) → r < length (expanded eqs) →
    SameValue (net_value a q y k (at + r)) (net_value b p z k (place + r))
