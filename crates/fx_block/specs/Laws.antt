-- What the laws of this crate say.
use Rattle.std.specs.Prelude.{◌≡◌, ℕ, ◌+◌, ◌^◌, ◌<◌, ◌≤◌, ℤ, pos, ◌*ℤ◌, ◌≤ℤ◌, unsigned_abs, length}
use Rattle.fx_eqs.specs.Denominator.{DividesEach}
use Rattle.fx_eqs.specs.Equations.{Equations}
use Rattle.fx_eqs.specs.Expanded.{expanded}
use Rattle.fx_eqs.specs.Fits.{EquationsFit}
use Rattle.fx_net.specs.Blocks.{block_den}
use Rattle.fx_net.specs.Laws.{HasExactValues, RunsEquations}
use Rattle.fx_net.specs.Net.{Net}
use Rattle.fx_net.specs.Rows.{HoldsRows}
use Rattle.fx_net.specs.Run.{IsDenominator, IsRun, row_sum, row_time}
use Rattle.fx_code.specs.Code.{Code, IsWhole}
use Rattle.fx_code.specs.Joint.{joint_net}
use Rattle.fx_code.specs.Laws.{IsFloored}
use Rattle.fx_code.specs.NetRows.{HoldsCode}
use Rattle.fx_code.specs.Run.{words, IsExact}
use Rattle.fx_sweep.specs.Target.{TargetFits, start_of}
use Rattle.fx_sweep.specs.declared.limits.TheConstants.{GREATEST_SHIFT}
use Rattle.fx_sweep.specs.declared.target.Target.{Target}
use Rattle.fx_sweep.specs.declared.target.Target.TheVariants.{Pair}
use Rattle.fx_totals.specs.AllTime.{BoundsServe, WordsWithin}
use Rattle.fx_totals.specs.Bounds.{IsWithin, target_value}
use Rattle.fx_totals.specs.Totals.{target_total}
use Rattle.fx_block.specs.Ideal.{ideal, WidthsHold}
use Rattle.fx_block.specs.Joint.{count_of, joint_values, net_of, original_row, perturbations_of}
use Rattle.fx_block.specs.Near.{IsNearExact}

-- ---- bounds for all time

-- where each bound serves the next value too, the total of a target, swept for any moments, bounds the target at all
-- moments
abbrev pub TotalsServeForAllTime : Type 0
TotalsServeForAllTime =
    (net : Net) (target : Target) (q m : ℕ) (u z perturbations : ℕ → ℕ → ℤ) (lengths bounds rows : ℕ → ℕ) →
    TargetFits net.rows target → IsDenominator net q → IsRun net q u z perturbations → WordsWithin bounds u →
    BoundsServe net lengths bounds rows → 0 < m → (k : ℕ) →
    pos (unsigned_abs (target_value net target q z k)) ≤ℤ
    (pos (block_den net q k) *ℤ target_total net (start_of target) m bounds rows)

-- ---- programs

-- the numbers without wrapping are floored as words are
abbrev pub IdealIsFloored : Code → Type 0
IdealIsFloored p = (u : ℕ → ℕ → ℤ) (k i : ℕ) → i < length p.rows → IsFloored p u (ideal p u) k i

-- where they are within bounds that words and accumulators take, they are the words, and each row is exact
abbrev pub WordsAreIdeal : Code → Type 0
WordsAreIdeal p =
    (u : ℕ → ℕ → ℤ) (x : ℕ → ℕ) →
    ((k i : ℕ) → i < length p.rows → unsigned_abs (ideal p u k i) ≤ x i) →
    ((i : ℕ) → i < length p.rows → WidthsHold p i (x i)) →
    (k i : ℕ) → i < length p.rows → IsExact p u k i × (words p u k i ≡ ideal p u k i)

-- values of a net that begins with a program: its numbers without wrapping, then what the rows read
pub record IsJointRun (net : Net) (p : Code) (q : ℕ) (u z : ℕ → ℕ → ℤ) : Type 0 where
  pub runs : IsRun net q u z (perturbations_of net q u z)
  pub code : (k i : ℕ) → i < length p.rows → z k i ≡ ideal p u k i *ℤ pos (q ^ (row_time net k i + 1))
  pub others : (k i : ℕ) → length p.rows ≤ i → i < net.rows → z k i ≡ row_sum net q u z k i

-- they are a run, in each net that begins with the rows of a whole program, over each denominator and for all inputs
abbrev pub JointValuesRun : Code → Type 0
JointValuesRun p =
    (net : Net) (q : ℕ) (u : ℕ → ℕ → ℤ) → IsWhole p → HoldsCode net 0 p → IsDenominator net q →
    IsJointRun net p q u (joint_values net p q u)

-- in such a net, where bounds serve that words and accumulators take, each row of the program is exact and within its
-- bound, on all inputs within theirs and at all moments
abbrev pub BoundedRowsAreExact : Code → Type 0
BoundedRowsAreExact p =
    (net : Net) (q : ℕ) (u : ℕ → ℕ → ℤ) (lengths bounds rows : ℕ → ℕ) → IsWhole p → HoldsCode net 0 p →
    IsDenominator net q →
    WordsWithin bounds u → BoundsServe net lengths bounds rows →
    ((i : ℕ) → i < length p.rows → WidthsHold p i (rows i)) →
    (k i : ℕ) → i < length p.rows →
    IsExact p u k i × (words p u k i ≡ ideal p u k i) × (unsigned_abs (words p u k i) ≤ rows i)

-- ---- a program beside equations

-- the net of both holds the rows of the program and, behind them, the expanded rows
pub record HoldsBoth (net : Net) (p : Code) (eqs : Equations) : Type 0 where
  pub code : HoldsCode net 0 p
  pub equations : HoldsRows net (length p.rows) (expanded eqs)

abbrev pub JointNetsHoldBoth : Type 0
JointNetsHoldBoth = (n : ℕ) (p : Code) (eqs : Equations) → count_of p eqs ≤ n → HoldsBoth (joint_net n p eqs) p eqs

-- in the run of that net the expanded rows have their exact values, over each denominator and for all inputs
abbrev pub JointValuesAreExact : Code → Type 0
JointValuesAreExact p =
    (eqs : Equations) (q g : ℕ) (u : ℕ → ℕ → ℤ) → IsWhole p → EquationsFit eqs →
    IsDenominator (net_of p eqs) q → DividesEach g eqs.terms →
    HasExactValues eqs g (net_of p eqs) q (length p.rows) u (joint_values (net_of p eqs) p q u)

-- inputs within their bounds, and bounds of the rows of both that serve and that words and accumulators take
pub record AreBounded (p : Code) (eqs : Equations) (u : ℕ → ℕ → ℤ) (lengths bounds rows : ℕ → ℕ) : Type 0 where
  pub words_within : WordsWithin bounds u
  pub serve : BoundsServe (net_of p eqs) lengths bounds rows
  pub widths : (i : ℕ) → i < length p.rows → WidthsHold p i (rows i)

-- then each row of the program is exact at all moments
abbrev pub RowsAreExact : Code → Type 0
RowsAreExact p =
    (eqs : Equations) (u : ℕ → ℕ → ℤ) (lengths bounds rows : ℕ → ℕ) → IsWhole p → EquationsFit eqs →
    AreBounded p eqs u lengths bounds rows →
    (k i : ℕ) → i < length p.rows → IsExact p u k i

-- the total of a pair of a row of the program and one of the equations bounds how far the word is from the exact value
abbrev pub PairsAreNear : Code → Type 0
PairsAreNear p =
    (eqs : Equations) (u : ℕ → ℕ → ℤ) (lengths bounds rows : ℕ → ℕ) → IsWhole p → EquationsFit eqs →
    AreBounded p eqs u lengths bounds rows →
    (m code i : ℕ) (shift e : ℤ) → 0 < m → code < length p.rows → i < eqs.rows →
    unsigned_abs shift ≤ unsigned_abs GREATEST_SHIFT →
    target_total (net_of p eqs) (start_of (Pair code (original_row p eqs i) shift)) m bounds rows ≤ℤ e →
    (k : ℕ) → IsNearExact eqs u k i shift (words p u k code) e

-- and each expanded row is within its bound at all moments, in each net that runs the equations
abbrev pub ExpandedRowsAreWithin : Code → Type 0
ExpandedRowsAreWithin p =
    (eqs : Equations) (u : ℕ → ℕ → ℤ) (lengths bounds rows : ℕ → ℕ) → IsWhole p → EquationsFit eqs →
    AreBounded p eqs u lengths bounds rows →
    (net : Net) (at q : ℕ) (z : ℕ → ℕ → ℤ) → RunsEquations eqs net at q u z →
    (k r : ℕ) → r < length (expanded eqs) → IsWithin net q z k (at + r) (rows (length p.rows + r))
