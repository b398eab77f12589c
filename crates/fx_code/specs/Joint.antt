-- The rows of a program and, behind them, the expanded rows of an equation system, in one net.
use Rattle.std.specs.Prelude.{ℕ, ◌*◌, ◌^◌, ◌<◌, length}
use Rattle.fx_eqs.specs.Denominator.{DividesEach, common}
use Rattle.fx_eqs.specs.Equations.{Equations}
use Rattle.fx_eqs.specs.Expanded.{expanded}
use Rattle.fx_net.specs.Net.{Net, empty_net}
use Rattle.fx_net.specs.Rows.{put_rows}
use Rattle.fx_net.specs.Run.{IsDenominator}
use Rattle.fx_code.specs.Code.{Code}
use Rattle.fx_code.specs.Fits.{CodeFits}
use Rattle.fx_code.specs.NetRows.{put_code}
use Rattle.fx_code.specs.declared.limits.TheConstants.{LONGEST_SHIFT}

-- the net of n rows that has them, and no others
abbrev pub joint_net : ℕ → Code → Equations → Net
joint_net n p eqs = put_rows (expanded eqs) (length p.rows) (put_code p 0 (empty_net n))

-- a denominator of the equations, shifted by the longest shift, is one of the joint net
abbrev pub JointDenominator : Type 0
JointDenominator =
    (n g : ℕ) (p : Code) (eqs : Equations) →
    CodeFits p → 0 < g → DividesEach g eqs.terms → IsDenominator (joint_net n p eqs) (g * 2 ^ LONGEST_SHIFT)

-- so the common denominator of the equations serves
abbrev pub JointCommon : Type 0
JointCommon = (n : ℕ) (p : Code) (eqs : Equations) → CodeFits p →
    IsDenominator (joint_net n p eqs) (common eqs * 2 ^ LONGEST_SHIFT)
