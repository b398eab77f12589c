-- Totals as functions of the bounds.
use Rattle.std.specs.Prelude.{ℕ, pos, ◌<◌, ◌≤◌, ◌≤ℤ◌}
use Rattle.fx_eqs.specs.declared.limits.TheConstants.{PORTS}
use Rattle.fx_nums.specs.Interval.{Interval}
use Rattle.fx_net.specs.Net.{Net}
use Rattle.fx_sweep.specs.Ordered.{AreOrdered}
use Rattle.fx_totals.specs.Totals.{target_total}

-- with greater bounds no total is less
abbrev pub TotalsGrow : Type 0
TotalsGrow =
    (net : Net) (start : ℕ → Interval) (m : ℕ) (bounds more rows larger : ℕ → ℕ) → AreOrdered start →
    ((j : ℕ) → j < PORTS → bounds j ≤ more j) → ((i : ℕ) → i < net.rows → rows i ≤ larger i) →
    target_total net start m bounds rows ≤ℤ target_total net start m more larger

abbrev pub NoTotalIsNegative : Type 0
NoTotalIsNegative =
    (net : Net) (start : ℕ → Interval) (m : ℕ) (bounds rows : ℕ → ℕ) → AreOrdered start →
    pos 0 ≤ℤ target_total net start m bounds rows
