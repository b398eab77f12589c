use Rattle.std.proofs.Common.{◌≡◌, ℕ, ◌<◌}
use Rattle.fx_sweep.specs.declared.target.Target.TheVariants.{Row}
use Rattle.fx_totals.specs.Filled.{target_in}
use Rattle.fx_totals.proofs.filling.leading_rows.Given as goal

abbrev pub invariant-loop-t : goal.invariant-loop-t
invariant-loop-t l = (s : ℕ) → s < l.t → target_in l.targets s ≡ Row s
