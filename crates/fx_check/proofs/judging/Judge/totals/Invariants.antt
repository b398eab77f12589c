use Rattle.std.proofs.Common.{◌≡◌, ℕ, ◌<◌, length}
use Rattle.fx_sweep.specs.Swept.{whole_in}
use Rattle.fx_check.specs.declared.targets.TheConstants.{MOST_TARGETS}
use Rattle.fx_check.proofs.Sweeps.{padded_total}
use Rattle.fx_check.proofs.judging.Judge.totals.Given as goal

abbrev pub invariant-loop-t : goal.invariant-loop-t
invariant-loop-t g l = record {
  long : length l.totals ≡ MOST_TARGETS;
  first : (k : ℕ) → k < l.t → whole_in l.totals k ≡ padded_total g.row.N l.f l.p l.c k;
}
