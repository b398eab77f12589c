use Rattle.std.proofs.Common.{◌≡◌, length, take}
use Rattle.fx_make.specs.Targets.{target_at}
use Rattle.fx_make.specs.declared.targets.TheConstants.{MOST_TARGETS}
use Rattle.fx_block.proofs.Places.{listed}
use Rattle.fx_make.proofs.targets.targets.Given as goal

abbrev pub invariant-loop-t : goal.invariant-loop-t
invariant-loop-t l = record {
  long : length l.targets ≡ MOST_TARGETS;
  first : take l.t l.targets ≡ listed l.t (target_at l.f l.d.rows);
}
