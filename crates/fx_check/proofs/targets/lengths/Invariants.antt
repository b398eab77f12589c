use Rattle.std.proofs.Common.{◌≡◌, length, take}
use Rattle.fx_check.specs.Targets.{length_at}
use Rattle.fx_check.specs.declared.targets.TheConstants.{MOST_TARGETS}
use Rattle.fx_block.proofs.Places.{listed}
use Rattle.fx_check.proofs.targets.lengths.Given as goal

abbrev pub invariant-loop-t : goal.invariant-loop-t
invariant-loop-t l = record {
  long : length l.lengths ≡ MOST_TARGETS;
  first : take l.t l.lengths ≡ listed l.t (length_at l.f l.p l.c);
}
