use Rattle.fx_textbook.proofs.TermSteps.{length-up_from, up_from_below}
use Rattle.fx_textbook.proofs.systems.space_system.Goals as goal

pub system-requires-clause-outputs_high : goal.system-requires-clause-outputs_high
system-requires-clause-outputs_high c =
    rw (
      c.deref-2.ensures.value,
      c.in_ok-outputs.ensures,
      length-up_from c.args.space.now.n c.args.space.now.p,
    ) c.requires.outputs_high

pub system-requires-clause-outputs_below : goal.system-requires-clause-outputs_below
system-requires-clause-outputs_below c =
    rw (c.deref-2.ensures.value, c.in_ok-outputs.ensures) (up_from_below c.args.space.now.n c.args.space.now.p)
