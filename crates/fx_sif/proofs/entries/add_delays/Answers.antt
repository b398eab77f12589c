use Rattle.std.proofs.Common.{append_assoc}
use Rattle.fx_sif.specs.Entries.{delay_row, delays}
use Rattle.fx_sif.proofs.Following.{delays_next}
use Rattle.fx_sif.proofs.entries.add_delays.Goals as goal

pub loop-i-preserved : goal.loop-i-preserved
loop-i-preserved c =
    let held = delays c.args.block c.args.column c.args.at c.loop-i.i in
    let next = delay_row c.args.block c.args.column c.args.at c.loop-i.i in
    rw (
      delays_next c.args.block c.args.column c.args.at c.loop-i.i,
      ← append_assoc c.args.entries.now.items held next,
      ← c.loop-i.invariant,
    ) c.in_ok-add_delay_row.ensures
