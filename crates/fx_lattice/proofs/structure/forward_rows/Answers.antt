use Rattle.std.proofs.Common.{append_assoc}
use Rattle.fx_math.specs.Sums.{joined}
use Rattle.fx_lattice.specs.Structure.{forward_row}
use Rattle.fx_lattice.proofs.Rows.{one_more}
use Rattle.fx_lattice.proofs.structure.forward_rows.Goals as goal

pub loop-r-preserved : goal.loop-r-preserved
loop-r-preserved c =
    let held = joined c.loop-r.r (forward_row c.args.k.now) in
    let next = forward_row c.args.k.now c.loop-r.r in
    rw (
      one_more c.loop-r.r (forward_row c.args.k.now),
      ← append_assoc c.args.entries.now.items held next,
      ← c.loop-r.invariant,
    ) c.in_ok-forward_row.ensures
