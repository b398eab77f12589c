use Rattle.fx_cascade.specs.Cascades.{df1_states}
use Rattle.fx_cascade.proofs.Rows.{follows}
use Rattle.fx_cascade.proofs.sections.add_df1_states.Goals as goal

pub loop-i-preserved : goal.loop-i-preserved
loop-i-preserved c =
    follows c.args.entries.now.items c.loop-i.entries.items c.add_delays.new.entries.items c.loop-i.i df1_states
    c.loop-i.invariant c.in_ok-add_delays.ensures
