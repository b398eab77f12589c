use Rattle.fx_cascade.specs.Cascades.{df2t_states}
use Rattle.fx_cascade.proofs.Rows.{follows}
use Rattle.fx_cascade.proofs.sections.add_df2t_states.Goals as goal

pub loop-i-preserved : goal.loop-i-preserved
loop-i-preserved c =
    follows c.args.entries.now.items c.loop-i.entries.items c.add_state_pair.new.entries.items c.loop-i.i
    (df2t_states c.args.sections.now)
    c.loop-i.invariant c.in_ok-add_state_pair.ensures
