use Rattle.fx_cascade.specs.Cascades.{df1_section}
use Rattle.fx_cascade.proofs.Rows.{follows}
use Rattle.fx_cascade.proofs.sections.add_df1_sections.Goals as goal

pub loop-i-preserved : goal.loop-i-preserved
loop-i-preserved c =
    follows c.args.entries.now.items c.loop-i.entries.items c.add_df1_section.new.entries.items c.loop-i.i
    (df1_section c.args.sections.now)
    c.loop-i.invariant c.in_ok-add_df1_section.ensures
