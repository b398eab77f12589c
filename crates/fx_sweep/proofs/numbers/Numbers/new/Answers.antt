use Rattle.std.proofs.Common.{rules}
use Rattle.fx_sweep.proofs.OnceMore.{no_gains, no_widths, nothing_in}
use Rattle.fx_sweep.proofs.numbers.Numbers.new.Goals as goal

pub returns-clause-carried : goal.returns-clause-carried
returns-clause-carried c = nothing_in c.args.rows _ (search rules)

pub returns-clause-widths : goal.returns-clause-widths
returns-clause-widths c = no_widths c.args.rows _ (search rules)

pub returns-clause-row_gains : goal.returns-clause-row_gains
returns-clause-row_gains c = no_gains c.args.rows _ (search rules)
