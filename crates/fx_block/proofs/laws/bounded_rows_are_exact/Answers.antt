use Rattle.fx_block.proofs.Bounded.{bounded_rows_are_exact}
use Rattle.fx_block.proofs.laws.bounded_rows_are_exact.Goals as goal

pub returns : goal.returns
returns c = bounded_rows_are_exact c.args.program.now c.bounds_hold_for_all_time.ensures.rows
    c.ideal_values_run.ensures c.words_are_ideal.ensures.words
