use Rattle.std.proofs.Common.{sym, ◌∙◌}
use Rattle.fx_make.proofs.SearchingLengths.{rows_fail}
use Rattle.fx_make.proofs.searching.try_fraction.Goals as goal

pub returns-in_ok-add_all-in-Err : goal.returns-in_ok-add_all-in-Err
returns-in_ok-add_all-in-Err g c =
    rows_fail c.args.f.now c.args.form.now c.args.grid.guard c.args.grid.fraction c.in-Err.why c.args.fails.now.items
    c.add_all.new.fails.items (sym c.in_ok-design.ensures.value ∙ c.in-Err.is) c.in_ok-add_all-in-Err.ensures
