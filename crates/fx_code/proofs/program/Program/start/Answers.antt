use Rattle.std.proofs.Common.{◌∙◌, sym}
use Rattle.fx_code.proofs.FirstFault.{start-told}
use Rattle.fx_code.proofs.Fitting.{start_fits}
use Rattle.fx_code.proofs.program.Program.start.Goals as goal

pub returns-in-Some-clause-fault : goal.returns-in-Some-clause-fault
returns-in-Some-clause-fault c =
    start-told c.args.accumulator c.args.input_widths.now _ (sym c.start_fault.ensures ∙ c.in-Some.is)

pub invariant_of-result : goal.invariant_of-result
invariant_of-result c =
    let same = c.in-Ok.ensures.items_if_clones_equal (λ x y e. e) in
    let fits = start_fits c.args.accumulator c.args.input_widths.now (sym c.start_fault.ensures ∙ c.in_default.is) in
    record { fits = rw (same, c.new.ensures.items, c.new-2.ensures.items) fits; count = rw c.new.ensures.items }
