use Rattle.std.proofs.Common.{◌∙◌, sym}
use Rattle.fx_sif.proofs.FirstFault.{fault_told}
use Rattle.fx_sif.proofs.Kept.{form_fits}
use Rattle.fx_sif.proofs.implicit.Sif.build.Goals as goal

pub returns-in-Some-clause-fault : goal.returns-in-Some-clause-fault
returns-in-Some-clause-fault c = fault_told c.args.sizes c.args.entries.now _ (sym c.sif_fault.ensures ∙ c.in-Some.is)

pub invariant_of-result : goal.invariant_of-result
invariant_of-result c =
    let same = c.in-Ok.ensures.items_if_clones_equal (λ x y e. e) in
    let fits = form_fits c.args.sizes c.args.entries.now (sym c.sif_fault.ensures ∙ c.in_default.is) in
    rw same fits
