use Rattle.std.proofs.Common.{◌∙◌, sym}
use Rattle.fx_eqs.proofs.FirstFault.{fault-told}
use Rattle.fx_eqs.proofs.SystemsFit.{system_fits}
use Rattle.fx_eqs.proofs.system.Eqs.build.Goals as goal

pub returns-in-Some-clause-fault : goal.returns-in-Some-clause-fault
returns-in-Some-clause-fault c =
    fault-told c.args.rows c.args.inputs c.args.terms.now _ (sym c.eqs_fault.ensures ∙ c.in-Some.is)

pub invariant_of-result : goal.invariant_of-result
invariant_of-result c =
    let same = c.in_ok-outputs.ensures.items_if_clones_equal (λ x y e. e) in
    let fits = system_fits c.args.rows c.args.inputs c.args.terms.now c.args.outputs.now c.requires.inputs_low
    c.requires.inputs_high c.requires.outputs_low c.requires.outputs_high c.requires.outputs_below
    (sym c.eqs_fault.ensures ∙ c.in_default.is) in
    record { fits = rw (same, c.in_ok-kept.ensures) fits; net = rw (c.in_ok-kept.ensures) c.net_rows.ensures }
