use Rattle.std.proofs.Common.{rules, ◌≡◌, length}
use Rattle.fx_files.specs.Inside.{ports_view, settings_view}
use Rattle.fx_files.proofs.AssembledFits.{fields_fit, outputs_there}
use Rattle.fx_files.proofs.building.assembled.Goals as goal

pub with_rows-requires : goal.with_rows-requires
with_rows-requires c =
    let m : c.len-inputs.result ≡ length c.args.ports.inputs.formats.items = search (rules, c.len-inputs.ensures) in
    let p : c.len-outputs.result ≡ length c.args.ports.outputs.items = search (rules, c.len-outputs.ensures) in
    rw (
      c.outputs.ensures.value,
      c.in_ok-eqs.ensures,
      c.deref.ensures.value,
      m,
      p,
    ) (outputs_there (length c.args.ports.inputs.formats.items) (length c.args.ports.outputs.items)
    c.args.coefficients c.requires.counts)

pub invariant_of-result : goal.invariant_of-result
invariant_of-result c =
    let m : c.len-inputs.result ≡ length c.args.ports.inputs.formats.items = search (rules, c.len-inputs.ensures) in
    let p : c.len-outputs.result ≡ length c.args.ports.outputs.items = search (rules, c.len-outputs.ensures) in
    let eqs = rw (m, p) at c.in_ok-eqs.ensures in
    let outputs = rw (c.outputs.ensures.value, c.deref.ensures.value) at c.in_ok-outputs.ensures in
    fields_fit (ports_view c.args.ports) c.args.coefficients (settings_view c.args.settings)
    c.in_ok-outputs.outputs.items c.in_ok-eqs.eqs eqs outputs
    (record {
      ports_fit = c.requires.ports;
      counts = c.requires.counts;
      lists_fit = c.requires.fits;
      over_ten =
          c.requires.over_ten;
      settings_fit = c.requires.settings;
      agree = c.requires.agree;
    })
