use Rattle.std.proofs.Common.{◌≡◌, Ok, rules, refl, ap, ◌∙◌}
use Rattle.fx_sif.specs.declared.parts.Sizes.{Sizes}
use Rattle.fx_quant.specs.Quantised.{quantised}
use Rattle.fx_net.specs.Tables.{net_of}
use Rattle.fx_quant.specs.Inside.{grid_of, rows_of}
use Rattle.fx_quant.proofs.Faults.{quantised_is}
use Rattle.fx_quant.proofs.FittingDesigns.{designs_fit}
use Rattle.fx_quant.proofs.RowByRow.{rows_count}
use Rattle.fx_quant.proofs.form.quantise_rows.Goals as goal

pub returns-clause-sizes : goal.returns-clause-sizes
returns-clause-sizes c = record {
  accumulator = refl;
  inputs = ap (λ (s : Sizes). s.u) c.sizes-sizes.ensures.value;
  rows = rows_count c.args.formats (grid_of c.in_ok-places.places) (net_of c.put_net.new.net) c.rows.result
      c.from-inputs.result (rows_of c.in_ok-rows.rows) c.in_ok-rows.ensures ∙ c.rows.ensures.value;
}

pub returns-clause-fits : goal.returns-clause-fits
returns-clause-fits c =
    let is : quantised c.args.sif.now c.args.formats c.args.guards.now c.args.fraction ≡ Ok (record {
      accumulator = c.args.formats.accumulator;
      inputs = c.sizes-sizes.result.u;
      rows = rows_of c.in_ok-rows.rows;
    }) = search (rules, quantised_is) in
    λ few. designs_fit c.args.sif.now c.args.formats c.args.guards.now c.args.fraction _ c.forms_fit.ensures is few
