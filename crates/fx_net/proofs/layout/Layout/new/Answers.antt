use Rattle.std.proofs.Common.{arith, ◌≤◌, length}
use Rattle.fx_eqs.specs.Expanded.{expanded}
use Rattle.fx_eqs.specs.declared.limits.TheConstants.{NET_ROWS}
use Rattle.fx_eqs.proofs.Expanding.{length-expanded}
use Rattle.fx_net.proofs.layout.Layout.new.Goals as goal

pub invariant_of-result : goal.invariant_of-result
invariant_of-result c =
    let fits = c.systems_fit.ensures in
    let few : length (expanded c.args.eqs.now) ≤ NET_ROWS = let h =
    fits.net_high in omega (arith, length-expanded c.args.eqs.now) in
    record {
      places = record {
        inputs = c.input_places-first.ensures.holds;
        equations = c.input_places-first.ensures.next;
        inputs_high = fits.inputs_high;
        few = few;
        rows = c.row_places-rows.ensures;
      };
    }
