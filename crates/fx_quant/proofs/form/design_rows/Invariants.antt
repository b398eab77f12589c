use Rattle.std.proofs.Common.{◌≡◌, Ok}
use Rattle.fx_net.specs.Tables.{net_of}
use Rattle.fx_quant.specs.Inside.{grid_of, rows_of}
use Rattle.fx_quant.specs.Rows.{kept_terms, quantised_row, first_rows}
use Rattle.fx_quant.proofs.form.design_rows.Given as goal

abbrev pub invariant-loop-i : goal.invariant-loop-i
invariant-loop-i l =
    first_rows (λ i. quantised_row l.formats i
    (kept_terms (grid_of l.places) (net_of l.net) l.rows l.inputs i)) l.i ≡ Ok (rows_of l.list)
