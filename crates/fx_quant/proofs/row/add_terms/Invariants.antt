use Rattle.fx_net.specs.Tables.{net_of}
use Rattle.fx_quant.specs.Inside.{grid_of}
use Rattle.fx_quant.specs.Rows.{Adds, kept_of}
use Rattle.fx_quant.proofs.row.add_terms.Given as goal

abbrev pub invariant-loop-j : goal.invariant-loop-j
invariant-loop-j l = Adds l.fn.terms.items l.terms.items (kept_of (grid_of l.places) (net_of l.net) l.i l.which l.j) l.j
