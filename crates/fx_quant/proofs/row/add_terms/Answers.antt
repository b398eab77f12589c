use Rattle.fx_net.specs.Tables.{net_of}
use Rattle.fx_quant.specs.Inside.{grid_of}
use Rattle.fx_quant.proofs.Adding.{adds_next}
use Rattle.fx_quant.proofs.row.add_terms.Goals as goal

pub loop-j-preserved : goal.loop-j-preserved
loop-j-preserved c =
    adds_next (grid_of c.args.places.now) (net_of c.args.net.now) c.args.i c.args.which c.loop-j.j
    c.args.terms.now.items c.loop-j.terms.items
    c.add_term.new.terms.items c.read.result c.coefficient-coefficient.result c.loop-j.invariant c.read.ensures
    c.coefficient-coefficient.ensures c.in_ok-add_term.ensures
