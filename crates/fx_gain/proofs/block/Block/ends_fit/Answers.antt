use Rattle.fx_net.specs.Tables.{net_of}
use Rattle.fx_gain.proofs.Made.{ends_fit}
use Rattle.fx_gain.proofs.block.Block.ends_fit.Goals as goal

pub returns : goal.returns
returns g c =
    ends_fit c.args.self.now.filter.now (net_of c.args.self.now.net.now) c.args.self.now.totals.now
    c.args.self.now.moments c.args.o c.args.j c.args.x.now c.filters_fit.ensures
    (rw c.eqs.ensures.value at c.systems_fit.ensures) c.raises_find_the_least.ensures.rest
    c.common_divides_each.ensures c.enclosures_hold.ensures c.requires.original c.args.self.now.serves
    c.requires.output c.requires.input c.requires.rows c.requires.alone
