use Rattle.std.proofs.Common.{replicate}
use Rattle.fx_net.specs.Tables.{net_of}
use Rattle.fx_totals.specs.Kept.{bound_in}
use Rattle.fx_gain.specs.Lengths.{original_count, raises_alone}
use Rattle.fx_gain.specs.Rows.{row_targets}
use Rattle.fx_gain.proofs.Holding.{rests_alone}
use Rattle.fx_gain.proofs.Tried.{rest_is, told_alone}
use Rattle.fx_gain.proofs.block.Block.raise.Goals as goal

pub returns : goal.returns
returns g c =
    let net = net_of c.args.self.now.net.now in
    let f = c.args.self.now.filter.now in
    let m = c.args.self.now.moments in
    let k = c.args.self.now.totals.now in
    let n = original_count f in
    let block = c.args.self.now.serves in
    let told = told_alone net f k m c.args.j c.raise.result (bound_in c.raise.new.self) block.filled
    (c.raise.ensures net (row_targets n) (replicate n m) block.filled) in
    rest_is (raises_alone net f m c.args.j) c.raise.result (bound_in c.raise.new.self) told
    (rests_alone net f m c.args.j c.requires block.serves)
