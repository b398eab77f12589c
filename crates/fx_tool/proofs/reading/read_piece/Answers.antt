use Rattle.std.proofs.Common.{◌≡◌, ◌++◌, take, arith, rules}
use Rattle.std.proofs.lemmas.Grind.{common_steps}
use Rattle.fx_tool.proofs.ReadSoFar.{more_at}
use Rattle.fx_tool.proofs.reading.read_piece.Goals as goal

pub returns-clause-more : goal.returns-clause-more
returns-clause-more g c so_far =
    let is : c.extend_from_slice.new.self.items
    ≡ c.args.bytes.now.items ++ take c.in_ok-count.count c.read_at.new.into =
    grind (arith, common_steps, c.in_ok-extend_from_slice.ensures.items) in
    more_at (g.S.Shelf.seen c.args.shelf.now).files c.args.name.now c.args.bytes.now.items c.read_at.new.into
    c.extend_from_slice.new.self.items c.len-2.result c.in_ok-count.count (search (rules, c.len-2.ensures))
    c.in_ok-count.ensures.bytes is so_far
