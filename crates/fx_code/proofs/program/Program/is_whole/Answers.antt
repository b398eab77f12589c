use Rattle.std.proofs.Common.{◌≡◌, ◌<◌, length, rules}
use Rattle.fx_code.proofs.Whole.{whole_from, reads_from}
use Rattle.fx_code.proofs.program.Program.is_whole.Goals as goal

pub returns-then-not-is_empty : goal.returns-then-not-is_empty
returns-then-not-is_empty c =
    let some : 0 < length c.self.inside.outputs.items = search rules in
    let count : c.len.result ≡ length c.self.inside.rows.items = search (rules, c.len.ensures) in (
      λ yes. whole_from c.self.inside c.args.self.now _ _ c.self.view_is some count c.deref.ensures.value
          (c.rows_are_there.ensures.0 yes),
      λ whole. c.rows_are_there.ensures.1
          (reads_from c.self.inside c.args.self.now _ _ c.self.view_is count c.deref.ensures.value whole),
    )
