use Rattle.fx_words.specs.Command.{texts}
use Rattle.fx_tool.proofs.Headline.{done_claims}
use Rattle.fx_tool.proofs.running.run.Goals as goal

pub returns : goal.returns
returns g c =
    let words = texts c.args.words.now in
    let before = g.S.Shelf.seen c.args.shelf.now in
    let after = g.S.Shelf.seen c.answer.new.shelf in
    let out = g.K.Sink.seen c.args.out.now in
    let out' = g.K.Sink.seen c.answer.new.out in
    let answers = c.answer.ensures.answers in
    record {
      done = λ h. done_claims c.certificate_is_read_exactly.ensures c.none_fails_where_all_hold.ensures words
          before.files after.files c.answer.result out.told out'.told h (c.answer.ensures.establishes h)
          answers.leaves.answer answers.placed;
      placed = answers.placed;
      leaves = answers.leaves;
    }
