use Rattle.std.proofs.Common.{Err, ◌∙◌, ap, subst, refl, sym}
use Rattle.fx_io.specs.declared.shelf.IoFault.TheVariants as io
use Rattle.fx_words.specs.Command.{texts}
use Rattle.fx_words.specs.Words.{IsWhole, command_of}
use Rattle.fx_words.proofs.Completeness.{commands_are_whole}
use Rattle.fx_tool.specs.Plan.{MayRead}
use Rattle.fx_tool.specs.Running.{reads_to}
use Rattle.fx_tool.proofs.Answering.{answers_delivered, answers_fault, follows_nothing}
use Rattle.fx_tool.proofs.running.answer.Goals as goal

pub ending-requires-clause-whole : goal.ending-requires-clause-whole
ending-requires-clause-whole g c =
    subst (λ a. IsWhole a) (sym (c.command-command.ensures ∙ c.in-Ok.ensures))
    (commands_are_whole (texts c.args.words.now))

pub ending-requires-clause-readable : goal.ending-requires-clause-readable
ending-requires-clause-readable g c =
    subst (λ a. MayRead (g.S.Shelf.seen c.args.shelf.now) (reads_to a))
    (sym (c.command-command.ensures ∙ c.in-Ok.ensures)) c.requires

pub returns-in-Err-Failed-clause-answers : goal.returns-in-Err-Failed-clause-answers
returns-in-Err-Failed-clause-answers g c =
    answers_fault (texts c.args.words.now) _ (g.S.Shelf.seen c.args.shelf.now) (g.S.Shelf.seen c.ending.new.shelf)
    (g.K.Sink.seen c.args.out.now) c.ending.result io.Failed (c.command-command.ensures ∙ c.in-Ok.ensures)
    c.ending.ensures.follows (c.in-Err-Failed.is ∙ ap Err c.in-Err-Failed.field-0-is)

pub returns-clause-answers : goal.returns-clause-answers
returns-clause-answers g c =
    answers_fault (texts c.args.words.now) _ (g.S.Shelf.seen c.args.shelf.now) (g.S.Shelf.seen c.ending.new.shelf)
    (g.K.Sink.seen c.args.out.now) c.ending.result io.NoMemory (c.command-command.ensures ∙ c.in-Ok.ensures)
    c.ending.ensures.follows (c.in-Err-NoMemory.is ∙ ap Err c.in-Err-NoMemory.field-0-is)

pub returns-in_default-clause-answers : goal.returns-in_default-clause-answers
returns-in_default-clause-answers g c =
    let words = texts c.args.words.now in
    let shelf = g.S.Shelf.seen c.args.shelf.now in
    answers_fault words (command_of words) shelf shelf (g.K.Sink.seen c.args.out.now) (Err io.NoMemory) io.NoMemory refl
    (follows_nothing words shelf) refl

pub returns-in-Ok-ending-clause-answers : goal.returns-in-Ok-ending-clause-answers
returns-in-Ok-ending-clause-answers g c =
    answers_delivered (texts c.args.words.now) _ _ (g.S.Shelf.seen c.args.shelf.now)
    (g.S.Shelf.seen c.ending.new.shelf) (g.S.Shelf.seen c.deliver.new.shelf) (g.K.Sink.seen c.args.out.now)
    (g.K.Sink.seen c.deliver.new.out) c.ending.result c.in-Ok-ending.ending c.deliver.result
    (c.command-command.ensures ∙ c.in-Ok.ensures) c.ending.ensures.follows c.in-Ok-ending.is c.targets.ensures
    c.deliver.ensures
