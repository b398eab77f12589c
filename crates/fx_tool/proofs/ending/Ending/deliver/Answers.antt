use Rattle.std.proofs.Common.{Err, ◌∙◌, ap, sym}
use Rattle.fx_tool.specs.Answer.{Answer}
use Rattle.fx_words.specs.Command.{texts}
use Rattle.fx_tool.specs.Placing.{placings}
use Rattle.fx_tool.proofs.Placed.{not_delivered, not_delivered_memory, spoken_text}
use Rattle.fx_tool.proofs.ending.Ending.deliver.Goals as goal

pub returns-in-Err-Failed : goal.returns-in-Err-Failed
returns-in-Err-Failed g c =
    not_delivered c.args.self.now (placings (texts c.args.names.now) c.args.self.now.placed)
    (g.S.Shelf.seen c.args.shelf.now) (g.S.Shelf.seen c.place.new.shelf) (g.K.Sink.seen c.args.out.now) c.place.result
    (c.in-Err-Failed.is ∙ ap Err c.in-Err-Failed.field-0-is)
    (spoken_text c.args.self.now c.self.inside.status c.self.invariant
    (ap (λ (a : Answer). a.status) (sym c.self.view_is))).0 c.place.ensures

pub returns-in-Err-NoMemory : goal.returns-in-Err-NoMemory
returns-in-Err-NoMemory g c =
    not_delivered_memory c.args.self.now (placings (texts c.args.names.now) c.args.self.now.placed)
    (g.S.Shelf.seen c.args.shelf.now) (g.S.Shelf.seen c.place.new.shelf) (g.K.Sink.seen c.args.out.now) c.place.result
    (c.in-Err-NoMemory.is ∙ ap Err c.in-Err-NoMemory.field-0-is)
    (spoken_text c.args.self.now c.self.inside.status c.self.invariant
    (ap (λ (a : Answer). a.status) (sym c.self.view_is))).1 c.place.ensures
