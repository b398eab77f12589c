use Rattle.std.proofs.Common.{◌∙◌, ap, sym}
use Rattle.fx_tool.specs.Answer.{Answer}
use Rattle.fx_words.specs.Command.{texts}
use Rattle.fx_tool.specs.Ending.{contents_of}
use Rattle.fx_tool.proofs.Placed.{places_none}
use Rattle.fx_tool.proofs.ending.Ending.place.Goals as goal

pub returns-in-None : goal.returns-in-None
returns-in-None g c =
    places_none (texts c.args.names.now) c.args.self.now.placed (g.S.Shelf.seen c.args.shelf.now)
    (ap (λ (a : Answer). a.placed) (sym c.self.view_is) ∙ ap contents_of c.in-None.is)
