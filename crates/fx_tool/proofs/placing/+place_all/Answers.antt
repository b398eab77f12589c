use Rattle.std.proofs.Common.{sym, subst, drop, take, length, ◌-◌, refl, Ok, ◌∙◌, ap, String, Global}
use Rattle.std.specs.String.{string_bytes}
use Rattle.fx_words.specs.Command.{texts}
use Rattle.fx_tool.specs.Placing.{placings, PlacesAll}
use Rattle.fx_tool.proofs.Placed.{contents_in, first_placing, then_others}
use Rattle.fx_tool.proofs.placing.+place_all.Goals as goal

pub returns-in_ok-place-in-len1-up-contents : goal.returns-in_ok-place-in-len1-up-contents
returns-in_ok-place-in-len1-up-contents g t c =
    let names = c.args.names.now in
    let contents = c.args.contents.now in
    let is = first_placing names contents _ _ c.as_str.result.now
    (c.as_str.ensures.value ∙ ap (λ (s : String Global). string_bytes s) c.name-item.is) c.in-len1-up.len_at_least
    c.in-len1-up-contents.len_at_least in
    subst (λ ps. PlacesAll ps (g.S.Shelf.seen c.args.shelf.now) (g.S.Shelf.seen c.place_all.new.shelf)
    c.place_all.result) (sym is)
    (then_others _ _ (placings (texts (take (length names - 1) (drop 1 names)))
    (contents_in (take (length contents - 1) (drop 1 contents)))) (g.S.Shelf.seen c.args.shelf.now)
    (g.S.Shelf.seen c.place.new.self) (g.S.Shelf.seen c.place_all.new.shelf) (Ok tt) c.place_all.result
    refl c.in_ok-place-in-len1-up-contents.ensures c.place_all.ensures)
