use Rattle.std.proofs.Common.{[], ◌∷◌, ◌∙◌, ap, sym, Some, option_map}
use Rattle.fx_files.specs.Reading.{filter_of_bytes}
use Rattle.fx_tool.specs.Check.{filter_plan}
use Rattle.fx_words.specs.declared.operand.Operand.TheVariants as operand
use Rattle.fx_tool.proofs.Followed.{after_read}
use Rattle.fx_tool.proofs.check.check.Goals as goal

pub returns-in-Some-clause-follows : goal.returns-in-Some-clause-follows
returns-in-Some-clause-follows g c =
    after_read operand.Filter (operand.Code ∷ operand.Certificate ∷ []) c.args.filter.now
    (c.args.code.now ∷ c.args.cert.now ∷ []) (λ filter. filter_plan c.args.detail (filter_of_bytes filter))
    (g.S.Shelf.seen c.args.shelf.now) (g.S.Shelf.seen c.read_operand.new.shelf)
    (g.S.Shelf.seen c.with_file.new.shelf)
    (option_map (λ bytes. bytes.items) c.in_ok-bytes.field-0) c.deref.result.now
    c.read_operand.result c.in_ok-bytes.field-0 c.with_file.result c.in_ok-bytes.was
    (ap (option_map (λ bytes. bytes.items)) c.in-Some.is ∙ ap Some (sym c.deref.ensures.value))
    c.in_ok-bytes.ensures.short c.in_ok-bytes.ensures.content c.read_operand.ensures.shelf c.with_file.ensures.follows
