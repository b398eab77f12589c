use Rattle.std.proofs.Common.{[], ◌∷◌, ◌∙◌, ap, sym, Some, option_map}
use Rattle.fx_text.specs.Reading.{code_in}
use Rattle.fx_tool.specs.Simulate.{samples_plan}
use Rattle.fx_words.specs.declared.operand.Operand.TheVariants.{Code, Samples}
use Rattle.fx_tool.proofs.Followed.{after_read}
use Rattle.fx_tool.proofs.simulate.simulate.Goals as goal

pub returns-in-Some : goal.returns-in-Some
returns-in-Some g c =
    after_read Code (Samples ∷ []) c.args.code.now (c.args.samples.now ∷ []) (λ code. samples_plan (code_in code))
    (g.S.Shelf.seen c.args.shelf.now) (g.S.Shelf.seen c.read_operand.new.shelf)
    (g.S.Shelf.seen c.with_code.new.shelf)
    (option_map (λ bytes. bytes.items) c.in_ok-bytes.field-0) c.deref.result.now
    c.read_operand.result c.in_ok-bytes.field-0 c.with_code.result c.in_ok-bytes.was
    (ap (option_map (λ bytes. bytes.items)) c.in-Some.is ∙ ap Some (sym c.deref.ensures.value))
    c.in_ok-bytes.ensures.short c.in_ok-bytes.ensures.content c.read_operand.ensures.shelf c.with_code.ensures
