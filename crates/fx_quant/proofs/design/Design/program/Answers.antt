use Rattle.std.proofs.Common.{◌∙◌, ap, length, arith, subst, sym}
use Rattle.fx_code.specs.Code.{IsWhole}
use Rattle.fx_quant.specs.Design.{HasShape}
use Rattle.fx_quant.proofs.Programs.{sized_count, program_is, has_shape, is_whole}
use Rattle.fx_quant.proofs.design.Design.program.Goals as goal

pub add_outputs-requires-clause-there : goal.add_outputs-requires-clause-there
add_outputs-requires-clause-there c =
    let d = c.args.self.now in
    let count = ap (λ p. length p.rows) c.in_ok-add_rows.ensures
    ∙ sized_count c.args.widths.now d.rows (length d.rows) in
    omega (arith, count, c.requires.outputs.there)

pub returns-clause-ok : goal.returns-clause-ok
returns-clause-ok c =
    program_is c.args.self.now c.args.accumulator c.args.input_widths.now c.args.widths.now c.args.outputs
    c.in_ok-program.program c.add_rows.new.program c.add_outputs.new.program c.in_ok-program.ensures
    c.in_ok-add_rows.ensures c.in_ok-add_outputs.ensures

pub returns-clause-shape : goal.returns-clause-shape
returns-clause-shape c =
    subst (HasShape c.args.self.now c.args.widths.now c.args.outputs) (sym (returns-clause-ok c))
    (has_shape c.args.self.now c.args.accumulator c.args.input_widths.now c.args.widths.now c.args.outputs)

pub returns-clause-whole : goal.returns-clause-whole
returns-clause-whole c =
    λ some. subst IsWhole (sym (returns-clause-ok c))
    (is_whole c.args.self.now c.args.accumulator c.args.input_widths.now c.args.widths.now c.args.outputs
    c.requires.design some)
