use Rattle.std.proofs.Common.{◌≡◌, ◌∙◌, arith, ap}
use Rattle.std.proofs.lemmas.List.{get_or_default}
use Rattle.fx_files.specs.declared.formats.OutputFormat.{OutputFormat}
use Rattle.fx_block.specs.Formats.{output_at}
use Rattle.fx_gain.proofs.Holding.{row_inside}
use Rattle.fx_gain.proofs.block.Block.output_row.Goals as goal

pub returns-clause-inside : goal.returns-clause-inside
returns-clause-inside g c =
    let f = c.args.self.now.filter.now in
    let system = rw c.eqs-eqs.ensures.value at c.systems_fit.ensures in
    let inside = row_inside f c.filters_fit.ensures system c.args.o c.requires in
    let first = rw c.eqs-eqs.ensures.value at c.first_row.ensures in
    let row : c.output.result.row ≡ (output_at f c.args.o).row =
    ap (λ (o : OutputFormat). o.row) (c.output.ensures.value ∙ get_or_default f.outputs c.args.o _ _ c.requires) in
    omega (arith, inside, first, row, c.from.ensures)
