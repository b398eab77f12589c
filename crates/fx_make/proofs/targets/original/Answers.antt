use Rattle.std.proofs.Common.{◌≡◌, ◌≤◌, ◌∙◌, length, ap, arith, subst}
use Rattle.fx_eqs.specs.Equations.{Equations}
use Rattle.fx_eqs.specs.Expanded.{expanded, row_place}
use Rattle.fx_eqs.proofs.Expanding.{length-expanded}
use Rattle.fx_eqs.specs.Fits.{EquationsFit}
use Rattle.fx_eqs.specs.declared.limits.TheConstants.{NET_ROWS}
use Rattle.fx_files.specs.declared.formats.OutputFormat.{OutputFormat}
use Rattle.fx_block.specs.Formats.{output_at}
use Rattle.fx_make.proofs.Outputs.{original_inside}
use Rattle.fx_make.proofs.targets.original.Goals as goal

pub overflow_cast-result : goal.overflow_cast-result
overflow_cast-result c =
    let system : EquationsFit c.args.f.now.equations =
    subst EquationsFit c.eqs-eqs.ensures.value c.systems_fit.ensures in
    let inside = original_inside c.args.f.now c.args.d.now.rows c.filters_fit.ensures system c.args.o
    c.requires.output in
    let row : c.output.result.row ≡ (output_at c.args.f.now c.args.o).row =
    ap (λ (format : OutputFormat). format.row) c.output.ensures.value in
    let place : c.first_row.result ≡ row_place c.args.f.now.equations 0 =
    c.first_row.ensures.value ∙ ap (λ (s : Equations). row_place s 0) c.eqs-eqs.ensures.value in
    let long : length (expanded c.args.f.now.equations) ≤ NET_ROWS =
    (let fits = system.net_high in omega (arith, fits, length-expanded c.args.f.now.equations)) in
    (let few = c.requires.rows.fits.rows_high in omega (arith, inside, row, place, long, few))
