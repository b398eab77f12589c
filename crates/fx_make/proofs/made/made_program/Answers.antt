use Rattle.std.proofs.Common.{◌≡◌, ◌∙◌, ap, map, length, arith, sym, subst, All}
use Rattle.std.proofs.lemmas.List.{length-map}
use Rattle.fx_math.specs.Words.{WidthFits}
use Rattle.fx_files.specs.declared.formats.OutputFormat.{OutputFormat}
use Rattle.fx_files.specs.declared.formats.InputFormat.{InputFormat}
use Rattle.fx_code.specs.Code.{IsWhole}
use Rattle.fx_totals.specs.Kept.{bound_in}
use Rattle.fx_block.specs.Made.{IsProgramOf}
use Rattle.fx_quant.specs.Design.{HasShape}
use Rattle.fx_quant.specs.Widths.{AreRowWidths}
use Rattle.fx_make.proofs.MadePrograms.{widths_in, widths_out, are_bounds, outputs_fit, widths_fit, program_of}
use Rattle.fx_make.proofs.MadePrograms.{on_value}
use Rattle.fx_make.proofs.made.made_program.Goals as goal

pub widths-requires-clause-bounds : goal.widths-requires-clause-bounds
widths-requires-clause-bounds c = are_bounds c.args.x.now c.requires.bounds

pub widths-requires-clause-outputs : goal.widths-requires-clause-outputs
widths-requires-clause-outputs c =
    let is : c.deref.result.now ≡ widths_out c.args.f.now =
    c.deref.ensures.value ∙ c.in_ok-outputs.ensures
    ∙ ap (map (λ (o : OutputFormat). o.width)) c.outputs.ensures.value in
    omega (
      arith,
      ap length is,
      length-map c.args.f.now.outputs (λ (o : OutputFormat). o.width),
      c.requires.rows.outputs,
    )

pub widths-requires-clause-output_widths : goal.widths-requires-clause-output_widths
widths-requires-clause-output_widths c =
    let is : c.deref.result.now ≡ widths_out c.args.f.now =
    c.deref.ensures.value ∙ c.in_ok-outputs.ensures
    ∙ ap (map (λ (o : OutputFormat). o.width)) c.outputs.ensures.value in
    subst (All WidthFits) (sym is) (outputs_fit c.args.f.now c.filters_fit.ensures)

pub program-requires-clause-widths : goal.program-requires-clause-widths
program-requires-clause-widths c =
    let f = c.args.f.now in
    let d = c.args.d.now in
    let outs : c.deref.result.now ≡ widths_out f =
    c.deref.ensures.value ∙ c.in_ok-outputs.ensures
    ∙ ap (map (λ (o : OutputFormat). o.width)) c.outputs.ensures.value in
    let ins : c.deref-2.result.now ≡ widths_in f =
    c.deref-2.ensures.value ∙ c.in_ok-inputs.ensures
    ∙ ap (map (λ (i : InputFormat). i.width)) c.inputs.ensures.value in
    let are : AreRowWidths (length d.rows) c.args.x.now (widths_out f) c.in_ok-widths.widths.items =
    subst (λ os. AreRowWidths (length d.rows) c.args.x.now os c.in_ok-widths.widths.items) outs
    c.in_ok-widths.ensures.widths in
    rw (c.accumulator.ensures.value, ins, c.deref-3.ensures.value)
    (widths_fit f d c.args.x.now c.in_ok-widths.widths.items c.filters_fit.ensures c.requires.rows c.requires.bounds
    c.requires.caps are c.in_ok-widths.ensures.fits)

pub program-requires-clause-outputs : goal.program-requires-clause-outputs
program-requires-clause-outputs c =
    let f = c.args.f.now in
    let outs : c.deref.result.now ≡ widths_out f =
    c.deref.ensures.value ∙ c.in_ok-outputs.ensures
    ∙ ap (map (λ (o : OutputFormat). o.width)) c.outputs.ensures.value in
    let count : c.len.result ≡ length f.outputs =
    c.len.ensures ∙ sym c.deref.ensures.len ∙ ap length outs
    ∙ length-map f.outputs (λ (o : OutputFormat). o.width) in
    record {
      few = omega (arith, count, c.filters_fit.ensures.outputs_high);
      there = omega (arith, count, c.requires.rows.outputs);
    }

pub returns-clause-made : goal.returns-clause-made
returns-clause-made c =
    let f = c.args.f.now in
    let d = c.args.d.now in
    let x = c.args.x.now in
    let widths = c.in_ok-widths.widths.items in
    let outs : c.deref.result.now ≡ widths_out f =
    c.deref.ensures.value ∙ c.in_ok-outputs.ensures
    ∙ ap (map (λ (o : OutputFormat). o.width)) c.outputs.ensures.value in
    let ins : c.deref-2.result.now ≡ widths_in f =
    c.deref-2.ensures.value ∙ c.in_ok-inputs.ensures
    ∙ ap (map (λ (i : InputFormat). i.width)) c.inputs.ensures.value in
    let count : c.len.result ≡ length (widths_out f) =
    c.len.ensures ∙ sym c.deref.ensures.len ∙ ap length outs in
    let are : AreRowWidths (length d.rows) x (widths_out f) widths =
    subst (λ os. AreRowWidths (length d.rows) x os widths) outs c.in_ok-widths.ensures.widths in
    on_value c.program.result _ _ (IsProgramOf f d.rows (bound_in x))
    (λ p e shape. program_of f d x widths p c.requires.rows c.requires.bounds are
    (rw (← c.accumulator.ensures.value, ← ins, ← c.deref-3.ensures.value, ← count) e)
    (subst (λ k. HasShape d widths k p) count
    (subst (λ ws. HasShape d ws c.len.result p) c.deref-3.ensures.value shape)))
    c.program.ensures.ok c.program.ensures.shape

pub returns-clause-whole : goal.returns-clause-whole
returns-clause-whole c =
    let outs : c.deref.result.now ≡ widths_out c.args.f.now =
    c.deref.ensures.value ∙ c.in_ok-outputs.ensures
    ∙ ap (map (λ (o : OutputFormat). o.width)) c.outputs.ensures.value in
    let count : c.len.result ≡ length c.args.f.now.outputs =
    c.len.ensures ∙ sym c.deref.ensures.len ∙ ap length outs
    ∙ length-map c.args.f.now.outputs (λ (o : OutputFormat). o.width) in
    on_value c.program.result _ _ IsWhole
    (λ p some again. some (omega (arith, count, c.filters_fit.ensures.outputs_low)))
    c.program.ensures.whole c.program.ensures.whole
