use Rattle.std.proofs.Common.{◌∙◌, sym}
use Rattle.std.proofs.lemmas.List.{take_all}
use Rattle.std.proofs.lemmas.List.Elements.{All-more}
use Rattle.fx_files.specs.Fits.{EntryAgrees}
use Rattle.fx_files.proofs.OutputsAgree.{output_passed}
use Rattle.fx_files.proofs.ports.outputs_fit.Goals as goal

pub loop-output-preserved : goal.loop-output-preserved
loop-output-preserved c =
    let low = c.args.ports.now.inputs.low in
    let bits = c.args.accumulator in
    let outputs = c.as_slice-outputs.result.now in
    let i = c.loop-output.output-index in
    let o = c.output-item.result in
    record {
      reads = sym (output_passed low bits i outputs o c.loop-output-test.true c.output-item.is
          (sym c.in_ok-output_fits.ensures.gives)) ∙ c.loop-output.invariant.reads;
      within = All-more (EntryAgrees low bits) outputs i o c.loop-output-test.true
          c.loop-output.invariant.within (rw (← c.output-item.is) c.in_ok-output_fits.ensures.within);
    }

pub returns-clause-within : goal.returns-clause-within
returns-clause-within c =
    let all = rw (take_all c.loop-output.output-index c.as_slice-outputs.result.now c.loop-output-test.false)
    at c.loop-output.invariant.within in
    rw c.as_slice-outputs.ensures.value at all
