use Rattle.std.proofs.Common.{◌≡◌, map, take}
use Rattle.fx_files.specs.declared.formats.OutputFormat.{OutputFormat}
use Rattle.fx_make.proofs.made.output_widths.Given as goal

abbrev pub invariant-loop-output : goal.invariant-loop-output
invariant-loop-output l =
    l.widths.items ≡ map (λ (f : OutputFormat). f.width) (take l.output-index l.outputs)
