use Rattle.std.proofs.Common.{◌≡◌, map, take}
use Rattle.fx_files.specs.declared.formats.InputFormat.{InputFormat}
use Rattle.fx_make.proofs.made.input_widths.Given as goal

abbrev pub invariant-loop-input : goal.invariant-loop-input
invariant-loop-input l =
    l.widths.items ≡ map (λ (f : InputFormat). f.width) (take l.input-index l.inputs)
