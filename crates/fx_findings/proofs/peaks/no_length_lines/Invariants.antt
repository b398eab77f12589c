use Rattle.std.proofs.Common.{◌≡◌, ◌++◌, drop, codes}
use Rattle.std.specs.List.{flat_map}
use Rattle.fx_findings.specs.Peaks.{length_line}
use Rattle.fx_gain.specs.declared.fails.LengthFail.{LengthFail}
use Rattle.fx_findings.proofs.peaks.no_length_lines.Given as goal

abbrev pub invariant-loop-fail : goal.invariant-loop-fail
invariant-loop-fail l =
    l.text.items ++ flat_map (λ (f : LengthFail). length_line f.length f.input f.why) (drop l.fail-index l.fails)
    ≡ codes "no design\n" ++ flat_map (λ (f : LengthFail). length_line f.length f.input f.why) l.fails
