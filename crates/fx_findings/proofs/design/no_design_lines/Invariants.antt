use Rattle.std.proofs.Common.{◌≡◌, ◌++◌, drop, codes}
use Rattle.std.specs.List.{flat_map}
use Rattle.fx_findings.specs.Designs.{failed_line}
use Rattle.fx_findings.proofs.design.no_design_lines.Given as goal

abbrev pub invariant-loop-failed : goal.invariant-loop-failed
invariant-loop-failed l = l.text.items ++ flat_map failed_line (drop l.failed-index l.fails)
    ≡ codes "no design\n" ++ flat_map failed_line l.fails
