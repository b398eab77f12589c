use Rattle.std.proofs.Common.{rules, FitsSigned}
use Rattle.std.specs.Int.{w128}
use Rattle.std.proofs.lemmas.Int.{to_z-of_z}
use Rattle.fx_findings.proofs.design.put_above.Goals as goal

-- both numbers are in the range of their type
pub returns : goal.returns
returns c =
    let left : FitsSigned w128 c.args.total = search rules in
    let right : FitsSigned w128 c.args.target = search rules in
    rw (to_z-of_z w128 c.args.total left, to_z-of_z w128 c.args.target right) at c.put_compared.ensures
