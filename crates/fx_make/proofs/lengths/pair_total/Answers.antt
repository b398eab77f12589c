use Rattle.std.proofs.Common.{rules, ◌+◌, ap, ap₂, ◌∙◌, FitsSigned, to_z-of_z}
use Rattle.std.specs.Int.{w128}
use Rattle.fx_totals.specs.Kept.{bound_in, kept_total}
use Rattle.fx_make.proofs.lengths.pair_total.Goals as goal

pub returns-clause-value : goal.returns-clause-value
returns-clause-value g c =
    let fits : FitsSigned w128 c.total.result = search rules in
    to_z-of_z fits ∙ c.total.ensures.kept
    ∙ ap₂ (λ t b. kept_total c.args.totals.now t b (bound_in c.args.x.now))
    (ap (λ r. r + c.args.o) c.row_count.ensures.value) c.input_bounds.ensures.value
