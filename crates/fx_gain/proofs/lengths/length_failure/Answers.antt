use Rattle.std.proofs.Common.{◌≡◌, arith, ap, sym, ◌∙◌, subst, length, replicate}
use Rattle.fx_eqs.specs.Equations.{Equations}
use Rattle.fx_eqs.specs.Expanded.{expanded}
use Rattle.fx_net.specs.Tables.{net_of}
use Rattle.fx_totals.specs.Filled.{CanBeFilled}
use Rattle.fx_gain.specs.Lengths.{original_count}
use Rattle.fx_gain.specs.Rows.{row_targets}
use Rattle.fx_gain.proofs.Listed.{range_met, rows_can_be_filled}
use Rattle.fx_gain.proofs.Tried.{failed_range, passed_range}
use Rattle.fx_gain.proofs.lengths.length_failure.Goals as goal

pub fill-requires : goal.fill-requires
fill-requires g c =
    let n = original_count c.args.f.now in
    let count : c.net_rows-count.result ≡ n = c.net_rows-count.ensures.value
    ∙ ap (λ (e : Equations). length (expanded e)) c.eqs.ensures.value in
    let rows : c.deref.result.now ≡ row_targets n =
    c.deref.ensures.value ∙ c.in_ok-targets.ensures ∙ ap row_targets count in
    let same : c.deref-2.result.now ≡ replicate n c.args.moments =
    c.deref-2.ensures.value ∙ c.in_ok-lengths.ensures ∙ ap (λ i. replicate i c.args.moments) count in (
      omega arith,
      (
        omega arith,
        (
          omega arith,
          subst (λ ts. CanBeFilled g.row.N ts c.deref-2.result.now) (sym rows)
              (subst (CanBeFilled g.row.N (row_targets n)) (sym same)
              (rows_can_be_filled g.row.N n c.args.moments c.requires.inside c.requires.some c.requires.short)),
        ),
      ),
    )

pub returns-clause-failure : goal.returns-clause-failure
returns-clause-failure g c =
    let n = original_count c.args.f.now in
    let count : c.net_rows-count.result ≡ n = c.net_rows-count.ensures.value
    ∙ ap (λ (e : Equations). length (expanded e)) c.eqs.ensures.value in
    let rows : c.deref.result.now ≡ row_targets n =
    c.deref.ensures.value ∙ c.in_ok-targets.ensures ∙ ap row_targets count in
    let same : c.deref-2.result.now ≡ replicate n c.args.moments =
    c.deref-2.ensures.value ∙ c.in_ok-lengths.ensures ∙ ap (λ i. replicate i c.args.moments) count in
    failed_range (net_of c.args.net.now) c.args.f.now c.args.moments c.in-Err.range
    (sym (c.in-Err.ensures.range
    ∙ range_met (net_of c.args.net.now) n c.args.moments c.deref.result.now c.deref-2.result.now rows same))

pub returns-in-Ok-clause-failure : goal.returns-in-Ok-clause-failure
returns-in-Ok-clause-failure g c =
    let n = original_count c.args.f.now in
    let count : c.net_rows-count.result ≡ n = c.net_rows-count.ensures.value
    ∙ ap (λ (e : Equations). length (expanded e)) c.eqs.ensures.value in
    let rows : c.deref.result.now ≡ row_targets n =
    c.deref.ensures.value ∙ c.in_ok-targets.ensures ∙ ap row_targets count in
    let same : c.deref-2.result.now ≡ replicate n c.args.moments =
    c.deref-2.ensures.value ∙ c.in_ok-lengths.ensures ∙ ap (λ i. replicate i c.args.moments) count in
    c.bounds_failure.ensures
    ∙ passed_range (net_of c.args.net.now) c.args.f.now c.args.moments
    (sym (c.in-Ok.ensures.range
    ∙ range_met (net_of c.args.net.now) n c.args.moments c.deref.result.now c.deref-2.result.now rows same))
