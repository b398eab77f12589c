use Rattle.std.proofs.Common.{◌≡◌, ◌∙◌, refl, subst, sym}
use Rattle.fx_net.specs.Tables.{net_of}
use Rattle.fx_totals.specs.Filled.{target_in}
use Rattle.fx_totals.specs.Series.{IsSoFar, KeptAtLength}
use Rattle.fx_totals.proofs.SoFar.{moment_kept}
use Rattle.fx_totals.proofs.at_length.AtLength.keep.Goals as goal

pub returns-then-self-moments : goal.returns-then-self-moments
returns-then-self-moments g c targets wanted m next swept so_far =
    let before : KeptAtLength = record {
      moments = c.self.inside.moments;
      kept = c.self.inside.totals;
      range = c.self.inside.range;
    } in
    let after : KeptAtLength = record before { kept = c.keep.new.self } in
    let net = net_of c.args.net.now in
    let was = subst (λ (p : KeptAtLength). IsSoFar p net targets wanted c.args.t m) (sym c.self.view_is) so_far in
    let last : wanted ≡ c.args.moments = sym was.wanted_is ∙ c.if-self-moments.true in
    moment_kept net targets wanted c.args.t m before after c.args.moments last refl refl
    (c.nets_fit.ensures.rows ∙ sym c.totals_fit.ensures.size) c.keep.ensures.earlier
    (c.keep.ensures.held (target_in targets c.args.t) c.args.moments swept) was
