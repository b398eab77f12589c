use Rattle.std.proofs.Common.{rules, ◌≡◌, ◌∙◌, ◌<◌, Some, Err, sym}
use Rattle.fx_net.specs.Tables.{net_of}
use Rattle.fx_sweep.specs.Range.{range_at}
use Rattle.fx_sweep.specs.Target.{start_of}
use Rattle.fx_sweep.specs.declared.target.Target.TheVariants.{Row}
use Rattle.fx_bench.specs.Sweeping.{gain_or_range}
use Rattle.fx_bench.proofs.FirstMet.{range_met}
use Rattle.fx_bench.proofs.sweep.swept_gain.Goals as goal

pub loop-init : goal.loop-init
loop-init g c = c.start.ensures.swept (net_of c.args.net.now)

pub returns-in_err-moment : goal.returns-in_err-moment
returns-in_err-moment g c =
    let net = net_of c.args.net.now in
    let target = Row c.args.row in
    let met = c.in_err-moment.field-0.0 in
    let here : range_at net (start_of target) c.loop.counter ≡ Some met =
    sym (c.in_err-moment.ensures.range target c.loop.counter c.loop.invariant) in
    let less : c.loop.counter < c.args.moments = search rules in
    let law : Err met ≡ gain_or_range net target c.args.moments =
    range_met net target met c.loop.counter c.args.moments less c.loop.invariant.within here in
    let same : c.from_residual.result ≡ Err met = search rules in
    same ∙ law
