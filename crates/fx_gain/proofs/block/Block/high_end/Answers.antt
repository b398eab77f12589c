use Rattle.std.proofs.Common.{◌≡◌, ◌<◌, FitsSigned, replicate, rules, subst}
use mir.Syntax.{w128}
use Rattle.std.proofs.lemmas.Int.{to_z-of_z}
use Rattle.fx_net.specs.Tables.{net_of}
use Rattle.fx_sweep.specs.Target.{start_of}
use Rattle.fx_totals.specs.Filled.{length_in, target_in}
use Rattle.fx_totals.specs.Kept.{bound_in}
use Rattle.fx_totals.specs.Totals.{target_total}
use Rattle.fx_gain.specs.Enclosing.{output_row}
use Rattle.fx_gain.specs.Lengths.{original_count}
use Rattle.fx_gain.specs.Rows.{row_targets}
use Rattle.fx_gain.proofs.Made.{high_is}
use Rattle.fx_gain.proofs.block.Block.high_end.Goals as goal

pub returns : goal.returns
returns g c =
    let net = net_of c.args.self.now.net.now in
    let f = c.args.self.now.filter.now in
    let m = c.args.self.now.moments in
    let k = c.args.self.now.totals.now in
    let n = original_count f in
    let fits : FitsSigned w128 c.total.result = search rules in
    let inside : output_row f c.args.o < n =
    rw c.output_row-row.ensures.value at c.output_row-row.ensures.inside in
    let at : c.total.result ≡ target_total net (start_of (target_in (row_targets n) c.output_row-row.result))
    (length_in (replicate n m) c.output_row-row.result) (bound_in c.bounds_alone.result) (bound_in c.args.x.now) =
    c.total.ensures.total net (row_targets n) (replicate n m) c.args.self.now.serves.filled in
    let total = subst (λ r. c.total.result ≡ target_total net (start_of (target_in (row_targets n) r))
    (length_in (replicate n m) r) (bound_in c.bounds_alone.result) (bound_in c.args.x.now))
    c.output_row-row.ensures.value at in
    rw (to_z-of_z w128 c.total.result fits)
    (high_is net f k m c.args.o c.args.j c.bounds_alone.result c.args.x.now c.total.result inside
    c.bounds_alone.ensures.value c.requires.alone total)
