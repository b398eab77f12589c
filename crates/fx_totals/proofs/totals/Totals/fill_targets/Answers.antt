use Rattle.std.proofs.Common.{◌≡◌, Some, arith, ◌∙◌, sym, length}
use Rattle.std.proofs.lemmas.Grind.{common_steps}
use Rattle.fx_net.specs.Tables.{net_of}
use Rattle.fx_totals.proofs.totals.Totals.fill_targets.Goals as goal
use Rattle.fx_totals.specs.Filled.{told_by}
use Rattle.fx_totals.proofs.Kept.{held_next, moments_grow, moments_more, no_range_more, range_read, target_range_stays}

pub returns-in_err-fill_target-clause-range : goal.returns-in_err-fill_target-clause-range
returns-in_err-fill_target-clause-range g c =
    let same : told_by c.from_residual.result ≡ Some c.in_err-fill_target.field-0.0 = grind (arith, common_steps) in
    let here = range_read (net_of c.args.net.now) c.args.targets.now c.args.lengths.now c.loop-t.t
    c.target_at.result c.length_at.result c.target_at.ensures c.length_at.ensures in
    same ∙ sym (target_range_stays (net_of c.args.net.now) c.args.targets.now c.args.lengths.now c.loop-t.t
    (length c.args.targets.now) c.in_err-fill_target.field-0.0 c.loop-t-test.true
    c.loop-t.invariant.none (sym (c.in_err-fill_target.ensures.range ∙ here)))

pub returns-in_err-fill_target-clause-made : goal.returns-in_err-fill_target-clause-made
returns-in_err-fill_target-clause-made g c =
    omega (
      arith,
      c.loop-t.invariant.made,
      c.fill_target.ensures.made,
      c.length_at.ensures,
      moments_grow c.args.lengths.now c.loop-t.t (length c.args.targets.now) c.loop-t-test.true,
    )

pub loop-t-preserved : goal.loop-t-preserved
loop-t-preserved g c =
    let here = range_read (net_of c.args.net.now) c.args.targets.now c.args.lengths.now c.loop-t.t
    c.target_at.result c.length_at.result c.target_at.ensures c.length_at.ensures in
    record {
      size = sym c.fill_target.ensures.earlier.sizes ∙ c.loop-t.invariant.size;
      filled = c.fill_target.ensures.filled ∙ c.loop-t.invariant.filled;
      none = no_range_more (net_of c.args.net.now) c.args.targets.now c.args.lengths.now c.loop-t.t
          c.loop-t.invariant.none (sym (c.in_ok-fill_target.ensures.range ∙ here));
      held = held_next (net_of c.args.net.now) c.args.targets.now c.args.lengths.now c.loop-t.t c.loop-t.self
          c.fill_target.new.self c.target_at.result c.length_at.result
          c.target_at.ensures c.length_at.ensures (c.nets_fit.ensures.rows ∙ sym c.loop-t.invariant.size)
          c.fill_target.ensures.earlier c.loop-t.invariant.held c.in_ok-fill_target.ensures.held;
      made = omega (
        arith,
        c.loop-t.invariant.made,
        c.fill_target.ensures.made,
        c.length_at.ensures,
        moments_more c.args.lengths.now c.loop-t.t,
      );
    }
