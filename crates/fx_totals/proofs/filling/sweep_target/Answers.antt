use Rattle.std.proofs.Common.{◌≡◌, None, Some, arith, ◌∙◌, sym, subst}
use Rattle.std.proofs.lemmas.Grind.{common_steps}
use Rattle.fx_net.specs.Tables.{net_of}
use Rattle.fx_sweep.specs.Range.{first_range_in}
use Rattle.fx_sweep.specs.Swept.{Swept, range_of}
use Rattle.fx_sweep.specs.Target.{start_of}
use Rattle.fx_totals.proofs.filling.sweep_target.Goals as goal
use Rattle.fx_totals.proofs.Kept.{range_stays}

pub loop-done-init : goal.loop-done-init
loop-done-init g c = record {
  swept = c.start.ensures.swept (net_of c.args.net.now);
  made = omega (arith, c.start.ensures.made);
  few = omega arith;
}

pub returns-in_err-done-clause-range : goal.returns-in_err-done-clause-range
returns-in_err-done-clause-range g c =
    let same : range_of c.from_residual.result ≡ Some c.in_err-done.field-0.0 = grind (arith, common_steps) in
    same ∙ sym (range_stays (net_of c.args.net.now) (start_of c.args.target) c.loop-done.done c.args.moments
    c.in_err-done.field-0.0 c.loop-done-test.true
    c.loop-done.invariant.swept.within
    (sym (c.in_err-done.ensures.range c.args.target c.loop-done.done c.loop-done.invariant.swept)))

pub loop-done-preserved : goal.loop-done-preserved
loop-done-preserved g c = record {
  swept = c.in_ok-done.ensures.swept c.args.target c.loop-done.done c.loop-done.invariant.swept;
  made = omega (arith, c.loop-done.invariant.made, c.moments.ensures.made, c.in_ok-done.ensures.some);
  few = omega (arith, c.in_ok-done.ensures.few, c.loop-done-test.true);
}

pub returns-clause-range : goal.returns-clause-range
returns-clause-range g c =
    let all : c.loop-done.done ≡ c.args.moments = omega (arith, c.loop-done-test.false, c.loop-done.invariant.few) in
    sym (subst (λ n. first_range_in (net_of c.args.net.now) (start_of c.args.target) n ≡ None) all
    c.loop-done.invariant.swept.within)

pub returns-clause-swept : goal.returns-clause-swept
returns-clause-swept g c =
    let all : c.loop-done.done ≡ c.args.moments = omega (arith, c.loop-done-test.false, c.loop-done.invariant.few) in
    subst (λ n. Swept c.loop-done.sweep (net_of c.args.net.now) c.args.target n) all c.loop-done.invariant.swept
