use Rattle.std.proofs.Common.{◌≡◌, ◌≤◌, ◌∙◌, arith, refl, subst, sym}
use Rattle.fx_net.specs.Tables.{net_of}
use Rattle.fx_sweep.specs.Swept.{Swept}
use Rattle.fx_sweep.specs.declared.limits.TheConstants.{GREATEST_LENGTH}
use Rattle.fx_totals.proofs.series.sweep_target.Goals as goal
use Rattle.fx_totals.specs.Filled.{length_in, target_in}
use Rattle.fx_totals.proofs.SoFar.{all_passed, want_up_to}

pub loop-moments-init : goal.loop-moments-init
loop-moments-init g c =
    record {
      long = refl;
      swept = subst (λ target. Swept c.start.new.self (net_of c.args.net.now) target 0) c.target_at.ensures
          (c.start.ensures.swept (net_of c.args.net.now));
      so_far = c.requires.before;
      made = omega arith;
      few = omega arith;
    }

pub moments-requires : goal.moments-requires
moments-requires g c =
    let short : c.longest-longest.result ≤ GREATEST_LENGTH =
    c.longest-longest.ensures.few GREATEST_LENGTH
    (want_up_to c.args.parts.now (net_of c.args.net.now) c.args.targets.now c.args.lengths.now c.args.t 0
    GREATEST_LENGTH c.requires.before c.requires.can.short) in (
      omega (arith, c.next_length-next.ensures.more),
      (
        omega (arith, c.next_length-next.ensures.more),
        omega (
          arith,
          short,
          c.next_length-next.ensures.inside,
          c.next_length-next.ensures.more,
          c.loop-moments.invariant.swept.counted,
        ),
      ),
    )

pub returns-in-Err-clause-after : goal.returns-in-Err-clause-after
returns-in-Err-clause-after g c l inside =
    c.refuse_each.ensures.refused l inside (net_of c.args.net.now) c.args.targets.now (length_in c.args.lengths.now l)
    c.requires.target c.loop-moments.invariant.swept.within
    (sym (c.in-Err.ensures.range (target_in c.args.targets.now c.args.t) c.loop-moments.moments
    c.loop-moments.invariant.swept)) (c.loop-moments.invariant.so_far l inside)

pub returns-in-Err-clause-made : goal.returns-in-Err-clause-made
returns-in-Err-clause-made g c most bound =
    omega (
      arith,
      c.loop-moments.invariant.made,
      c.moments.ensures.made,
      c.start.ensures.made,
      c.loop-moments-test.true,
      c.longest-longest.ensures.few most (want_up_to c.args.parts.now (net_of c.args.net.now) c.args.targets.now
          c.args.lengths.now c.args.t 0 most c.requires.before bound),
    )

pub loop-moments-preserved : goal.loop-moments-preserved
loop-moments-preserved g c =
    let net = net_of c.args.net.now in
    let swept = c.in-Ok.ensures.swept (target_in c.args.targets.now c.args.t) c.loop-moments.moments
    c.loop-moments.invariant.swept in
    record {
      long = c.keep_each.ensures.count ∙ c.loop-moments.invariant.long;
      swept = swept;
      so_far = λ l inside. c.keep_each.ensures.kept l inside c.args.targets.now (length_in c.args.lengths.now l)
          c.loop-moments.moments
          (λ less. omega (
            arith,
            c.in-Ok.ensures.few,
            c.next_length-next.ensures.next l inside less,
            c.next_length-next.ensures.more,
          )) swept (c.loop-moments.invariant.so_far l inside);
      made = omega (arith, c.loop-moments.invariant.made, c.moments.ensures.made, c.in-Ok.ensures.some);
      few = omega (arith, c.in-Ok.ensures.few, c.next_length-next.ensures.inside, c.next_length-next.ensures.more);
    }

pub returns-clause-after : goal.returns-clause-after
returns-clause-after g c =
    let all : c.longest-longest.result ≡ c.loop-moments.moments =
    omega (arith, c.loop-moments-test.false, c.loop-moments.invariant.few) in
    all_passed c.args.parts.now c.loop-moments.parts (net_of c.args.net.now) c.args.targets.now c.args.lengths.now
    c.args.t c.loop-moments.moments c.requires.target c.loop-moments.invariant.swept.within
    (λ l inside none. omega (arith, all, c.longest-longest.ensures.covers l inside none)) c.requires.before
    c.loop-moments.invariant.so_far

pub returns-clause-made : goal.returns-clause-made
returns-clause-made g c most bound =
    omega (
      arith,
      c.loop-moments.invariant.made,
      c.start.ensures.made,
      c.loop-moments.invariant.few,
      c.longest-longest.ensures.few most (want_up_to c.args.parts.now (net_of c.args.net.now) c.args.targets.now
          c.args.lengths.now c.args.t 0 most c.requires.before bound),
    )
