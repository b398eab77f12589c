use Rattle.std.proofs.Common.{◌≡◌, ℕ, ◌+◌, ◌*◌, ◌<◌, arith, rules, ap, sym, ◌∙◌, subst, Some, None, length, drop}
use Rattle.std.proofs.Common.{take, ◌++◌}
use Rattle.std.proofs.lemmas.List.{take_at}
use Rattle.fx_eqs.specs.declared.limits.TheConstants.{PORTS}
use Rattle.fx_net.specs.Tables.{net_of}
use Rattle.fx_sweep.specs.Gains.{input_gain}
use Rattle.fx_sweep.specs.Swept.{input_gain_at, interval_in}
use Rattle.fx_sweep.specs.Target.{start_of}
use Rattle.fx_sweep.specs.Weights.{inputs}
use Rattle.fx_sweep.specs.declared.target.Target.TheVariants.{Row}
use Rattle.fx_gain.proofs.Tried.{none_at}
use Rattle.fx_gain.proofs.Walked.{one_more_moment}
use Rattle.fx_gain.proofs.weights.weights_for.Goals as goal

pub loop-n-init : goal.loop-n-init
loop-n-init g c = record {
  swept = c.start.ensures.swept (net_of c.args.net.now);
  long = search rules;
  done = λ k j l. absurd (omega (arith, l));
}

pub unreachable-requires : goal.unreachable-requires
unreachable-requires g c =
    let inside : c.loop-n.n < c.args.moments = omega (arith, c.loop-n-test.true, c.from-n-end.ensures) in
    let none = none_at (net_of c.args.net.now) (start_of (Row c.args.row)) c.loop-n.n c.args.moments inside
    c.requires.within in
    let never : Some c.in-Err.field-0 ≡ None =
    c.in-Err.ensures.range (Row c.args.row) c.loop-n.n c.loop-n.invariant.swept ∙ none in
    cc

pub loop-n-preserved : goal.loop-n-preserved
loop-n-preserved g c =
    let net = net_of c.args.net.now in
    let start = start_of (Row c.args.row) in
    let new = c.copy_inputs.new.at in
    let swept = c.in-Ok.ensures.swept (Row c.args.row) c.loop-n.n c.loop-n.invariant.swept in
    let long : length new ≡ c.loop-n.weights.len = search rules in
    let kept : take c.loop-n.weights.len (new ++ drop (length new) c.loop-n.weights.items) ≡ new =
    take_at new (drop (length new) c.loop-n.weights.items) c.loop-n.weights.len long in
    let count : length new ≡ c.args.moments * PORTS =
    c.copy_inputs.ensures.count ∙ ap length c.deref_mut.ensures.value ∙ c.loop-n.invariant.long in
    let before : (i : ℕ) → i < c.loop-n.n * PORTS → interval_in new i ≡ interval_in c.loop-n.weights.items i =
    λ i l. c.copy_inputs.ensures.before i l ∙ ap (λ xs. interval_in xs i) c.deref_mut.ensures.value in
    record {
      swept = swept;
      long = subst (λ xs. length xs ≡ c.args.moments * PORTS) (sym kept) count;
      done = subst (λ xs. (k j : ℕ) → k < c.loop-n.n + 1 → j < PORTS →
          interval_in xs (k * PORTS + j) ≡ inputs net start k j) (sym kept)
          (one_more_moment net (Row c.args.row) c.moment.new.self c.loop-n.n c.loop-n.weights.items new swept
          c.copy_inputs.ensures.here before c.loop-n.invariant.done);
    }

pub returns : goal.returns
returns g c =
    let all : c.loop-n.n ≡ c.args.moments =
    omega (arith, c.loop-n-test.false, c.loop-n.auto.n-end, c.from-n-end.ensures) in
    let gains : input_gain_at c.loop-n.sweep
    ≡ input_gain (net_of c.args.net.now) (start_of (Row c.args.row)) c.args.moments =
    c.loop-n.invariant.swept.has_input_gains
    ∙ ap (input_gain (net_of c.args.net.now) (start_of (Row c.args.row))) all in
    record {
      long = c.loop-n.invariant.long;
      each = λ n j l port. c.loop-n.invariant.done n j (omega (arith, l, all)) port;
      small = λ j port. (let e : input_gain_at c.loop-n.sweep j
          ≡ input_gain (net_of c.args.net.now) (start_of (Row c.args.row)) c.args.moments j =
          ap (λ (f : ℕ → ℕ). f j) gains in
          let s = c.gains_fit.ensures j port in omega (arith, e, s));
    }
