use Rattle.std.proofs.Common.{◌≡◌, ℕ, ◌+◌, ◌-◌, ◌≤◌, arith, rules, ap, sym, ◌∙◌, subst, true, false}
use Rattle.std.proofs.lemmas.Grind.{common_steps}
use Rattle.fx_totals.specs.Kept.{AreBounds, bound_in}
use Rattle.fx_block.specs.Raising.{raises_by}
use Rattle.fx_block.specs.Told.{Tells, is_slow, kept_raise}
use Rattle.fx_block.proofs.Ended.{found_least, found_none}
use Rattle.fx_block.proofs.Raised.{begins, ends_after, raise_past, raised_again, told_least}
use Rattle.fx_block.proofs.least.least_bounds.Goals as goal

pub loop-init : goal.loop-init
loop-init g c = record {
  count = search rules;
  room = search rules;
  fits = c.clear.ensures.fits;
  past = λ j l. c.clear.ensures.zero j;
  same = begins (kept_raise c.args.t.now c.rows-rows.result (bound_in c.args.bounds.now))
      c.rows-rows.result (bound_in c.args.caps.now) (bound_in c.clear.new.x) c.clear.ensures.zero;
}

pub returns-then-not-is_slow-clause-end : goal.returns-then-not-is_slow-clause-end
returns-then-not-is_slow-clause-end g c net targets lengths filled =
    let stop : is_slow c.raise_once-least.result ≡ false = grind (arith, common_steps) in
    told_least c.args.t.now net targets lengths filled (bound_in c.args.bounds.now) (bound_in c.args.caps.now)
    (bound_in c.loop.x) c.rows-rows.result c.raise_once-least.result
    c.rows-rows.ensures.value
    (ends_after (kept_raise c.args.t.now c.rows-rows.result (bound_in c.args.bounds.now))
    c.rows-rows.result (bound_in c.args.caps.now) c.loop.counter (bound_in c.loop.x)
    c.raise_once-least.result stop c.raise_once-least.ensures.tells c.loop.invariant.same)

pub loop-preserved : goal.loop-preserved
loop-preserved g c =
    let slow : is_slow c.raise_once-least.result ≡ true = grind (arith, common_steps) in
    let copied : c.copy_from_slice.new.self ≡ c.raise_once-least.new.next = c.copy_from_slice.ensures.after in
    let n = c.rows-rows.result in
    let step = kept_raise c.args.t.now n (bound_in c.args.bounds.now) in
    let value : bound_in c.raise_once-least.new.next ≡ step (bound_in c.loop.x) = c.raise_once-least.ensures.value in
    record {
      count = search rules;
      room = search rules;
      fits = subst (λ ys. AreBounds ys) (sym copied) (c.raise_once-least.ensures.fits slow);
      past = subst (λ ys. (j : ℕ) → n ≤ j → bound_in ys j ≡ 0) (sym copied)
          (λ j l. ap (λ (f : ℕ → ℕ). f j) value
          ∙ raise_past c.args.t.now n (bound_in c.args.bounds.now) (bound_in c.loop.x) j l);
      same = subst (λ ys. raises_by step n (bound_in c.args.caps.now) 63 (λ j. 0)
          ≡ raises_by step n (bound_in c.args.caps.now) (63 - (c.loop.counter + 1)) (bound_in ys)) (sym copied)
          (raised_again step n (bound_in c.args.caps.now) c.loop.counter (bound_in c.loop.x)
          (bound_in c.raise_once-least.new.next) c.raise_once-least.result
          (omega (arith, c.loop-test.true)) slow c.raise_once-least.ensures.tells value c.loop.invariant.same);
    }

pub returns-clause-end : goal.returns-clause-end
returns-clause-end g c net targets lengths filled =
    let n = c.rows-rows.result in
    let step = kept_raise c.args.t.now n (bound_in c.args.bounds.now) in
    let done : c.loop.counter ≡ 63 = omega (arith, c.loop-test.false, c.loop.auto.counter-end) in
    let same : raises_by step n (bound_in c.args.caps.now) 63 (λ j. 0)
    ≡ raises_by step n (bound_in c.args.caps.now) 0 (bound_in c.loop.x) =
    subst (λ k. raises_by step n (bound_in c.args.caps.now) 63 (λ j. 0)
    ≡ raises_by step n (bound_in c.args.caps.now) (63 - k) (bound_in c.loop.x)) done c.loop.invariant.same in
    told_least c.args.t.now net targets lengths filled (bound_in c.args.bounds.now) (bound_in c.args.caps.now)
    (bound_in c.loop.x) n c.raise_once.result
    c.rows-rows.ensures.value
    (subst (λ r. Tells r c.raise_once.result (bound_in c.loop.x)) (sym same) c.raise_once.ensures.tells)

pub returns-then-not-is_slow-clause-least : goal.returns-then-not-is_slow-clause-least
returns-then-not-is_slow-clause-least g c net targets lengths filled is =
    found_least c.raises_find_the_least.ensures.rest c.args.t.now net targets lengths (bound_in c.args.bounds.now)
    (bound_in c.args.caps.now) _ _ filled c.totals_fit.ensures.fits.leading_rows
    (returns-then-not-is_slow-clause-end g c net targets lengths filled) is

pub returns-then-not-is_slow-clause-none : goal.returns-then-not-is_slow-clause-none
returns-then-not-is_slow-clause-none g c net targets lengths filled is others serve within =
    found_none c.raises_find_the_least.ensures.over c.args.t.now net targets lengths (bound_in c.args.bounds.now)
    (bound_in c.args.caps.now) _ others _ filled c.totals_fit.ensures.fits.leading_rows
    (returns-then-not-is_slow-clause-end g c net targets lengths filled) is serve within

pub returns-clause-least : goal.returns-clause-least
returns-clause-least g c net targets lengths filled is =
    found_least c.raises_find_the_least.ensures.rest c.args.t.now net targets lengths (bound_in c.args.bounds.now)
    (bound_in c.args.caps.now) _ _ filled c.totals_fit.ensures.fits.leading_rows
    (returns-clause-end g c net targets lengths filled) is

pub returns-clause-none : goal.returns-clause-none
returns-clause-none g c net targets lengths filled is others serve within =
    found_none c.raises_find_the_least.ensures.over c.args.t.now net targets lengths (bound_in c.args.bounds.now)
    (bound_in c.args.caps.now) _ others _ filled c.totals_fit.ensures.fits.leading_rows
    (returns-clause-end g c net targets lengths filled) is serve within
