use Rattle.std.proofs.Common.{◌<◌, ap, subst, arith, length}
use Rattle.std.specs.Prelude.{None, Some}
use Rattle.fx_make.specs.Candidates.{of_fraction, tried}
use Rattle.fx_make.specs.Made.{TellsSearch}
use Rattle.fx_make.specs.Search.{searched}
use Rattle.fx_make.specs.Search.Progress.{AllFailed}
use Rattle.fx_make.proofs.GoingOn.{part_failed, part_found}
use Rattle.fx_make.proofs.searching.try_guard.Goals as goal

pub returns-in-Some : goal.returns-in-Some
returns-in-Some g c =
    let f = c.args.f.now in
    let s = c.args.form.now in
    let before = c.loop-i.fails.items in
    let after = c.try_fraction.new.fails.items in
    let inside : c.loop-i.i < length f.settings.fractions = (let same = ap length c.fractions-i-end.ensures.value in
    let below = c.loop-i-test.true in omega (arith, same, below)) in
    part_found (tried f s) (of_fraction f.settings.lengths c.args.guard) f f.settings.fractions c.loop-i.i
    c.args.fails.now.items before after c.in-Some.made inside c.loop-i.invariant
    (subst (λ x. TellsSearch f (searched (tried f s) (AllFailed before) (of_fraction f.settings.lengths c.args.guard x))
    (Some c.in-Some.made) after) c.fraction_at-fraction.ensures.value
    (subst (λ m. TellsSearch f (searched (tried f s) (AllFailed before) (of_fraction f.settings.lengths c.args.guard
    c.fraction_at-fraction.result)) m after) c.in-Some.is c.in_ok-made.ensures))

pub loop-i-preserved : goal.loop-i-preserved
loop-i-preserved g c =
    let f = c.args.f.now in
    let s = c.args.form.now in
    let before = c.loop-i.fails.items in
    let after = c.try_fraction.new.fails.items in
    let inside : c.loop-i.i < length f.settings.fractions = (let same = ap length c.fractions-i-end.ensures.value in
    let below = c.loop-i-test.true in omega (arith, same, below)) in
    part_failed (tried f s) (of_fraction f.settings.lengths c.args.guard) f f.settings.fractions c.loop-i.i
    c.args.fails.now.items before after inside c.loop-i.invariant
    (subst (λ x. TellsSearch f (searched (tried f s) (AllFailed before) (of_fraction f.settings.lengths c.args.guard x))
    None after) c.fraction_at-fraction.ensures.value
    (subst (λ m. TellsSearch f (searched (tried f s) (AllFailed before) (of_fraction f.settings.lengths c.args.guard
    c.fraction_at-fraction.result)) m after) c.in_default.is c.in_ok-made.ensures))
