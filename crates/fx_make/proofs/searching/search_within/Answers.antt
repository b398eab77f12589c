use Rattle.std.proofs.Common.{◌<◌, [], ap, subst, arith, length}
use Rattle.std.specs.Prelude.{None, Some}
use Rattle.fx_make.specs.Candidates.{of_guard, tried}
use Rattle.fx_make.specs.Made.{TellsSearch}
use Rattle.fx_make.specs.Search.{search, searched}
use Rattle.fx_make.specs.Search.Progress.{AllFailed}
use Rattle.fx_make.proofs.GoingOn.{part_failed, part_found, some_stays}
use Rattle.fx_make.proofs.searching.search_within.Goals as goal

pub returns-in-Some : goal.returns-in-Some
returns-in-Some g c =
    let f = c.args.f.now in
    let s = c.args.form.now in
    let before = c.loop-i.fails.items in
    let after = c.try_guard.new.fails.items in
    let part = of_guard f.settings.fractions f.settings.lengths in
    let inside : c.loop-i.i < length f.settings.guards = (let same = ap length c.guards-i-end.ensures.value in
    let below = c.loop-i-test.true in omega (arith, same, below)) in
    some_stays (tried f s) f (search f s) c.in-Some.made after [] []
    (part_found (tried f s) part f f.settings.guards c.loop-i.i [] before after c.in-Some.made inside
    c.loop-i.invariant
    (subst (λ x. TellsSearch f (searched (tried f s) (AllFailed before) (part x)) (Some c.in-Some.made) after)
    c.guard_at-guard.ensures.value
    (subst (λ m. TellsSearch f (searched (tried f s) (AllFailed before) (part c.guard_at-guard.result)) m after)
    c.in-Some.is c.in_ok-made.ensures)))

pub loop-i-preserved : goal.loop-i-preserved
loop-i-preserved g c =
    let f = c.args.f.now in
    let s = c.args.form.now in
    let before = c.loop-i.fails.items in
    let after = c.try_guard.new.fails.items in
    let part = of_guard f.settings.fractions f.settings.lengths in
    let inside : c.loop-i.i < length f.settings.guards = (let same = ap length c.guards-i-end.ensures.value in
    let below = c.loop-i-test.true in omega (arith, same, below)) in
    part_failed (tried f s) part f f.settings.guards c.loop-i.i [] before after inside c.loop-i.invariant
    (subst (λ x. TellsSearch f (searched (tried f s) (AllFailed before) (part x)) None after)
    c.guard_at-guard.ensures.value
    (subst (λ m. TellsSearch f (searched (tried f s) (AllFailed before) (part c.guard_at-guard.result)) m after)
    c.in_default.is c.in_ok-made.ensures))
