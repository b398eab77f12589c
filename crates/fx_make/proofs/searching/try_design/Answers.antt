use Rattle.std.proofs.Common.{◌≡◌, ◌<◌, ◌≤◌, refl, ap, sym, ◌∙◌, subst, arith, length}
use Rattle.fx_sweep.specs.Swept.{whole_in}
use Rattle.fx_totals.specs.Filled.{length_in}
use Rattle.fx_totals.specs.Kept.{bound_in}
use Rattle.fx_make.specs.Candidates.{candidate_at}
use Rattle.fx_make.specs.Lengths.{HasPassing, fail_in}
use Rattle.fx_make.specs.Made.{IsMadeOf}
use Rattle.fx_make.proofs.SearchingLengths.{a_length, no_length, passing_inside}
use Rattle.fx_make.proofs.searching.try_design.Goals as goal

pub add_each-requires : goal.add_each-requires
add_each-requires g c =
    let few : length c.args.f.now.settings.lengths ≤ 8 = c.filters_fit.ensures.settings.lengths.few in
    let count : length c.try_lengths-first.new.fails ≡ 8 = c.try_lengths-first.ensures.fails in
    omega (arith, few, count)

pub length_at-moments-requires : goal.length_at-moments-requires
length_at-moments-requires g c =
    subst (λ k. k < length c.args.f.now.settings.lengths) (sym c.from.ensures)
    (passing_inside c.args.f.now c.args.d.now c.in-Some.l (sym c.in-Some.ensures.first))

pub assemble-requires-clause-bounds : goal.assemble-requires-clause-bounds
assemble-requires-clause-bounds g c = c.in-Some.ensures.fits c.in-Some.l refl

pub assemble-requires-clause-passing : goal.assemble-requires-clause-passing
assemble-requires-clause-passing g c =
    let moments : c.length_at-moments.result ≡ length_in c.args.f.now.settings.lengths c.in-Some.l =
    c.length_at-moments.ensures.value ∙ ap (length_in c.args.f.now.settings.lengths) c.from.ensures in
    subst (λ m. HasPassing c.args.f.now c.args.d.now.rows m (bound_in c.try_lengths-first.new.x)
    (whole_in c.try_lengths-first.new.e)) (sym moments) (c.in-Some.ensures.found c.in-Some.l refl)

pub returns-in-None : goal.returns-in-None
returns-in-None g c =
    no_length c.args.f.now c.args.form.now c.args.grid.guard c.args.grid.fraction c.args.d.now
    (fail_in c.try_lengths-first.new.fails) c.args.fails.now.items c.add_each.new.fails.items c.requires.quantised
    (sym c.in-None.ensures.first) c.in-None.ensures.told c.in_ok-add_each.ensures

pub returns-in_ok-assemble-in-Some : goal.returns-in_ok-assemble-in-Some
returns-in_ok-assemble-in-Some g c =
    let f = c.args.f.now in
    let d = c.args.d.now in
    let x = bound_in c.try_lengths-first.new.x in
    let made = c.in_ok-assemble-in-Some.field-0 in
    let moments : c.length_at-moments.result ≡ length_in f.settings.lengths c.in-Some.l =
    c.length_at-moments.ensures.value ∙ ap (length_in f.settings.lengths) c.from.ensures in
    a_length f c.args.form.now c.args.grid.guard c.args.grid.fraction d c.args.fails.now.items
    c.add_each.new.fails.items
    c.in-Some.l x made c.requires.quantised (sym c.in-Some.ensures.first)
    (c.in-Some.ensures.found c.in-Some.l refl).passed
    (subst (λ m. IsMadeOf f (candidate_at c.args.grid.guard c.args.grid.fraction m)
    (record { design = d; bounds = x }) made) moments c.in_ok-assemble-in-Some.ensures)
