use Rattle.std.proofs.Common.{◌≡◌, ◌+◌, ◌∙◌, sym, arith, subst, lit<}
use Rattle.fx_eqs.specs.Expanded.{row_place}
use Rattle.fx_eqs.specs.Fits.{IsThereByThen}
use Rattle.fx_net.proofs.Positions.{row_inside}
use Rattle.fx_net.proofs.Sources.{item_read, item_fits, read_fits}
use Rattle.fx_net.proofs.net.Net.put_equation.Goals as goal

pub read-from-requires : goal.read-from-requires
read-from-requires g c =
    let s = c.args.layout.now.eqs.now in
    let it = rw c.terms-terms.ensures.value at c.term-item.is in
    let inside = rw c.terms-terms.ensures.value at c.loop-term-test.true in
    let fits = rw c.terms-terms.ensures.value at c.terms-terms.ensures.fits in
    item_read s c.loop-term.term-index c.term-item.result inside it
    (item_fits s c.loop-term.term-index c.term-item.result fits inside it).source

pub overflow_add-layout : goal.overflow_add-layout
overflow_add-layout g c =
    let s = c.args.layout.now.eqs.now in
    let first = c.args.layout.now.places.equations in
    let few = c.args.layout.now.places.few in
    let i = row_inside s c.args.i c.requires.row in
    omega arith

pub put_term-requires : goal.put_term-requires
put_term-requires g c =
    let s = c.args.layout.now.eqs.now in
    let it = rw c.terms-terms.ensures.value at c.term-item.is in
    let inside = rw c.terms-terms.ensures.value at c.loop-term-test.true in
    let fits = rw c.terms-terms.ensures.value at c.terms-terms.ensures.fits in
    let fit = item_fits s c.loop-term.term-index c.term-item.result fits inside it in
    let first = c.args.layout.now.places.equations in
    let place : c.args.layout.now.first + c.args.i ≡ row_place s c.args.i = omega arith in
    let row : c.term-item.result.row ≡ c.args.i = sym c.from.ensures ∙ c.if-from-i.true in
    let i = row_inside s c.args.i c.requires.row in (
      lit< tt,
      (
        omega arith,
        rw (c.read-from.ensures, place)
            (read_fits g.row.N c.args.at s c.args.i c.term-item.result.from c.term-item.result.lag
            c.requires.inside c.args.layout.now.places.inputs_high
            (item_read s c.loop-term.term-index c.term-item.result inside it fit.source)
            (subst (λ r. IsThereByThen r c.term-item.result.from c.term-item.result.lag) row fit.causal)),
      ),
    )
