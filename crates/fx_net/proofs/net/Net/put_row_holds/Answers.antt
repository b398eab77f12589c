use Rattle.std.proofs.Common.{◌≡◌, ◌+◌, ◌-◌, ◌<◌, arith, lit<}
use Rattle.fx_eqs.specs.Expanded.{row_place, row_hold_place, hold_rows}
use Rattle.fx_eqs.specs.Expanded.NetRead.{Old}
use Rattle.fx_eqs.specs.Lags.{greatest_lag}
use Rattle.fx_eqs.specs.declared.term.Source.TheVariants.{Row}
use Rattle.fx_net.specs.Tables.{net_of}
use Rattle.fx_net.proofs.Filling.{part_next}
use Rattle.fx_net.proofs.Positions.{sum_within, row_hold_end, row_inside, length-row_holds}
use Rattle.fx_net.proofs.net.Net.put_row_holds.Goals as goal

pub overflow_add-layout : goal.overflow_add-layout
overflow_add-layout g c =
    let s = c.args.layout.now.eqs.now in
    let places = c.args.layout.now.places in
    let j : c.loop-j.j < s.rows = omega arith in
    let row = row_inside s c.loop-j.j j in
    let first = places.equations in
    let few = places.few in
    omega arith

pub put_holds-requires : goal.put_holds-requires
put_holds-requires g c =
    let s = c.args.layout.now.eqs.now in
    let places = c.args.layout.now.places in
    let j : c.loop-j.j < s.rows = omega arith in
    let place = places.rows c.loop-j.j j in
    let lag : c.greatest_lag.result ≡ greatest_lag (Row c.loop-j.j) s.terms = c.greatest_lag.ensures.value in
    let w = sum_within (λ j. greatest_lag (Row j) s.terms - 1) s.rows c.loop-j.j j in
    let end = row_hold_end s in
    let row = row_inside s c.loop-j.j j in
    let first = places.equations in
    (lit< tt, (omega arith, omega arith))

pub loop-j-preserved : goal.loop-j-preserved
loop-j-preserved g c =
    let s = c.args.layout.now.eqs.now in
    let j : c.loop-j.j < s.rows = omega arith in
    let place = c.args.layout.now.places.rows c.loop-j.j j in
    let first = c.args.layout.now.places.equations in
    let from : c.args.layout.now.first + c.loop-j.j ≡ row_place s c.loop-j.j = omega arith in
    let lag : c.greatest_lag.result ≡ greatest_lag (Row c.loop-j.j) s.terms = c.greatest_lag.ensures.value in
    rw (c.put_holds.ensures, place, from, c.saturating_sub-count.ensures, lag)
    (part_next c.args.at (row_place s s.rows) (row_hold_place s c.loop-j.j) c.loop-j.j (λ j.
    hold_rows (Old (row_place s j)) (greatest_lag (Row j) s.terms - 1) (row_hold_place s j))
    (net_of c.loop-j.self) (net_of c.args.self.now) (omega (arith, length-row_holds s c.loop-j.j))
    c.loop-j.invariant)
