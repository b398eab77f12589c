use Rattle.std.proofs.Common.{◌≡◌, ◌<◌, arith, lit<}
use Rattle.fx_eqs.specs.Expanded.{input_hold_place, hold_rows}
use Rattle.fx_eqs.specs.Expanded.NetRead.{In}
use Rattle.fx_eqs.specs.Lags.{greatest_lag}
use Rattle.fx_eqs.specs.declared.term.Source.TheVariants.{In as Input}
use Rattle.fx_net.specs.Tables.{net_of}
use Rattle.fx_net.proofs.Filling.{part_next}
use Rattle.fx_net.proofs.Positions.{sum_within, row_hold_end, length-input_holds}
use Rattle.fx_net.proofs.net.Net.put_input_holds.Goals as goal

pub put_holds-requires : goal.put_holds-requires
put_holds-requires g c =
    let s = c.args.layout.now.eqs.now in
    let places = c.args.layout.now.places in
    let j : c.loop-j.j < s.inputs = omega arith in
    let place = places.inputs c.loop-j.j j in
    let lag : c.greatest_lag-count.result ≡ greatest_lag (Input c.loop-j.j) s.terms =
    c.greatest_lag-count.ensures.value in
    let w = sum_within (λ j. greatest_lag (Input j) s.terms) s.inputs c.loop-j.j j in
    let end = row_hold_end s in
    let high = places.inputs_high in
    (lit< tt, (omega arith, omega arith))

pub loop-j-preserved : goal.loop-j-preserved
loop-j-preserved g c =
    let s = c.args.layout.now.eqs.now in
    let j : c.loop-j.j < s.inputs = omega arith in
    let place = c.args.layout.now.places.inputs c.loop-j.j j in
    let lag : c.greatest_lag-count.result ≡ greatest_lag (Input c.loop-j.j) s.terms =
    c.greatest_lag-count.ensures.value in
    rw (c.put_holds.ensures, place, lag)
    (part_next c.args.at 0 (input_hold_place s c.loop-j.j) c.loop-j.j (λ j.
    hold_rows (In j) (greatest_lag (Input j) s.terms) (input_hold_place s j)) (net_of c.loop-j.self)
    (net_of c.args.self.now) (omega (arith, length-input_holds s c.loop-j.j)) c.loop-j.invariant)
