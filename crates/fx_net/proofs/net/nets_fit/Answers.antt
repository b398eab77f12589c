use Rattle.std.proofs.Common.{refl, arith}
use Rattle.fx_net.proofs.Numbers.{number_high, number_outside}
use Rattle.fx_net.proofs.Storage.{zero_outside}
use Rattle.fx_net.proofs.net.nets_fit.Goals as goal

pub returns : goal.returns
returns g c =
    rw (← c.net.view_is) (record {
      rows = refl;
      rows_low = c.net.invariant.rows_low;
      rows_high = c.net.invariant.rows_high;
      now_earlier = c.net.invariant.earlier;
      now_outside = zero_outside _ _ _ c.entries_have_places.ensures c.net.invariant.now_holds;
      old_outside = zero_outside _ _ _ c.entries_have_places-2.ensures c.net.invariant.old_holds;
      input_outside = zero_outside _ _ _ c.entries_have_places-3.ensures c.net.invariant.input_holds;
      class_high = λ i. number_high _ i _ c.net.invariant.high;
      class_outside = λ i h. number_outside _ i (let e = c.net.invariant.count in omega arith);
    })
