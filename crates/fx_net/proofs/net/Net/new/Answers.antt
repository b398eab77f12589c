use Rattle.std.proofs.Common.{refl}
use Rattle.fx_net.proofs.Numbers.{zero_numbers}
use Rattle.fx_net.proofs.net.Net.new.Goals as goal

pub returns : goal.returns
returns g c =
    rw (
      c.in_ok-new.ensures.entries,
      c.in_ok-new-2.ensures.entries,
      c.in_ok-new-3.ensures.entries,
      zero_numbers g.row.N c.in_ok-vec.field-0.items (c.in_ok-vec.ensures.items_if_clones_equal (λ y e. e)),
    )
    refl
