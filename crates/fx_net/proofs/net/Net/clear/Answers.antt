use Rattle.std.proofs.Common.{refl}
use Rattle.fx_net.proofs.Numbers.{zero_numbers}
use Rattle.fx_net.proofs.net.Net.clear.Goals as goal

pub returns : goal.returns
returns g c =
    rw (
      c.clear.ensures.entries,
      c.clear-2.ensures.entries,
      c.clear-3.ensures.entries,
      zero_numbers _ c.fill.new.self.items (c.fill.ensures.items (λ y e. e)),
    ) refl
