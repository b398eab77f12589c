use Rattle.std.proofs.Common.{◌≡◌, None}
use Rattle.fx_net.specs.Tables.{net_of}
use Rattle.fx_gain.specs.Lengths.{first_of, raises_alone, unrest}
use Rattle.fx_gain.proofs.lengths.bounds_failure.Given as goal

abbrev pub invariant-loop-j : goal.invariant-loop-j
invariant-loop-j g l =
    first_of l.j (λ j. unrest l.fn.moments j (raises_alone (net_of l.net) l.f l.fn.moments j)) ≡ None
