use Rattle.std.proofs.Common.{◌≡◌, Some, map, take, drop}
use Rattle.fx_net.specs.Tables.{net_of}
use Rattle.fx_gain.specs.Lengths.{first_serving, length_failure}
use Rattle.fx_gain.proofs.finding.first_serving.Given as goal

abbrev pub invariant-loop-moments : goal.invariant-loop-moments
invariant-loop-moments g l = record {
  fail : map (length_failure (net_of l.net) l.f) (take l.moments-index l.moments-items) ≡ map Some l.fails.items;
  same : first_serving (net_of l.net) l.f l.moments-items
      ≡ first_serving (net_of l.net) l.f (drop l.moments-index l.moments-items);
}
