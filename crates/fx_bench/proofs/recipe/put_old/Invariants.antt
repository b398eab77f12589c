use Rattle.std.proofs.Common.{◌≡◌}
use Rattle.fx_net.specs.Tables.{net_of}
use Rattle.fx_bench.specs.Recipe.{with_old}
use Rattle.fx_bench.proofs.recipe.put_old.Given as goal

abbrev pub invariant-loop-k : goal.invariant-loop-k
invariant-loop-k g l = net_of l.net ≡ with_old l.recipe l.i l.n l.k (net_of l.fn.net)
