use Rattle.std.proofs.Common.{◌≡◌, ◌≤◌, ◌*◌}
use Rattle.fx_net.specs.Tables.{net_of}
use Rattle.fx_bench.specs.Recipe.{terms_before, with_rows}
use Rattle.fx_bench.proofs.recipe.put_rows.Given as goal

abbrev pub invariant-loop-i : goal.invariant-loop-i
invariant-loop-i g l = record {
  net : net_of l.net ≡ with_rows l.recipe l.i (net_of l.fn.net);
  count : l.terms ≡ terms_before l.recipe l.i;
  low : l.i ≤ l.terms;
  high : l.terms ≤ l.i * 128;
}
