use Rattle.std.proofs.Common.{◌≡◌, ℕ, ◌+◌, length}
use Rattle.fx_cross.specs.Walks.{row_links}
use Rattle.fx_cross.specs.Rests.{row_rest}
use Rattle.fx_sweep.specs.Steps.{AreNarrow, product_apart, product_bound}
use Rattle.fx_sweep.specs.Swept.{interval_in}
use Rattle.fx_sweep.proofs.Along.{given, IsAhead}
use Rattle.fx_sweep.proofs.handing.add_links.Given as goal

abbrev pub invariant-loop-link : goal.invariant-loop-link
invariant-loop-link l = record {
  long : length l.at ≡ length l.initial.at;
  left : (j : ℕ) → given l.row.lo (row_rest l.link-iterator) j (interval_in l.at j)
      ≡ given l.row.lo (row_links l.table l.i) j (interval_in l.initial.at j);
  ahead : IsAhead l.table.columns (row_rest l.link-iterator) (interval_in l.initial.at) (interval_in l.at);
  narrow : (b w : ℕ) → AreNarrow b w l.initial.at → AreNarrow (b + product_bound) (w + product_apart) l.at;
}
