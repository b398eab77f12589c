use Rattle.std.proofs.Common.{◌≡◌, drop, length, All}
use Rattle.std.proofs.Math.IntN.{pos}
use Rattle.toml.specs.View.{items_view}
use Rattle.fx_keys.specs.Keys.{IsWithin, range_of}
use Rattle.fx_keys.specs.Wholes.{each_natural}
use Rattle.fx_keys.proofs.Front.{with_front}
use Rattle.fx_keys.proofs.wholes.each_natural.Given as goal

abbrev pub invariant-loop-entry : goal.invariant-loop-entry
invariant-loop-entry l = record {
  reads : with_front l.found.items (each_natural l.key (items_view (drop l.entry-index l.entries)))
      ≡ each_natural l.key (items_view l.entries);
  count : length l.found.items ≡ l.entry-index;
  within : All (λ n. IsWithin (range_of l.key) (pos n)) l.found.items;
}
