use Rattle.std.proofs.Common.{◌≡◌, ◌+◌, drop, length, All}
use Rattle.toml.specs.View.{items_view}
use Rattle.fx_nums.specs.Fraction.{OverTen}
use Rattle.fx_keys.specs.Numerals.{each_numeral}
use Rattle.fx_keys.proofs.Front.{with_front}
use Rattle.fx_keys.proofs.numerals.each_numeral.Given as goal

abbrev pub invariant-loop-entry : goal.invariant-loop-entry
invariant-loop-entry l = record {
  place : l.place ≡ l.start + l.entry-index;
  reads : with_front l.found.items (each_numeral l.key l.place (items_view (drop l.entry-index l.entries)))
      ≡ each_numeral l.key l.start (items_view l.entries);
  count : length l.found.items ≡ l.entry-index;
  over_ten : All OverTen l.found.items;
}
