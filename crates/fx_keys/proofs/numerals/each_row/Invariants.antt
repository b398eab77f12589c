use Rattle.std.proofs.Common.{◌≡◌, ◌≤◌, ◌*◌, drop, length, All}
use Rattle.toml.specs.View.{items_view}
use Rattle.fx_nums.specs.Fraction.{OverTen}
use Rattle.fx_keys.specs.Numerals.{each_row}
use Rattle.fx_eqs.specs.declared.limits.TheConstants.{STATES}
use Rattle.fx_keys.proofs.Front.{with_front}
use Rattle.fx_keys.proofs.numerals.each_row.Given as goal

abbrev pub invariant-loop-row : goal.invariant-loop-row
invariant-loop-row l = record {
  small : l.place ≤ STATES * l.row-index;
  reads : with_front l.found.items (each_row l.key l.width l.place (items_view (drop l.row-index l.rows)))
      ≡ each_row l.key l.width 0 (items_view l.rows);
  count : length l.found.items ≡ l.row-index * l.width;
  over_ten : All OverTen l.found.items;
}
