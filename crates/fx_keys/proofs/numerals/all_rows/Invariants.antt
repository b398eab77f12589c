use Rattle.std.proofs.Common.{◌≡◌, drop}
use Rattle.toml.specs.View.{items_view}
use Rattle.fx_keys.specs.Numerals.{all_rows}
use Rattle.fx_keys.proofs.numerals.all_rows.Given as goal

-- what is left says what all say
abbrev pub invariant-loop-row : goal.invariant-loop-row
invariant-loop-row l = all_rows l.key (items_view (drop l.row-index l.rows)) ≡ all_rows l.key (items_view l.rows)
