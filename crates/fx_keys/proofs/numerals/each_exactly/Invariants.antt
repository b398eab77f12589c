use Rattle.std.proofs.Common.{◌≡◌, drop}
use Rattle.toml.specs.View.{items_view}
use Rattle.fx_keys.specs.Numerals.{each_exactly}
use Rattle.fx_keys.proofs.numerals.each_exactly.Given as goal

-- what is left says what all say
abbrev pub invariant-loop-row : goal.invariant-loop-row
invariant-loop-row l = each_exactly l.key l.width (items_view (drop l.row-index l.rows))
    ≡ each_exactly l.key l.width (items_view l.rows)
