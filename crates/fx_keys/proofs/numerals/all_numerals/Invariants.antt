use Rattle.std.proofs.Common.{◌≡◌, drop}
use Rattle.toml.specs.View.{items_view}
use Rattle.fx_keys.specs.Numerals.{all_numerals}
use Rattle.fx_keys.proofs.numerals.all_numerals.Given as goal

-- what is left says what all say
abbrev pub invariant-loop-entry : goal.invariant-loop-entry
invariant-loop-entry l = all_numerals l.key (items_view (drop l.entry-index l.entries))
    ≡ all_numerals l.key (items_view l.entries)
