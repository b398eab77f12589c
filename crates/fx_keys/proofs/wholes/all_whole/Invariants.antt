use Rattle.std.proofs.Common.{◌≡◌, drop}
use Rattle.toml.specs.View.{items_view}
use Rattle.fx_keys.specs.Wholes.{all_whole}
use Rattle.fx_keys.proofs.wholes.all_whole.Given as goal

-- what is left says what all say
abbrev pub invariant-loop-entry : goal.invariant-loop-entry
invariant-loop-entry l = all_whole l.key (items_view (drop l.entry-index l.entries))
    ≡ all_whole l.key (items_view l.entries)
