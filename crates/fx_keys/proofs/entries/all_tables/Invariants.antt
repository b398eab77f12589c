use Rattle.std.proofs.Common.{◌≡◌, drop}
use Rattle.toml.specs.View.{items_view}
use Rattle.fx_keys.specs.Entries.{all_tables}
use Rattle.fx_keys.proofs.entries.all_tables.Given as goal

-- what is left says what all say
abbrev pub invariant-loop-entry : goal.invariant-loop-entry
invariant-loop-entry l = all_tables l.key (items_view (drop l.entry-index l.entries))
    ≡ all_tables l.key (items_view l.entries)
