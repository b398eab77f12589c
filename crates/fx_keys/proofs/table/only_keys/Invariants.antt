use Rattle.std.proofs.Common.{◌≡◌, ◌++◌}
use Rattle.toml.specs.View.{members_view}
use Rattle.fx_keys.specs.Table.{only_keys}
use Rattle.fx_keys.proofs.table.only_keys.Given as goal

-- what is left says what all say
abbrev pub invariant-loop-text : goal.invariant-loop-text
invariant-loop-text l = only_keys (l.shared ++ l.own) (members_view l.text-iterator)
    ≡ only_keys (l.shared ++ l.own) (members_view l.table.entries)
