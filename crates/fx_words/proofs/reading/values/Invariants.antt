use Rattle.std.proofs.Common.{◌≡◌, length, map, take}
use Rattle.clap.specs.Words.{found_of, rows_of}
use Rattle.fx_words.specs.Command.{texts}
use Rattle.fx_words.specs.Words.{value_of}
use Rattle.fx_words.proofs.reading.values.Given as goal

abbrev pub invariant-loop-id : goal.invariant-loop-id
invariant-loop-id l = (length l.names.items ≡ l.id-index) × (texts l.names.items
    ≡ map (λ id. value_of (rows_of (found_of l.matches)) id) (map (λ w. w.now) (take l.id-index l.ids)))
