-- What one call takes.
use Rattle.std.specs.Prelude.{ℕ, ◌*◌, ◌/◌, ◌%◌, List, ◌∷◌, ◌++◌}
use Rattle.std.specs.Fmt.{decimal}

-- tenths of a nanosecond a call, rounded down
abbrev pub tenths_per_call : ℕ → ℕ → ℕ
tenths_per_call nanos calls = nanos * 10 / calls

-- tenths as a number with one place
abbrev pub tenths_text : ℕ → List ℕ
tenths_text tenths = decimal (tenths / 10) ++ (46 ∷ decimal (tenths % 10))
