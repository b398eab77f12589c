-- Lines by their first.
use Rattle.std.specs.Prelude.{ℕ, Bool, List, [], ◌∷◌, Option, Some, None}
use Rattle.fx_cert.specs.Lines.{TextLine}

-- the lines of which this is the first, with those behind it
abbrev pub lines_with : Option (List ℕ × Bool × List TextLine) → List TextLine
lines_with None = []
lines_with (Some p) = record { text = p.0; ended = p.1 } ∷ p.2
