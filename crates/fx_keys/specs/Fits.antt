-- What the whole numbers that are read keep.
use Rattle.std.specs.Prelude.{ℕ, ◌≤◌, pos, List, length, All}
use Rattle.fx_keys.specs.Keys.{IsWithin, most_of, range_of}
use Rattle.fx_keys.specs.declared.key.Key.{Key}

-- those of a key's list: one or more, each in the range of the key
pub record NaturalsFit (k : Key) (ns : List ℕ) : Type 0 where
  pub some : 1 ≤ length ns
  pub few : length ns ≤ most_of k
  pub each : All (λ n. IsWithin (range_of k) (pos n)) ns
