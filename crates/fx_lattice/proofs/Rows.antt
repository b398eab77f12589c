-- Rows one behind the other.
use Rattle.std.proofs.Common.{◌≡◌, ℕ, ◌+◌, List, ◌++◌}
use Rattle.fx_math.specs.Sums.{joined}
use Rattle.fx_sif.specs.declared.parts.Entry.{Entry}
use Rattle.fx_sif.proofs.Following.{joined_next}

-- one row more at the end
pub one_more : (n : ℕ) (f : ℕ → List Entry) → joined (n + 1) f ≡ joined n f ++ f n
one_more n f = joined_next n f
