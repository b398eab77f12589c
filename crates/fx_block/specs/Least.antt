-- The least bounds of rows.
use Rattle.std.specs.Prelude.{ℕ, ◌<◌, ◌≤◌}
use Rattle.fx_net.specs.Net.{Net}
use Rattle.fx_totals.specs.AllTime.{ServesNext}

-- the bounds of the first n rows, each of which serves the next value too, after so many moments
abbrev pub AllServe : Net → ℕ → (ℕ → ℕ) → (ℕ → ℕ) → (ℕ → ℕ) → Type 0
AllServe net n lengths bounds rows = (j : ℕ) → j < n → ServesNext net j (lengths j) bounds rows

-- all serve, and none is above that of any others that serve
pub record AreLeastBounds (net : Net) (n : ℕ) (lengths bounds rows : ℕ → ℕ) : Type 0 where
  pub serve : AllServe net n lengths bounds rows
  pub least : (others : ℕ → ℕ) → AllServe net n lengths bounds others → (j : ℕ) → j < n → rows j ≤ others j
