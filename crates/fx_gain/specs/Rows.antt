-- Bounds of the rows of a net, the rows as targets, and a block over which they are bounded.
use Rattle.std.specs.Prelude.{◌≡◌, ℕ, ◌<◌, ◌≤◌, ℤ, pos, List, [], ◌∷◌, length, replicate, None}
use Rattle.fx_math.specs.Sums.{joined}
use Rattle.fx_files.specs.Filter.{Filter}
use Rattle.fx_msb.specs.declared.widths.TheConstants.{GREATEST_BOUND}
use Rattle.fx_net.specs.Net.{Net}
use Rattle.fx_sweep.specs.declared.limits.TheConstants.{GREATEST_LENGTH}
use Rattle.fx_sweep.specs.declared.target.Target.{Target}
use Rattle.fx_sweep.specs.declared.target.Target.TheVariants.{Row}
use Rattle.fx_totals.specs.Filled.{Filled}
use Rattle.fx_totals.specs.Kept.{AreBounds, Kept}
use Rattle.fx_gain.specs.Lengths.{length_failure, original_count}

-- n caps, each the greatest bound there is, and room for n bounds
pub record RowsFit (n : ℕ) (caps x scratch : List ℤ) : Type 0 where
  pub caps_are : caps ≡ replicate n (pos GREATEST_BOUND)
  pub x_long : length x ≡ n
  pub x_fits : AreBounds x
  pub scratch_long : length scratch ≡ n

-- the first n rows
abbrev pub row_targets : ℕ → List Target
row_targets n = joined n (λ i. Row i ∷ [])

-- totals hold the rows of the filter over a length that does not fail
pub record IsBlock (filter : Filter) (net : Net) (k : Kept) (moments : ℕ) : Type 0 where
  pub inside : original_count filter ≤ net.rows
  pub some : 0 < moments
  pub short : moments ≤ GREATEST_LENGTH
  pub serves : length_failure net filter moments ≡ None
  pub filled : Filled k net (row_targets (original_count filter)) (replicate (original_count filter) moments)
