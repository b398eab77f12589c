-- What is swept to judge a certificate: each row of the net of a program and a filter and, behind the rows, a pair for
-- each output.
use Rattle.std.specs.Prelude.{◌≡◌, ℕ, ◌+◌, ◌-◌, ◌<◌, nat_lt, cond, ℤ, List, [], ◌∷◌, length}
use Rattle.fx_math.specs.Sums.{joined}
use Rattle.fx_files.specs.Filter.{Filter}
use Rattle.fx_net.specs.Net.{Net}
use Rattle.fx_code.specs.Code.{Code}
use Rattle.fx_code.specs.Joint.{joint_net}
use Rattle.fx_cert.specs.Certificate.{Certificate, output_length, row_length}
use Rattle.fx_sweep.specs.Swept.{whole_in}
use Rattle.fx_sweep.specs.declared.target.Target.{Target}
use Rattle.fx_sweep.specs.declared.target.Target.TheVariants.{Row}
use Rattle.fx_totals.specs.Filled.{Filled}
use Rattle.fx_totals.specs.Kept.{Kept}
use Rattle.fx_block.specs.Passes.{pair_of, pair_total, row_count, row_total}

abbrev pub target_count : Filter → Code → ℕ
target_count filter p = row_count filter p + length filter.outputs

-- ---- target t, and for how many moments it is swept

unfoldable pub target_at : Filter → Code → ℕ → Target
target_at filter p t = cond (nat_lt t (row_count filter p)) (Row t) (pair_of filter p (t - row_count filter p))

unfoldable pub length_at : Filter → Code → Certificate → ℕ → ℕ
length_at filter p c t =
    cond (nat_lt t (row_count filter p)) (row_length c t) (output_length c (t - row_count filter p))

-- the lists of both
abbrev pub targets_of : Filter → Code → List Target
targets_of filter p = joined (target_count filter p) (λ t. target_at filter p t ∷ [])

abbrev pub lengths_of : Filter → Code → Certificate → List ℕ
lengths_of filter p c = joined (target_count filter p) (λ t. length_at filter p c t ∷ [])

-- ---- in a net with empty rows behind, so that it has n rows

abbrev pub padded_net : ℕ → Filter → Code → Net
padded_net n filter p = joint_net n p filter.equations

-- a list has the totals of all targets in its first places
pub record HasTotals (filter : Filter) (p : Code) (c : Certificate) (totals : List ℤ) : Type 0 where
  pub rows : (j : ℕ) → j < row_count filter p → whole_in totals j ≡ row_total filter p c j
  pub pairs : (o : ℕ) → o < length filter.outputs → whole_in totals (row_count filter p + o) ≡ pair_total filter p c o

-- a program has as many outputs as the filter, and a certificate a bound for each row and an error for each output
pub record AreCounted (filter : Filter) (p : Code) (c : Certificate) : Type 0 where
  pub outputs : length p.outputs ≡ length filter.outputs
  pub rows : length c.bounds ≡ row_count filter p
  pub errors : length c.errors ≡ length filter.outputs

-- in a net of n rows all targets are filled
abbrev pub AreFilled : ℕ → Filter → Code → Certificate → Kept → Type 0
AreFilled n filter p c kept = Filled kept (padded_net n filter p) (targets_of filter p) (lengths_of filter p c)
