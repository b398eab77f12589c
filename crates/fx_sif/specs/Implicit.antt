-- Filters in implicit form, as contracts see them.
use Rattle.std.specs.Prelude.{ℕ, ◌+◌, ◌==◌, ◌&&◌, nat_lt, cond, List, [], ◌∷◌}
use Rattle.fx_nums.specs.Fraction.{Fraction, one_fraction, zero_fraction}
use Rattle.fx_sif.specs.Blocks.{is_at}
use Rattle.fx_sif.specs.declared.parts.Block.{Block}
use Rattle.fx_sif.specs.declared.parts.Block.TheVariants.{J}
use Rattle.fx_sif.specs.declared.parts.Entry.{Entry}
use Rattle.fx_sif.specs.declared.parts.Sizes.{Sizes}

-- one input and one output, with so many intermediate variables and states
abbrev pub single : ℕ → ℕ → Sizes
single t x = record { t = t; x = x; u = 1; y = 1 }

-- the counts, and the entries that were given, in their order
pub record Implicit : Type 0 where
  pub sizes : Sizes
  pub entries : List Entry

-- one row for each intermediate variable, each state and each output
abbrev pub rows : Sizes → ℕ
rows s = s.t + s.x + s.y

-- what stands where nothing was given: 1 on the diagonal of J, else 0
abbrev pub not_given : Sizes → Block → ℕ → ℕ → Fraction
not_given s J i j = cond (i == j && nat_lt i s.t) one_fraction zero_fraction
not_given s _ i j = zero_fraction

-- the coefficient of the first entry in a place; this one where there is none
abbrev pub given_or : Fraction → Block → ℕ → ℕ → List Entry → Fraction
given_or c block i j [] = c
given_or c block i j (e ∷ es) = cond (is_at block i j e) e.coef (given_or c block i j es)

-- the coefficient in row i and column j of a block
abbrev pub entry_of : Implicit → Block → ℕ → ℕ → Fraction
entry_of f block i j = given_or (not_given f.sizes block i j) block i j f.entries
