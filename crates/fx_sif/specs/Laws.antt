-- What the laws of this crate say.
use Rattle.std.specs.Prelude.{◌≡◌, ℕ, ◌+◌, ◌<◌, ◌≤◌, length, true, None}
use Rattle.fx_nums.specs.Fraction.{Fraction}
use Rattle.fx_eqs.specs.declared.limits.TheConstants.{EQUATION_TERMS}
use Rattle.fx_eqs.specs.Expanded.{NetRead}
use Rattle.fx_eqs.specs.Expanded.NetRead.{Now, Old, In}
use Rattle.fx_net.specs.Net.{Net, plain}
use Rattle.fx_net.specs.Rows.{put_rows}
use Rattle.fx_sif.specs.Blocks.{height, width}
use Rattle.fx_sif.specs.Faults.{sif_fault}
use Rattle.fx_sif.specs.Fits.{ImplicitFits, IsUnitLower}
use Rattle.fx_sif.specs.Implicit.{Implicit, entry_of}
use Rattle.fx_sif.specs.Rows.{row_place, net_read, on_the_right, is_read, rows_of}
use Rattle.fx_sif.specs.declared.parts.Block.{Block}
use Rattle.fx_sif.specs.declared.parts.Block.TheVariants.{J}

-- counts and entries are never refused where they make a form within the limits
abbrev pub WhatFitsHasNoFault : Type 0
WhatFitsHasNoFault = (f : Implicit) → ImplicitFits f → sif_fault f.sizes f.entries ≡ None

-- the counts and entries of a form have no fault, and there are at most EQUATION_TERMS entries
pub record NeverRefused (f : Implicit) : Type 0 where
  pub few : length f.entries ≤ EQUATION_TERMS
  pub no_fault : sif_fault f.sizes f.entries ≡ None

-- J has 1 on its diagonal and 0 above it, given or not
abbrev pub JIsUnitLower : Implicit → Type 0
JIsUnitLower f = (i j : ℕ) → i < f.sizes.t → IsUnitLower i j (entry_of f J i j)

-- what row r of those from a place on takes of what is read
abbrev pub taken : Net → ℕ → ℕ → NetRead → Fraction
taken net at r (Now s) = net.now (at + r) (at + s)
taken net at r (Old s) = net.old (at + r) (at + s)
taken net at r (In s) = net.input (at + r) s

-- the coefficient of each block stands in its row at what its column reads; that of J has the other sign, and of J only
-- what is below the diagonal stands there
abbrev pub HasBlocks : Implicit → ℕ → Net → Type 0
HasBlocks f at net =
    (block : Block) (i j : ℕ) → i < height f.sizes block → j < width f.sizes block → is_read block i j ≡ true →
    taken net at (row_place f.sizes block i) (net_read f.sizes block j)
    ≡ plain (on_the_right block (entry_of f block i j))

-- so it is in each net with the rows of the form
abbrev pub NetsHaveBlocks : Implicit → Type 0
NetsHaveBlocks f = (at : ℕ) (net : Net) → HasBlocks f at (put_rows (rows_of f) at net)
