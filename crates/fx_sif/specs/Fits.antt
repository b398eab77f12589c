-- What every implicit form keeps.
use Rattle.std.specs.Prelude.{◌≡◌, ℕ, pos, ◌<◌, ◌≤◌, ⊤, List, All}
use Rattle.std.specs.List.{IsDistinct}
use Rattle.fx_nums.specs.Fraction.{Fraction, DenFits, den_value}
use Rattle.fx_sif.specs.Blocks.{height, width, same_place}
use Rattle.fx_sif.specs.Implicit.{Implicit, rows}
use Rattle.fx_eqs.specs.declared.limits.TheConstants.{PORTS}
use Rattle.fx_sif.specs.declared.limits.TheConstants.{FORM_ROWS}
use Rattle.fx_sif.specs.declared.parts.Block.{Block}
use Rattle.fx_sif.specs.declared.parts.Block.TheVariants.{J}
use Rattle.fx_sif.specs.declared.parts.Entry.{Entry}
use Rattle.fx_sif.specs.declared.parts.Sizes.{Sizes}

-- J has 1 on its diagonal and 0 above it
pub record IsUnitLower (i j : ℕ) (c : Fraction) : Type 0 where
  pub diagonal : i ≡ j → c.num ≡ pos (den_value c.den)
  pub above : i < j → c.num ≡ pos 0

abbrev pub KeepsUnitLower : Block → ℕ → ℕ → Fraction → Type 0
KeepsUnitLower J i j c = IsUnitLower i j c
KeepsUnitLower _ i j c = ⊤

-- an entry lies in its block
pub record EntryFits (s : Sizes) (e : Entry) : Type 0 where
  pub row : e.i < height s e.block
  pub column : e.j < width s e.block
  pub unit_lower : KeepsUnitLower e.block e.i e.j e.coef

-- a form
pub record ImplicitFits (f : Implicit) : Type 0 where
  pub rows_low : 1 ≤ rows f.sizes
  pub rows_high : rows f.sizes ≤ FORM_ROWS
  pub inputs_low : 1 ≤ f.sizes.u
  pub inputs_high : f.sizes.u ≤ PORTS
  pub outputs_low : 1 ≤ f.sizes.y
  pub outputs_high : f.sizes.y ≤ PORTS
  pub entries : All (EntryFits f.sizes) f.entries
  pub once : IsDistinct (λ (e g : Entry). same_place g e) f.entries

-- each coefficient has a denominator that a fraction may have
abbrev pub CoefficientsFit : List Entry → Type 0
CoefficientsFit entries = All (λ e. DenFits e.coef.den) entries
