-- What a row of a design takes of what it reads, in the numbers of its form.
use Rattle.std.specs.Prelude.{◌≡◌, ℕ, ◌*◌, ◌^◌, ◌%◌, ◌<◌, ◌≤◌, ◌==◌, cond, false, IsTrue, ℤ, pos, ◌+ℤ◌, ◌-ℤ◌}
use Rattle.std.specs.Prelude.{◌*ℤ◌, unsigned_abs, List, [], ◌∷◌, All, Ok, ◌⊎◌}
use Rattle.std.specs.List.{list_any}
use Rattle.fx_nums.specs.Fraction.{Fraction, den_value}
use Rattle.fx_nums.specs.declared.limits.TheConstants.{VALUE_BITS}
use Rattle.fx_net.specs.Links.{coefficients}
use Rattle.fx_net.specs.declared.net.Which.{Which}
use Rattle.fx_net.specs.declared.net.Which.TheVariants.{Now as NowTable, Old as OldTable, In as InTable}
use Rattle.fx_code.specs.Code.{BareRow, weight}
use Rattle.fx_code.specs.Limits.{same_source}
use Rattle.fx_code.specs.NetRows.{bare_at}
use Rattle.fx_code.specs.declared.term.CodeTerm.{CodeTerm}
use Rattle.fx_code.specs.declared.term.Read.{Read}
use Rattle.fx_sif.specs.Implicit.{Implicit, rows}
use Rattle.fx_quant.specs.Design.{Quantised}
use Rattle.fx_quant.specs.Positions.{Grid, row_low, source_low, grid}
use Rattle.fx_quant.specs.Quantised.{form_net, quantised, FractionFits}
use Rattle.fx_quant.specs.Rounding.{rounded}
use Rattle.fx_quant.specs.Rows.{read}
use Rattle.fx_quant.specs.declared.formats.Formats.{Formats}
use Rattle.fx_quant.specs.declared.formats.TheConstants.{ROUNDED_BITS}

-- the weight of a source in a row: of all terms that read it together, 0 where none does
abbrev pub weight_in : List CodeTerm → Read → ℤ
weight_in [] from = pos 0
weight_in (t ∷ ts) from = cond (same_source t.from from) (weight t) (pos 0) +ℤ weight_in ts from

-- 2^a over 2^b is what a source's unit of 2^-fraction steps is in a row's units of 2^-shift steps
abbrev pub IsUnit : Grid → ℕ → Read → ℕ → ℕ → ℕ → Type 0
IsUnit g i from shift a b =
    (pos a +ℤ pos g.fraction) +ℤ row_low g i ≡ (pos b +ℤ pos shift) +ℤ source_low g from

-- Row i takes the coefficient c of a source, rounded: its weight over 2^shift, in steps of the row, is the rounded c
-- over 2^fraction, in steps of the source. So it is off by at most half of 2^-fraction such steps. A source whose
-- coefficient is rounded to 0 is not read.
pub record Takes (g : Grid) (i : ℕ) (row : BareRow) (from : Read) (c : Fraction) : Type 0 where
  pub rounds : (a b : ℕ) → IsUnit g i from row.shift a b →
      weight_in row.terms from *ℤ pos (2 ^ b) ≡ rounded g.fraction c *ℤ pos (2 ^ a)
  pub near : (a b : ℕ) → IsUnit g i from row.shift a b → 0 < den_value c.den →
      2 * unsigned_abs ((weight_in row.terms from *ℤ pos (2 ^ b)) *ℤ pos (den_value c.den)
      -ℤ (c.num *ℤ pos (2 ^ g.fraction)) *ℤ pos (2 ^ a)) ≤ den_value c.den * 2 ^ a
  pub unread : rounded g.fraction c ≡ pos 0 → All (λ (t : CodeTerm). same_source t.from from ≡ false) row.terms

-- the sources of each kind that row i of a form may read
abbrev pub sources : Implicit → ℕ → Which → ℕ
sources f i NowTable = i
sources f i OldTable = rows f.sizes
sources f i InTable = f.sizes.u

-- an odd coefficient is not 0, and no smaller one shifted to the left
abbrev pub IsOdd : CodeTerm → Type 0
IsOdd t = unsigned_abs t.coef % 2 ≡ 1

-- all coefficients are odd, and the right shift is the least that leaves them whole: it is 0, or some term has no left
-- shift
pub record IsReduced (row : BareRow) : Type 0 where
  pub odd : All IsOdd row.terms
  pub least : (row.shift ≡ 0) ⊎ IsTrue (list_any (λ (t : CodeTerm). t.left == 0) row.terms)

-- so it is in each row of each design of a form
pub record RowsTakeTheForms (f : Implicit) (formats : Formats) (guards : List ℕ) (fraction : ℕ) (d : Quantised) :
    Type 0 where
  pub takes : (i : ℕ) (which : Which) (j : ℕ) → i < rows f.sizes → j < sources f i which →
      Takes (grid formats guards f.sizes.y fraction) i (bare_at d.rows i) (read which j)
      (coefficients (form_net f) which i j)
  pub reduced : (i : ℕ) → i < rows f.sizes → IsReduced (bare_at d.rows i)
  pub modes : (i : ℕ) → i < rows f.sizes → (bare_at d.rows i).mode ≡ formats.mode

-- the rounded coefficients are small, as those of fractions are
abbrev pub AreSmall : Implicit → ℕ → Type 0
AreSmall f fraction = (which : Which) (i j : ℕ) →
    unsigned_abs (rounded fraction (coefficients (form_net f) which i j)) < 2 ^ ROUNDED_BITS

abbrev pub RoundedRows : Type 0
RoundedRows =
    (f : Implicit) (formats : Formats) (guards : List ℕ) (fraction : ℕ) (d : Quantised) → AreSmall f fraction →
    quantised f formats guards fraction ≡ Ok d → RowsTakeTheForms f formats guards fraction d

abbrev pub FractionsAreSmall : Type 0
FractionsAreSmall = (fraction : ℕ) (c : Fraction) → FractionFits fraction → 0 < den_value c.den →
    unsigned_abs c.num < 2 ^ VALUE_BITS * den_value c.den → unsigned_abs (rounded fraction c) < 2 ^ ROUNDED_BITS
