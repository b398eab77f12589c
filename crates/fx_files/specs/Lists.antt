-- The lists of coefficients of each form.
use Rattle.std.specs.Prelude.{ℕ, ◌+◌, List, [], ◌∷◌, length, Result, Ok}
use Rattle.toml.specs.Data.{Members, Items}
use Rattle.fx_math.specs.Faults.{◌>>=◌, unless}
use Rattle.fx_nums.specs.Fraction.{Fraction, is_one}
use Rattle.fx_keys.specs.Entries.{item_count, some, at_most, exactly}
use Rattle.fx_keys.specs.Numerals.{entries_in, rows_in, each_numeral, matrix}
use Rattle.fx_keys.specs.declared.fault.FilterFault.{FilterFault}
use Rattle.fx_keys.specs.declared.fault.FilterFault.TheVariants.{NotMonic}
use Rattle.fx_keys.specs.declared.key.Key.{Key}
use Rattle.fx_keys.specs.declared.key.Key.TheVariants as key
use Rattle.fx_keys.specs.declared.limits.TheConstants.{SECTION_COEFFICIENTS}
use Rattle.fx_files.specs.Coefficients as coefficients
use Rattle.fx_files.specs.Coefficients.{Coefficients}
use Rattle.fx_files.specs.declared.forms.Form.{Form}
use Rattle.fx_files.specs.declared.forms.Form.TheVariants.{Tf, Sos, Ss, Lattice}

-- ---- entries that are 1

-- the entry at this place, the first that is left, is 1
abbrev pub monic : Key → ℕ → List Fraction → Result (Unit {0}) FilterFault
monic k place [] = Ok tt
monic k place (c ∷ cs) = unless (NotMonic k place) (is_one c)

-- of each six entries the fourth is 1
unfoldable pub each_monic : Key → ℕ → List Fraction → Result (Unit {0}) FilterFault
each_monic k place (b0 ∷ b1 ∷ b2 ∷ a0 ∷ a1 ∷ a2 ∷ cs) = do
  u ← unless (NotMonic k (place + 3)) (is_one a0)
  each_monic k (place + 6) cs
each_monic k place _ = Ok tt

-- ---- transfer function

-- one or more coefficients, up to one more than the greatest order
unfoldable pub polynomial_in : Key → Members → Result (List Fraction) FilterFault
polynomial_in k t = do
  vs ← entries_in k t
  u ← some k vs
  u ← at_most k vs
  each_numeral k 0 vs

-- the first coefficient of the denominator is 1
unfoldable pub transfer_in : Members → Result Coefficients FilterFault
transfer_in t = do
  b ← polynomial_in key.B t
  a ← polynomial_in key.A t
  u ← monic key.A 0 a
  Ok (coefficients.Tf b a)

-- ---- second-order sections

-- rows of so many coefficients as a section has, of which the fourth is 1
unfoldable pub cascade_in : Members → Result Coefficients FilterFault
cascade_in t = do
  rows ← rows_in key.Sections t
  u ← some key.Sections rows
  u ← at_most key.Sections rows
  cs ← matrix key.Sections SECTION_COEFFICIENTS rows
  u ← each_monic key.Sections 0 cs
  Ok (coefficients.Sos cs)

-- ---- state space

-- one row for each state
unfoldable pub state_rows : Members → Result Items FilterFault
state_rows t = do
  rows ← rows_in key.MatA t
  u ← some key.MatA rows
  u ← at_most key.MatA rows
  Ok rows

-- a matrix of so many rows of so many entries each
unfoldable pub matrix_in : Key → ℕ → ℕ → Members → Result (List Fraction) FilterFault
matrix_in k count width t = do
  rows ← rows_in k t
  u ← some k rows
  u ← exactly k count rows
  matrix k width rows

-- n by n, n by m, p by n and p by m
unfoldable pub space_in : ℕ → ℕ → Members → Result Coefficients FilterFault
space_in m p t = do
  rows ← state_rows t
  a ← matrix key.MatA (item_count rows) rows
  b ← matrix_in key.MatB (item_count rows) m t
  c ← matrix_in key.MatC p (item_count rows) t
  d ← matrix_in key.MatD p m t
  Ok (coefficients.Ss (item_count rows) a b c d)

-- ---- lattice

-- up to so many reflection coefficients as the greatest order
unfoldable pub reflections_in : Members → Result (List Fraction) FilterFault
reflections_in t = do
  vs ← entries_in key.K t
  u ← at_most key.K vs
  each_numeral key.K 0 vs

-- one tap more
unfoldable pub taps_in : ℕ → Members → Result (List Fraction) FilterFault
taps_in n t = do
  vs ← entries_in key.V t
  u ← some key.V vs
  u ← exactly key.V (n + 1) vs
  each_numeral key.V 0 vs

unfoldable pub ladder_in : Members → Result Coefficients FilterFault
ladder_in t = do
  k ← reflections_in t
  v ← taps_in (length k) t
  Ok (coefficients.Lattice k v)

-- ---- each form, with so many inputs and outputs

abbrev pub coefficients_in : Form → ℕ → ℕ → Members → Result Coefficients FilterFault
coefficients_in Tf m p t = transfer_in t
coefficients_in Sos m p t = cascade_in t
coefficients_in Ss m p t = space_in m p t
coefficients_in Lattice m p t = ladder_in t
