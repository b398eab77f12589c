-- Programs of integer code, as contracts see them.
use Rattle.std.specs.Prelude.{ℕ, zero, suc, ◌^◌, ◌<◌, ℤ, pos, ◌*ℤ◌, List, [], length, slice_index_or, All, ⊤}
use Rattle.fx_eqs.specs.declared.mode.Mode.{Mode}
use Rattle.fx_eqs.specs.declared.mode.Mode.TheVariants.{Nearest, Floor}
use Rattle.fx_code.specs.declared.term.CodeTerm.{CodeTerm}
use Rattle.fx_code.specs.declared.term.Read.{Read}
use Rattle.fx_code.specs.declared.term.Read.TheVariants.{Now, Old, In}

-- a row whose width is still open: the right shift of its sum, how that drops the low places, and its terms in their
-- order
pub record BareRow : Type 0 where
  pub shift : ℕ
  pub mode : Mode
  pub terms : List CodeTerm

-- a row: the bits of its stored word, and all else
pub record Row : Type 0 where
  pub width : ℕ
  pub own : BareRow

-- a program: the bits of its accumulators, the bits of each input, its rows in order, and the row of each output
pub record Code : Type 0 where
  pub accumulator : ℕ
  pub inputs : List ℕ
  pub rows : List Row
  pub outputs : List ℕ

-- what stands past the rows: a row without terms
abbrev pub no_bare_row : BareRow
no_bare_row = record { shift = 0; mode = Nearest; terms = [] }

abbrev pub no_row : Row
no_row = record { width = 0; own = no_bare_row }

-- the row at a place
abbrev pub row_at : Code → ℕ → Row
row_at p i = slice_index_or p.rows i no_row

-- a row without its width
abbrev pub bare : Row → BareRow
bare row = row.own

-- half of the last place that a right shift drops
abbrev pub half_place : ℕ → ℕ
half_place zero = 0
half_place (suc r) = 2 ^ r

-- what an accumulator begins with: half of the last place that is dropped, where it rounds to the nearest
abbrev pub constant_in : Mode → ℕ → ℕ
constant_in Nearest r = half_place r
constant_in Floor r = 0

-- what a row's accumulator begins with
abbrev pub constant_of : BareRow → ℕ
constant_of row = constant_in row.mode row.shift

-- a coefficient shifted to the left
abbrev pub weight : CodeTerm → ℤ
weight t = t.coef *ℤ pos (2 ^ t.left)

-- a row of the moment before that is read is there
abbrev pub OldIsThere : ℕ → Read → Type 0
OldIsThere rows (Old i) = i < rows
OldIsThere rows (Now i) = ⊤
OldIsThere rows (In j) = ⊤

-- all rows that are read are there, and there is an output
pub record IsWhole (p : Code) : Type 0 where
  pub reads : All (λ (row : Row). All (λ (t : CodeTerm). OldIsThere (length p.rows) t.from) row.own.terms) p.rows
  pub output : 0 < length p.outputs
