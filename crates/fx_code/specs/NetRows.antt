-- The rows of a program in a net, where what a row stores is its value.
use Rattle.std.specs.Prelude.{◌≡◌, ℕ, ◌+◌, ◌-◌, ◌<◌, ◌==◌, cond, List, map, length, slice_index_or}
use Rattle.fx_nums.specs.declared.fraction.Den.TheVariants.{Two}
use Rattle.fx_eqs.specs.Expanded.{NetRead, NetTerm}
use Rattle.fx_eqs.specs.Expanded.NetRead.{Now as NowRow, Old as OldRow, In as Input}
use Rattle.fx_eqs.specs.declared.mode.Mode.{Mode}
use Rattle.fx_eqs.specs.declared.mode.Mode.TheVariants.{Nearest, Floor}
use Rattle.fx_net.specs.Net.{Net}
use Rattle.fx_net.specs.Rows.{is_within, put_rows, HoldsRows}
use Rattle.fx_code.specs.Code.{BareRow, Code, bare, no_bare_row, weight}
use Rattle.fx_code.specs.declared.term.CodeTerm.{CodeTerm}
use Rattle.fx_code.specs.declared.term.Read.{Read}
use Rattle.fx_code.specs.declared.term.Read.TheVariants.{Now, Old, In}

-- what a term reads, as the rows of a net say it
abbrev pub net_read : Read → NetRead
net_read (Now j) = NowRow j
net_read (Old j) = OldRow j
net_read (In j) = Input j

-- a term of a row with this right shift: its coefficient, shifted to the left, over 2 to the power of the right shift
abbrev pub net_term : ℕ → CodeTerm → NetTerm
net_term shift t = record { coef = record { num = weight t; den = Two shift }; from = net_read t.from }

abbrev pub net_row : BareRow → List NetTerm
net_row row = map (net_term row.shift) row.terms

-- how many half steps a row that drops places may be off: one to the nearest, two down
abbrev pub halves_of : Mode → ℕ
halves_of Nearest = 1
halves_of Floor = 2

-- none where nothing is shifted away
abbrev pub class_in : Mode → ℕ → ℕ
class_in mode shift = cond (shift == 0) 0 (halves_of mode)

-- how many half steps the perturbation of a row may have
abbrev pub class_of : BareRow → ℕ
class_of row = class_in row.mode row.shift

-- ---- rows whose widths are still open

-- the row at a place
abbrev pub bare_at : List BareRow → ℕ → BareRow
bare_at rows i = slice_index_or rows i no_bare_row

-- the half steps of each of these rows
abbrev pub classes_of : List BareRow → ℕ → ℕ
classes_of rows i = class_of (bare_at rows i)

-- the half steps of all rows of a net, with those of so many rows put from a place on
abbrev pub put_classes : (ℕ → ℕ) → ℕ → ℕ → (ℕ → ℕ) → ℕ → ℕ
put_classes put at count class i = cond (is_within at count i) (put (i - at)) (class i)

-- the net with these rows from a place on, each with its class; its other rows stay
abbrev pub put_bare_rows : List BareRow → ℕ → Net → Net
put_bare_rows rows at net =
    record (put_rows (map net_row rows) at net) {
      class =
          put_classes (classes_of rows) at (length rows) net.class;
    }

-- the net has these rows from a place on, each with its class
pub record HoldsBareRows (net : Net) (at : ℕ) (bare : List BareRow) : Type 0 where
  pub rows : HoldsRows net at (map net_row bare)
  pub classes : (i : ℕ) → i < length bare → net.class (at + i) ≡ class_of (bare_at bare i)

-- ---- programs

-- the rows of a program without their widths
abbrev pub bare_rows : Code → List BareRow
bare_rows p = map bare p.rows

-- the net with the rows of the program from a place on
abbrev pub put_code : Code → ℕ → Net → Net
put_code p at net = put_bare_rows (bare_rows p) at net

-- the net has the rows of the program from a place on
abbrev pub HoldsCode : Net → ℕ → Code → Type 0
HoldsCode net at p = HoldsBareRows net at (bare_rows p)
