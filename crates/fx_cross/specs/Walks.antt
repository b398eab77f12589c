-- Walks along rows and down columns: the entries that are not 0, in rising order.
use Rattle.std.specs.Prelude.{◌≡◌, ℕ, zero, suc, ◌+◌, ◌-◌, ◌<◌, ◌≤◌, cond, List, [], ◌∷◌, Option}
use Rattle.std.specs.Option.{MatchOption}
use Rattle.fx_nums.specs.Fraction.{Fraction, zero_fraction, is_zero}
use Rattle.fx_cross.specs.declared.cross.Link.{Link}
use Rattle.fx_cross.specs.Table.{Table, entry_at, place_at, IsNonzero}
use Rattle.fx_cross.specs.Lines.{source}
use Rattle.fx_cross.specs.WellLinked.{head_of}

-- a row or a column: how many entries it has, the entries, and their places
pub record Line : Type 0 where
  pub width : ℕ
  pub entry : ℕ → Fraction
  pub place : ℕ → ℕ

abbrev pub row_line : Table → ℕ → Line
row_line t i = record { width = t.columns; entry = entry_at t i; place = place_at t i }

abbrev pub column_line : Table → ℕ → Line
column_line t j = record {
  width = t.rows;
  entry = λ i. entry_at t i j;
  place = λ i. place_at t i j;
}

-- the link of a place, a position and a value
abbrev pub link_at : ℕ → ℕ → Fraction → Link
link_at p k c = record { place = p; index = k; coef = c }

-- ---- one step

-- each entry of a line at `from` or after it is 0
abbrev pub AreZeroFrom : Line → ℕ → Type 0
AreZeroFrom line from = (k : ℕ) → from ≤ k → line.entry k ≡ zero_fraction

-- the link shows the first entry of a line at `from` or after it that is not 0
pub record IsFirstFrom (line : Line) (from : ℕ) (link : Link) : Type 0 where
  pub inside : link.index < line.width
  pub reached : from ≤ link.index
  pub value : link.coef ≡ line.entry link.index
  pub nonzero : IsNonzero (line.entry link.index)
  pub placed : link.place ≡ line.place link.index
  pub least : (k : ℕ) → from ≤ k → k < link.index → line.entry k ≡ zero_fraction

-- an answer gives the first such entry; it is none just where there is no such entry
abbrev pub GivesFirst : Line → ℕ → Option Link → Type 0
GivesFirst line from answer = MatchOption answer (AreZeroFrom line from) (IsFirstFrom line from)

-- ---- whole walks

-- the links of the entries of a line that are not 0, of so many from one on
abbrev pub links_of : Line → ℕ → ℕ → List Link
links_of line from zero = []
links_of line from (suc n) =
    cond (is_zero (line.entry from)) (links_of line (suc from) n)
    (link_at (line.place from) from (line.entry from) ∷ links_of line (suc from) n)

-- those of a line from one on
unfoldable pub links_from : Line → ℕ → List Link
links_from line from = links_of line from (line.width - from)

-- the entries of row i that are not 0, by rising column
abbrev pub row_links : Table → ℕ → List Link
row_links t i = links_from (row_line t i) 0

-- the entries of column j that are not 0, by rising row
abbrev pub column_links : Table → ℕ → List Link
column_links t j = links_from (column_line t j) 0

-- ---- what leads on

-- `at` leads to the first entry of a row at `from` or after it
pub record LeadsAlong (t : Table) (row from at : ℕ) : Type 0 where
  pub inside : row < t.rows
  pub leads : source (head_of t.room) (place_at t) row from ≡ at
  pub some : at ≡ t.room → ⊥

-- `at` leads to the first entry of a column at `from` or after it
pub record LeadsDown (t : Table) (column from at : ℕ) : Type 0 where
  pub inside : column < t.columns
  pub leads : source (head_of t.room) (λ j i. place_at t i j) column from ≡ at
  pub some : at ≡ t.room → ⊥

-- the place of a link leads on past its index
abbrev pub LeadsPast : (ℕ → ℕ → Type 0) → Link → Type 0
LeadsPast leads link = leads (link.index + 1) link.place
