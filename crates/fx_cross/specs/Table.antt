-- Sparse tables as their dense tables: an entry and a place for each row and column.
use Rattle.std.specs.Prelude.{◌≡◌, ℕ, ◌+◌, ◌*◌, ◌<◌, ◌≤◌, ◌&&◌, cond, nat_lt, not, unsigned_abs}
use Rattle.std.specs.Prelude.{List, slice_index_or}
use Rattle.std.specs.List.{count_by}
use Rattle.fx_math.specs.Sums.{sum_below}
use Rattle.fx_nums.specs.Fraction.{Fraction, zero_fraction, is_zero}
use Rattle.fx_mat.specs.Entries.{IsZeroOutside}
pub use Rattle.fx_mat.specs.Entries.{no_entries, put}
use Rattle.fx_cross.specs.declared.limits.TheConstants.{GREATEST_ROOM, GREATEST_SIDE}

-- the value is 0
abbrev pub IsZero : Fraction → Type 0
IsZero c = unsigned_abs c.num ≡ 0

-- it is another number
abbrev pub IsNonzero : Fraction → Type 0
IsNonzero c = IsZero c → ⊥

-- 0 over 10 ^ 0 for each fraction of value 0, the others as they are
abbrev pub plain : Fraction → Fraction
plain c = cond (is_zero c) zero_fraction c

-- what a list of rows has in row i and column j
unfoldable pub spot : {A : Type 0} → ℕ → ℕ → A → List A → ℕ → ℕ → A
spot rows columns outside xs i j =
    cond (nat_lt i rows && nat_lt j columns) (slice_index_or xs (i * columns + j) outside) outside

-- the entries and their places, row after row; the place of an entry of 0 is the room
pub record Table : Type 0 where
  pub rows : ℕ
  pub columns : ℕ
  pub room : ℕ
  pub entries : List Fraction
  pub places : List ℕ

-- the entry of row i and column j, 0 outside
abbrev pub entry_at : Table → ℕ → ℕ → Fraction
entry_at t = spot t.rows t.columns zero_fraction t.entries

-- the place of the entry of row i and column j, and the room where that is 0
abbrev pub place_at : Table → ℕ → ℕ → ℕ
place_at t = spot t.rows t.columns t.room t.places

-- how many entries are not 0
abbrev pub nonzero_count : Table → ℕ
nonzero_count t = count_by (λ c. not (is_zero c)) t.entries

-- 1 for a number other than 0
abbrev pub weight : Fraction → ℕ
weight c = cond (not (is_zero c)) 1 0

-- how many entries are not 0, by rows and columns
abbrev pub nonzero_entries : ℕ → ℕ → (ℕ → ℕ → Fraction) → ℕ
nonzero_entries rows columns at = sum_below rows (λ i. sum_below columns (λ j. weight (at i j)))

-- so many rows and columns, and room for so many entries
pub record HasSizes (t : Table) (rows columns room : ℕ) : Type 0 where
  pub rows_are : t.rows ≡ rows
  pub columns_are : t.columns ≡ columns
  pub room_is : t.room ≡ room

-- the entry in row i and column j is not 0, and p is its place
pub record IsEntry (t : Table) (i j p : ℕ) : Type 0 where
  pub nonzero : IsNonzero (entry_at t i j)
  pub placed : place_at t i j ≡ p

-- the table keeps the limits;
-- each entry is 0 over 10 ^ 0, or another number with a place of its own below the room
pub record HasPlaces (t : Table) : Type 0 where
  pub rows_high : t.rows ≤ GREATEST_SIDE
  pub columns_high : t.columns ≤ GREATEST_SIDE
  pub room_high : t.room ≤ GREATEST_ROOM
  pub zero : (i j : ℕ) → IsZero (entry_at t i j) → entry_at t i j ≡ zero_fraction
  pub below : (i j : ℕ) → IsNonzero (entry_at t i j) → place_at t i j < t.room
  pub apart : (i j p q : ℕ) → IsNonzero (entry_at t i j) → place_at t i j ≡ place_at t p q →
      (i ≡ p) × (j ≡ q)
  pub outside : IsZeroOutside t.rows t.columns (entry_at t)
  pub counted : nonzero_count t ≡ nonzero_entries t.rows t.columns (entry_at t)
  pub few : nonzero_count t ≤ t.rows * t.columns
  pub fewer : (i j : ℕ) → i < t.rows → j < t.columns → IsZero (entry_at t i j) →
      nonzero_count t < t.rows * t.columns

-- an entry that is not 0 before and after keeps its place
abbrev pub KeepsPlaces : Table → Table → Type 0
KeepsPlaces t t' =
    (i j : ℕ) → IsNonzero (entry_at t i j) → IsNonzero (entry_at t' i j) → place_at t' i j ≡ place_at t i j
