-- Rows of terms in a net.
use Rattle.std.specs.Prelude.{◌≡◌, ℕ, ◌+◌, ◌-◌, ◌<◌, ◌≤◌, ◌==◌, ◌&&◌, Bool, false, nat_lt, nat_le, cond, List}
use Rattle.std.specs.Prelude.{[], ◌∷◌, length, slice_index_or}
use Rattle.fx_nums.specs.Fraction.{Fraction, zero_fraction}
use Rattle.fx_eqs.specs.declared.limits.TheConstants.{PORTS}
use Rattle.fx_eqs.specs.Expanded.{NetRead, NetTerm}
use Rattle.fx_eqs.specs.Expanded.NetRead.{Now, Old, In}
use Rattle.fx_net.specs.Net.{Net, plain, put_now, put_old, put_input}

-- ---- what reads what, where the rows stand from a place on: row s of them is row at + s of the net

abbrev pub reads_now : ℕ → ℕ → NetRead → Bool
reads_now at j (Now s) = j == at + s
reads_now at j (Old s) = false
reads_now at j (In s) = false

abbrev pub reads_old : ℕ → ℕ → NetRead → Bool
reads_old at j (Now s) = false
reads_old at j (Old s) = j == at + s
reads_old at j (In s) = false

abbrev pub reads_input : ℕ → NetRead → Bool
reads_input j (Now s) = false
reads_input j (Old s) = false
reads_input j (In s) = j == s

-- the coefficient of the last term that reads so, and c where none does
abbrev pub coefficient_or : Fraction → (NetRead → Bool) → List NetTerm → Fraction
coefficient_or c reads [] = c
coefficient_or c reads (t ∷ ts) = coefficient_or (cond (reads t.from) (plain t.coef) c) reads ts

-- the coefficient of the term that reads so, and zero where none does
abbrev pub coefficient : (NetRead → Bool) → List NetTerm → Fraction
coefficient reads ts = coefficient_or zero_fraction reads ts

-- the terms of row r, none outside
unfoldable pub row_of : List (List NetTerm) → ℕ → List NetTerm
row_of rows r = slice_index_or rows r []

-- ---- a net with rows put

-- i is one of so many places from a place on
abbrev pub is_within : ℕ → ℕ → ℕ → Bool
is_within at count i = nat_le at i && nat_lt i (at + count)

-- one table with the coefficients of these rows in their place
abbrev pub put_table : (ℕ → NetRead → Bool) → List (List NetTerm) → ℕ → (ℕ → ℕ → Fraction) → ℕ → ℕ → Fraction
put_table reads rows at entries i j =
    cond (is_within at (length rows) i) (coefficient (reads j) (row_of rows (i - at))) (entries i j)

-- the net with these rows from a place on, each of class 0; the other rows stay
unfoldable pub put_rows : List (List NetTerm) → ℕ → Net → Net
put_rows rows at net = record {
  rows = net.rows;
  now = put_table (reads_now at) rows at net.now;
  old = put_table (reads_old at) rows at net.old;
  input = put_table reads_input rows at net.input;
  class = λ i. cond (is_within at (length rows) i) 0 (net.class i);
}

-- so many rows from a place on read nothing and have class 0
pub record AreEmpty (at count : ℕ) (net : Net) : Type 0 where
  pub now : (i j : ℕ) → at ≤ i → i < at + count → net.now i j ≡ zero_fraction
  pub old : (i j : ℕ) → at ≤ i → i < at + count → net.old i j ≡ zero_fraction
  pub input : (i j : ℕ) → at ≤ i → i < at + count → net.input i j ≡ zero_fraction
  pub class : (i : ℕ) → at ≤ i → i < at + count → net.class i ≡ 0

-- row i is the same in both nets
pub record IsSameRow (i : ℕ) (a b : Net) : Type 0 where
  pub now : (j : ℕ) → a.now i j ≡ b.now i j
  pub old : (j : ℕ) → a.old i j ≡ b.old i j
  pub input : (j : ℕ) → a.input i j ≡ b.input i j
  pub class : a.class i ≡ b.class i

-- the net has these rows from a place on
pub record HoldsRows (net : Net) (at : ℕ) (rows : List (List NetTerm)) : Type 0 where
  pub inside : at + length rows ≤ net.rows
  pub now : (r j : ℕ) → r < length rows → j < at + r → net.now (at + r) j ≡ coefficient (reads_now at j) (row_of rows r)
  pub old : (r j : ℕ) → r < length rows → j < net.rows →
      net.old (at + r) j ≡ coefficient (reads_old at j) (row_of rows r)
  pub input : (r j : ℕ) → r < length rows → j < PORTS →
      net.input (at + r) j ≡ coefficient (reads_input j) (row_of rows r)

-- ---- one term after another

-- row r of those from a place on takes one more term
abbrev pub put_term : ℕ → ℕ → Fraction → NetRead → Net → Net
put_term at r c (Now s) net = put_now (at + r) (at + s) c net
put_term at r c (Old s) net = put_old (at + r) (at + s) c net
put_term at r c (In s) net = put_input (at + r) s c net

-- and all these terms
abbrev pub put_terms : ℕ → ℕ → List NetTerm → Net → Net
put_terms at r [] net = net
put_terms at r (t ∷ ts) net = put_terms at r ts (put_term at r t.coef t.from net)

-- these rows, the first of them being row r
abbrev pub put_each : ℕ → ℕ → List (List NetTerm) → Net → Net
put_each at r [] net = net
put_each at r (ts ∷ rows) net = put_each at (r + 1) rows (put_terms at r ts net)

-- what row r may read, in a net of so many rows
abbrev pub ReadFits : ℕ → ℕ → ℕ → NetRead → Type 0
ReadFits n at r (Now s) = s < r
ReadFits n at r (Old s) = at + s < n
ReadFits n at r (In s) = s < PORTS
