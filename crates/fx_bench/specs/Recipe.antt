-- Nets by a recipe.
use Rattle.std.specs.Prelude.{ℕ, zero, suc, ◌+◌, ◌-◌, ◌*◌, ◌/◌, ◌%◌, ◌^◌, ◌≤◌, min, pos}
use Rattle.fx_math.specs.Sums.{sum_below}
use Rattle.fx_nums.specs.Fraction.{Fraction}
use Rattle.fx_nums.specs.declared.fraction.Den.TheVariants.{Ten}
use Rattle.fx_net.specs.Net.{Net, empty_net, put_input, put_now, put_old}
use Rattle.fx_bench.specs.declared.recipe.Recipe.{Recipe}

-- each row reads some row, and no row of the moment before twice
pub record RecipeFits (r : Recipe) : Type 0 where
  pub rows_low : 1 ≤ r.rows
  pub rows_high : r.rows ≤ 64
  pub now_high : r.now ≤ 63
  pub old_high : r.old ≤ r.rows
  pub reads : 1 ≤ r.now + r.old
  pub places_low : 7 ≤ r.places
  pub places_high : r.places ≤ 18
  pub moments_low : 1 ≤ r.moments
  pub moments_high : r.moments ≤ 4096

-- ---- coefficients

-- the numerator of the n-th coefficient: 0.88 to 1.09, over the count of rows that a row reads, rounded down
abbrev pub numerator : Recipe → ℕ → ℕ
numerator r n = (880000 + (n * 7919 + 104729) % 200003) * 10 ^ (r.places - 6) / (r.now + r.old)

-- the n-th coefficient
abbrev pub coefficient : Recipe → ℕ → Fraction
coefficient r n = record { num = pos (numerator r n); den = Ten r.places }

-- ---- rows

-- how many rows before it row i reads in the same moment
abbrev pub earlier : Recipe → ℕ → ℕ
earlier r i = min i r.now

-- how many coefficients row i has
abbrev pub row_terms : Recipe → ℕ → ℕ
row_terms r i = earlier r i + r.old + 1

-- and the rows before row i
abbrev pub terms_before : Recipe → ℕ → ℕ
terms_before r i = sum_below i (row_terms r)

-- and all rows
abbrev pub terms : Recipe → ℕ
terms r = terms_before r r.rows

-- the net where row i reads the first k of the rows just before it, by coefficients n, n + 1, ..
unfoldable pub with_now : Recipe → ℕ → ℕ → ℕ → Net → Net
with_now r i n zero net = net
with_now r i n (suc k) net = put_now i (i - earlier r i + k) (coefficient r (n + k)) (with_now r i n k net)

-- where it reads the rows i, i + 1, .., k in all, of the moment before
unfoldable pub with_old : Recipe → ℕ → ℕ → ℕ → Net → Net
with_old r i n zero net = net
with_old r i n (suc k) net = put_old i ((i + k) % r.rows) (coefficient r (n + k)) (with_old r i n k net)

-- where it reads both, and input 0
abbrev pub with_row : Recipe → ℕ → ℕ → Net → Net
with_row r i n net =
    put_input i 0 (coefficient r (n + earlier r i + r.old))
    (with_old r i (n + earlier r i) r.old (with_now r i n (earlier r i) net))

-- where the first rows read theirs, by coefficients 1, 2, ..
unfoldable pub with_rows : Recipe → ℕ → Net → Net
with_rows r zero net = net
with_rows r (suc i) net = with_row r i (terms_before r i + 1) (with_rows r i net)

-- the recipe's net, with room for so many rows
abbrev pub recipe_net : Recipe → ℕ → Net
recipe_net r size = with_rows r r.rows (empty_net size)
