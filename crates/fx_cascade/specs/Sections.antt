-- Second-order sections in one list, six coefficients each: b0, b1, b2, a0, a1, a2, of which a0 stands for 1 and is not
-- read.
use Rattle.std.specs.Prelude.{◌≡◌, ℕ, ◌+◌, ◌*◌, ◌/◌, ◌≤◌, List, length}
use Rattle.fx_nums.specs.Fraction.{Fraction}
use Rattle.fx_eqs.specs.declared.limits.TheConstants.{SECTIONS}
use Rattle.fx_sif.specs.Entries.{coefficient}

-- how many sections there are
abbrev pub count_of : List Fraction → ℕ
count_of cs = length cs / 6

-- one to SECTIONS whole sections
pub record SectionsFit (cs : List Fraction) : Type 0 where
  pub low : 6 ≤ length cs
  pub high : length cs ≤ 6 * SECTIONS
  pub whole : length cs ≡ 6 * count_of cs

-- the coefficients of section i
abbrev pub b0 : List Fraction → ℕ → Fraction
b0 cs i = coefficient cs (6 * i)

abbrev pub b1 : List Fraction → ℕ → Fraction
b1 cs i = coefficient cs (6 * i + 1)

abbrev pub b2 : List Fraction → ℕ → Fraction
b2 cs i = coefficient cs (6 * i + 2)

abbrev pub a1 : List Fraction → ℕ → Fraction
a1 cs i = coefficient cs (6 * i + 4)

abbrev pub a2 : List Fraction → ℕ → Fraction
a2 cs i = coefficient cs (6 * i + 5)
