-- The numbers that totals keep of some targets.
use Rattle.std.specs.Prelude.{◌≡◌, ℕ, ◌+◌, ◌-◌, ◌*◌, ◌^◌, ◌<◌, ◌≤◌, ℤ, pos, ◌+ℤ◌, ◌*ℤ◌, ◌≤ℤ◌, unsigned_abs}
use Rattle.std.specs.Prelude.{List, length}
use Rattle.fx_math.specs.Sums.{total}
use Rattle.fx_eqs.specs.declared.limits.TheConstants.{PORTS}
use Rattle.fx_nums.specs.declared.limits.TheConstants.{OPERAND_BITS}
use Rattle.fx_net.specs.declared.limits.TheConstants.{LARGEST_NET}
use Rattle.fx_sweep.specs.Swept.{whole_in}

-- How many rows a net has, how many targets are filled, and how many of these, from the first on, are the rows in
-- order; and target after target its rounding, the gains of the inputs, and the widths and the rests of the rows.
pub record Kept : Type 0 where
  pub size : ℕ
  pub filled : ℕ
  pub leading : ℕ
  pub roundings : List ℤ
  pub input_gains : List ℤ
  pub row_widths : List ℤ
  pub row_rests : List ℤ

abbrev pub kept_of : ℕ → ℕ → ℕ → List ℤ → List ℤ → List ℤ → List ℤ → Kept
kept_of size filled leading roundings gains widths rests = record {
  size = size;
  filled = filled;
  leading = leading;
  roundings = roundings;
  input_gains = gains;
  row_widths = widths;
  row_rests = rests;
}

-- those of target t
abbrev pub kept_rounding : Kept → ℕ → ℤ
kept_rounding k t = whole_in k.roundings t

abbrev pub kept_gain : Kept → ℕ → ℕ → ℤ
kept_gain k t j = whole_in k.input_gains (t * PORTS + j)

abbrev pub kept_width : Kept → ℕ → ℕ → ℤ
kept_width k t i = whole_in k.row_widths (t * k.size + i)

abbrev pub kept_rest : Kept → ℕ → ℕ → ℤ
kept_rest k t i = whole_in k.row_rests (t * k.size + i)

-- the total that these numbers give
abbrev pub kept_total : Kept → ℕ → (ℕ → ℕ) → (ℕ → ℕ) → ℤ
kept_total k t bounds rows =
    total PORTS (λ j. kept_gain k t j *ℤ pos (bounds j)) +ℤ kept_rounding k t +ℤ total k.size (λ i.
    kept_width k t i *ℤ pos (rows i))
    +ℤ total k.size (λ i. kept_rest k t i *ℤ pos (rows i))

-- ---- limits

-- not negative, and at most a bound
abbrev pub IsUpTo : ℕ → ℤ → Type 0
IsUpTo most z = (pos 0 ≤ℤ z) × (z ≤ℤ pos most)

abbrev pub AreUpTo : ℕ → List ℤ → Type 0
AreUpTo most xs = (k : ℕ) → IsUpTo most (whole_in xs k)

-- the greatest gain and rest, the greatest width, and the greatest rounding: 64 rows with two half steps each
abbrev pub greatest_gain : ℕ
greatest_gain = 2 ^ OPERAND_BITS - 1

-- the greatest total, and the greatest part of one
abbrev pub greatest_total : ℕ
greatest_total = 2 ^ 126 - 1

abbrev pub greatest_sum_of_widths : ℕ
greatest_sum_of_widths = 2 ^ 76

abbrev pub greatest_rounding : ℕ
greatest_rounding = 2 ^ 95

-- the greatest bound of a word or a row
abbrev pub greatest_bound : ℕ
greatest_bound = 2 ^ 31 - 1

-- the bounds of a list, which are not negative
abbrev pub bound_in : List ℤ → ℕ → ℕ
bound_in xs i = unsigned_abs (whole_in xs i)

-- each is at most the greatest
abbrev pub AreBounds : List ℤ → Type 0
AreBounds xs = AreUpTo greatest_bound xs

-- there is room for the rows and for a target of each output, and no number is above its limit
pub record KeptFits (k : Kept) : Type 0 where
  pub rows_low : 1 ≤ k.size
  pub rows_high : k.size ≤ LARGEST_NET
  pub filled_fits : k.filled ≤ k.size + PORTS
  pub leading_fits : k.leading ≤ k.filled
  pub leading_rows : k.leading ≤ k.size
  pub rounding_count : length k.roundings ≡ k.size + PORTS
  pub gain_count : length k.input_gains ≡ (k.size + PORTS) * PORTS
  pub width_count : length k.row_widths ≡ (k.size + PORTS) * k.size
  pub rest_count : length k.row_rests ≡ (k.size + PORTS) * k.size
  pub roundings_fit : AreUpTo greatest_rounding k.roundings
  pub gains_fit : AreUpTo greatest_gain k.input_gains
  pub widths_fit : AreUpTo greatest_sum_of_widths k.row_widths
  pub rests_fit : AreUpTo greatest_gain k.row_rests

-- ---- one target after the other

-- the numbers of the first n targets are the same
pub record AreEarlierSame (n : ℕ) (a b : Kept) : Type 0 where
  pub sizes : a.size ≡ b.size
  pub roundings_same : (t : ℕ) → t < n → kept_rounding b t ≡ kept_rounding a t
  pub gains_same : (t j : ℕ) → t < n → j < PORTS → kept_gain b t j ≡ kept_gain a t j
  pub widths_same : (t i : ℕ) → t < n → i < a.size → kept_width b t i ≡ kept_width a t i
  pub rests_same : (t i : ℕ) → t < n → i < a.size → kept_rest b t i ≡ kept_rest a t i
