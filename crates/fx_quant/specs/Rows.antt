-- The quantised rows of a net: each coefficient as an odd number, shifted to the left, over 2 to the power of the right
-- shift of its row.
use Rattle.std.specs.Prelude.{◌≡◌, All, length, false, ◌<◌, ◌≤◌, ℕ, zero, suc, ◌+◌, ◌^◌, max, nat_lt}
use Rattle.std.specs.Prelude.{nat_le, ◌==◌, ◌||◌, Bool, cond, ℤ, pos, ◌+ℤ◌, ◌-ℤ◌, ◌*ℤ◌, unsigned_abs, List, []}
use Rattle.std.specs.Prelude.{◌∷◌, ◌++◌, map, Option, Some, None, Result, Ok, Err}
use Rattle.std.specs.Int.{int_max}
use Rattle.std.specs.List.{list_any}
use Rattle.fx_math.specs.Faults.{fault_if, ◌>>=◌}
use Rattle.fx_math.specs.Sums.{joined}
use Rattle.fx_nums.specs.Fraction.{Fraction}
use Rattle.fx_net.specs.Links.{coefficients}
use Rattle.fx_net.specs.Net.{Net}
use Rattle.fx_net.specs.declared.net.Which.{Which}
use Rattle.fx_net.specs.declared.net.Which.TheVariants.{Now as NowTable, Old as OldTable, In as InTable}
use Rattle.fx_eqs.specs.declared.mode.Mode.{Mode}
use Rattle.fx_code.specs.Code.{BareRow}
use Rattle.fx_code.specs.declared.limits.TheConstants.{LONGEST_SHIFT, COEFFICIENT_BITS, PRODUCT_BITS}
use Rattle.fx_code.specs.declared.term.CodeTerm.{CodeTerm}
use Rattle.fx_code.specs.declared.term.Read.{Read}
use Rattle.fx_code.specs.declared.term.Read.TheVariants.{Now, Old, In}
use Rattle.fx_quant.specs.Positions.{Grid, row_low, source_low}
use Rattle.fx_quant.specs.Rounding.{rounded, zeros, odd_part}
use Rattle.fx_quant.specs.declared.fault.QuantFault.{QuantFault}
use Rattle.fx_quant.specs.declared.fault.QuantFault.TheVariants.{ShiftRange, Wide}
use Rattle.fx_quant.specs.declared.formats.Formats.{Formats}
use Rattle.fx_quant.specs.declared.formats.TheConstants.{ROUNDED_BITS}
use Rattle.fx_quant.specs.declared.scaled.Scaled.{Scaled}

-- ---- one term

-- the rounded coefficient c, from a source into row i: in units of the row's last place, a step of the source counts
-- the odd part over 2 to the power of the places
abbrev pub scaled : Grid → ℕ → Read → ℤ → Scaled
scaled g i from c = record {
  odd = odd_part c;
  places =
      (pos g.fraction -ℤ pos (zeros c)) +ℤ (row_low g i -ℤ source_low g from);
  from = from;
}

-- a coefficient that is rounded to 0 is dropped
abbrev pub kept_or_dropped : Grid → ℕ → Read → ℤ → List Scaled
kept_or_dropped g i from c = cond (unsigned_abs c == 0) [] (scaled g i from c ∷ [])

abbrev pub kept : Grid → ℕ → Read → Fraction → List Scaled
kept g i from c = kept_or_dropped g i from (rounded g.fraction c)

-- ---- the terms of a row

abbrev pub read : Which → ℕ → Read
read NowTable j = Now j
read OldTable j = Old j
read InTable j = In j

-- those from the first sources of one kind, by rising index
abbrev pub kept_of : Grid → Net → ℕ → Which → ℕ → List Scaled
kept_of g net i which count = joined count (λ j. kept g i (read which j) (coefficients net which i j))

-- of row i: first from the rows before it in this moment, then from all rows in the moment before, then from the inputs
abbrev pub kept_terms : Grid → Net → ℕ → ℕ → ℕ → List Scaled
kept_terms g net rows inputs i =
    kept_of g net i NowTable i ++ kept_of g net i OldTable rows ++ kept_of g net i InTable inputs

-- ---- its shifts

-- 0 for a number below 0
abbrev pub at_least_zero : ℤ → ℕ
at_least_zero z = unsigned_abs (int_max z (pos 0))

-- the right shift: the greatest of 0 and all places
abbrev pub shift_of : List Scaled → ℕ
shift_of [] = 0
shift_of (k ∷ ks) = max (at_least_zero k.places) (shift_of ks)

-- the left shift of a term: by how much the right shift is above its places
abbrev pub left_of : ℕ → Scaled → ℕ
left_of shift k = unsigned_abs (pos shift -ℤ k.places)

abbrev pub code_term : ℕ → Scaled → CodeTerm
code_term shift k = record { coef = k.odd; from = k.from; left = left_of shift k }

abbrev pub bare_row : Mode → List Scaled → BareRow
bare_row mode ks = record { shift = shift_of ks; mode = mode; terms = map (code_term (shift_of ks)) ks }

-- ---- its first fault

-- a rounded coefficient has few bits
abbrev pub IsSmall : Scaled → Type 0
IsSmall k = unsigned_abs k.odd < 2 ^ ROUNDED_BITS

-- added to a list: these terms, small ones to small ones, at most so many
pub record Adds (before after added : List Scaled) (most : ℕ) : Type 0 where
  pub value : after ≡ before ++ added
  pub small : All IsSmall before → All IsSmall after
  pub few : length after ≤ length before + most

-- the right shift or some left shift is too long
abbrev pub shifts_far : ℕ → ℕ → List Scaled → Bool
shifts_far accumulator shift ks = nat_lt LONGEST_SHIFT shift || nat_le accumulator shift
    || list_any (λ (k : Scaled). nat_lt LONGEST_SHIFT (left_of shift k)) ks

-- the odd part shifted to the left
abbrev pub product_of : ℕ → Scaled → ℤ
product_of shift k = k.odd *ℤ pos (2 ^ left_of shift k)

-- it is too large
abbrev pub is_wide : ℕ → Scaled → Bool
is_wide shift k = nat_le (2 ^ COEFFICIENT_BITS) (unsigned_abs (product_of shift k))
    || nat_le (2 ^ (PRODUCT_BITS + shift)) (unsigned_abs (product_of shift k))

-- the left shift is not too long
abbrev pub StaysNear : ℕ → Scaled → Type 0
StaysNear shift k = left_of shift k ≤ LONGEST_SHIFT

-- the product is not too large
abbrev pub IsNarrow : ℕ → Scaled → Type 0
IsNarrow shift k = is_wide shift k ≡ false

-- the first term that is too large; the first of these has this place in its row
abbrev pub wide_fault : ℕ → ℕ → ℕ → List Scaled → Option QuantFault
wide_fault i shift place [] = None
wide_fault i shift place (k ∷ ks) =
    fault_if (is_wide shift k) (Wide i place (product_of shift k)) (wide_fault i shift (place + 1) ks)

abbrev pub row_fault : ℕ → ℕ → List Scaled → Option QuantFault
row_fault accumulator i ks =
    fault_if (shifts_far accumulator (shift_of ks) ks) (ShiftRange i) (wide_fault i (shift_of ks) 0 ks)

-- ---- the rows

-- the value where there is no fault
abbrev pub unless_fault : {A : Type 0} → Option QuantFault → A → Result A QuantFault
unless_fault None x = Ok x
unless_fault (Some fault) x = Err fault

-- row i, or its first fault
abbrev pub quantised_row : Formats → ℕ → List Scaled → Result BareRow QuantFault
quantised_row formats i ks = unless_fault (row_fault formats.accumulator i ks) (bare_row formats.mode ks)

-- the first rows, or the first fault among them
abbrev pub first_rows : (ℕ → Result BareRow QuantFault) → ℕ → Result (List BareRow) QuantFault
first_rows row zero = Ok []
first_rows row (suc n) = first_rows row n >>= λ before. row n >>= λ r. Ok (before ++ r ∷ [])
