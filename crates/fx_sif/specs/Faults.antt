-- The first fault of an implicit form, and the fault that an answer tells.
use Rattle.std.specs.Prelude.{ℕ, nat_lt, nat_le, ◌==◌, Bool, true, false, not, ◌&&◌, ◌||◌, List, [], ◌∷◌, ◌++◌}
use Rattle.std.specs.Prelude.{length, Option, None}
use Rattle.std.specs.Option.{option_or}
use Rattle.std.specs.List.{list_any}
use Rattle.fx_math.specs.Faults.{fault_if}
use Rattle.fx_nums.specs.Fraction.{Fraction, is_one, is_zero}
use Rattle.fx_sif.specs.Blocks.{height, width, same_place}
use Rattle.fx_sif.specs.Implicit.{rows}
use Rattle.fx_eqs.specs.declared.limits.TheConstants.{PORTS}
use Rattle.fx_sif.specs.declared.limits.TheConstants.{FORM_ROWS}
use Rattle.fx_sif.specs.declared.parts.Block.{Block}
use Rattle.fx_sif.specs.declared.parts.Block.TheVariants.{J}
use Rattle.fx_sif.specs.declared.parts.Entry.{Entry}
use Rattle.fx_sif.specs.declared.parts.Sizes.{Sizes}
use Rattle.fx_sif.specs.declared.fault.SifFault.{SifFault}
use Rattle.fx_sif.specs.declared.fault.SifFault.TheVariants.{Shape, NotUnitLower, Twice, Limit, NoMemory}

-- ---- the counts

-- not from 1 to the greatest
abbrev pub is_out : ℕ → ℕ → Bool
is_out greatest n = n == 0 || nat_lt greatest n

-- of the rows, the inputs, the outputs
abbrev pub limit_fault : Sizes → Option SifFault → Option SifFault
limit_fault s rest =
    fault_if (is_out FORM_ROWS (rows s)) (Limit (rows s)) (
    fault_if (is_out PORTS s.u) (Limit s.u) (
    fault_if (is_out PORTS s.y) (Limit s.y) rest))

-- ---- one entry

-- not 1 on the diagonal of J, or not 0 above it
abbrev pub breaks_unit_lower : Block → ℕ → ℕ → Fraction → Bool
breaks_unit_lower J i j c = (i == j && not (is_one c)) || (nat_lt i j && not (is_zero c))
breaks_unit_lower _ i j c = false

-- of one entry behind earlier ones; the count of these is its place
abbrev pub entry_fault : Sizes → List Entry → Entry → Option SifFault
entry_fault s earlier e =
    let place = length earlier in
    fault_if (nat_le (height s e.block) e.i || nat_le (width s e.block) e.j) (Shape place) (
    fault_if (breaks_unit_lower e.block e.i e.j e.coef) (NotUnitLower e.i e.j) (
    fault_if (list_any (same_place e) earlier) (Twice place) None))

-- ---- the form

-- the first, entry by entry
abbrev pub entries_fault : Sizes → List Entry → List Entry → Option SifFault
entries_fault s earlier [] = None
entries_fault s earlier (e ∷ es) = option_or (entry_fault s earlier e) (entries_fault s (earlier ++ e ∷ []) es)

-- first of the counts, then of the entries
abbrev pub sif_fault : Sizes → List Entry → Option SifFault
sif_fault s entries = limit_fault s (entries_fault s [] entries)

-- ---- an answer

-- memory was refused
abbrev pub is_memory : SifFault → Bool
is_memory NoMemory = true
is_memory _ = false
