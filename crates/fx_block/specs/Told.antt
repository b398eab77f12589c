-- How an answer tells the end of raises, and raises by what totals keep.
use Rattle.std.specs.Prelude.{◌≡◌, ℕ, ◌^◌, Bool, true, false, nat_lt, cond, pos, unsigned_abs}
use Rattle.fx_math.specs.Division.{ceil_div}
use Rattle.fx_nums.specs.declared.limits.TheConstants.{SCALE_BITS}
use Rattle.fx_totals.specs.Kept.{Kept, kept_total}
use Rattle.fx_block.specs.Raising.{Raises}
use Rattle.fx_block.specs.Raising.Raises.{Rest, Over, Slow}
use Rattle.fx_block.specs.declared.least.Least.{Least}
use Rattle.fx_block.specs.declared.least.Least.TheVariants.{Rest as ToldRest, Over as ToldOver, Slow as ToldSlow}

-- the answer, and the bounds that were found, for an end of raises; bounds are told at rest alone
abbrev pub Tells : Raises → Least → (ℕ → ℕ) → Type 0
Tells (Rest rows) least x = (least ≡ ToldRest) × (x ≡ rows)
Tells (Over row value cap) least x = least ≡ ToldOver row (pos value) (pos cap)
Tells (Slow row before after) least x = least ≡ ToldSlow row (pos before) (pos after)

abbrev pub is_slow : Least → Bool
is_slow ToldRest = false
is_slow (ToldOver row value cap) = false
is_slow (ToldSlow row before after) = true

abbrev pub is_over : Least → Bool
is_over ToldRest = false
is_over (ToldOver row value cap) = true
is_over (ToldSlow row before after) = false

-- one raise of the bounds of the first n rows, by the totals that are kept
abbrev pub kept_raise : Kept → ℕ → (ℕ → ℕ) → (ℕ → ℕ) → ℕ → ℕ
kept_raise k n bounds rows j =
    cond (nat_lt j n) (unsigned_abs (ceil_div (kept_total k j bounds rows) (2 ^ SCALE_BITS))) 0
