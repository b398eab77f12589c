-- How far an exact output goes on words of one input alone. The least bound of it is the input's bound times the
-- worst-case peak gain, that is times the sum of the magnitudes of the impulse response.
use Rattle.std.specs.Prelude.{◌≡◌, ◌≢◌, ℕ, ◌-◌, ◌*◌, ◌^◌, ◌<◌, ◌==◌, cond, ℤ, pos, ◌*ℤ◌, ◌≤ℤ◌, unsigned_abs}
use Rattle.std.specs.Prelude.{List, [], ◌∷◌, length, map}
use Rattle.fx_math.specs.Ratio.{Ratio}
use Rattle.fx_math.specs.Sums.{joined}
use Rattle.fx_nums.specs.Interval.{Interval}
use Rattle.fx_nums.specs.declared.limits.TheConstants.{SCALE_BITS}
use Rattle.fx_eqs.specs.Denominator.{common}
use Rattle.fx_eqs.specs.ExactRun.{row_value}
use Rattle.fx_files.specs.Filter.{Filter}
use Rattle.fx_code.specs.Inputs.{word_at}
use Rattle.fx_block.specs.Admissible.{IsAdmissible}
use Rattle.fx_block.specs.Formats.{output_at}

-- ---- words of one input alone

-- an admissible input list in which the words of all inputs but input j are 0
pub record LiesOn (filter : Filter) (j : ℕ) (list : List (List ℤ)) : Type 0 where
  pub admissible : IsAdmissible filter list
  pub others_are_zero : (k i : ℕ) → i ≢ j → word_at list k i ≡ pos 0

-- a moment of n inputs: w for input j, 0 for the others
abbrev pub moment_of : ℕ → ℕ → ℤ → List ℤ
moment_of n j w = joined n (λ i. cond (i == j) w (pos 0) ∷ [])

-- words of input j in the order of time, as an input list
abbrev pub alone : Filter → ℕ → List ℤ → List (List ℤ)
alone filter j words = map (moment_of (length filter.inputs) j) words

-- ---- the exact output

-- that of output o at moment k, in input steps
abbrev pub exact_output : Filter → List (List ℤ) → ℕ → ℕ → Ratio
exact_output filter list k o =
    row_value filter.equations (common filter.equations) (word_at list) k (output_at filter o).row

-- the magnitude of a value is at most e / 2 ^ 64
abbrev pub IsAtMost : Ratio → ℤ → Type 0
IsAtMost r e = pos (2 ^ SCALE_BITS * unsigned_abs r.num) ≤ℤ (e *ℤ pos r.den)

-- a value is at least e / 2 ^ 64
abbrev pub IsAtLeast : Ratio → ℤ → Type 0
IsAtLeast r e = (e *ℤ pos r.den) ≤ℤ (pos (2 ^ SCALE_BITS) *ℤ r.num)

-- The interval encloses how far output o goes on words of input j alone: on no admissible list of them, of any length,
-- and at no moment is the exact output above the high end in magnitude; and on this list of them the exact output at
-- the last moment is at least the low end.
pub record EnclosesPeak (filter : Filter) (o j : ℕ) (v : Interval) (words : List ℤ) : Type 0 where
  pub never_above : (list : List (List ℤ)) → LiesOn filter j list → (k : ℕ) → k < length list →
      IsAtMost (exact_output filter list k o) v.hi
  pub some : 0 < length words
  pub lies_on : LiesOn filter j (alone filter j words)
  pub reached : IsAtLeast (exact_output filter (alone filter j words) (length words - 1) o) v.lo
