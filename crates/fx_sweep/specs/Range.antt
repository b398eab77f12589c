-- Where a sweep first reaches its limit.
use Rattle.std.specs.Prelude.{ℕ, zero, suc, ◌+◌, ◌-◌, ◌^◌, nat_le, cond, pos, List, [], ◌∷◌, ◌++◌, Option, Some, None}
use Rattle.std.specs.Option.{option_or}
use Rattle.fx_math.specs.Sums.{joined}
use Rattle.fx_eqs.specs.declared.limits.TheConstants.{PORTS}
use Rattle.fx_nums.specs.Interval.{Interval, magnitude}
use Rattle.fx_nums.specs.declared.limits.TheConstants.{OPERAND_BITS}
use Rattle.fx_net.specs.Net.{Net}
use Rattle.fx_sweep.specs.Gains.{row_gain, input_gain, rest}
use Rattle.fx_sweep.specs.Weights.{settled}
use Rattle.fx_sweep.specs.declared.target.Place.{Place}
use Rattle.fx_sweep.specs.declared.target.Place.TheVariants.{Weight, Gain, Input, Rest}
use Rattle.fx_sweep.specs.declared.target.RangeAt.{RangeAt}

-- the number that stands in a place in moment n
abbrev pub value_at : Net → (ℕ → Interval) → ℕ → Place → ℕ
value_at net start n (Weight i) = magnitude (settled net start n i)
value_at net start n (Gain i) = row_gain net start (suc n) i
value_at net start n (Input j) = input_gain net start (suc n) j
value_at net start n (Rest i) = rest net start (suc n) i

-- the places in the order of a moment: the rows from the last to the first, the inputs, what is carried
abbrev pub places : ℕ → List Place
places n =
    joined n (λ i. Weight (n - (i + 1)) ∷ Gain (n - (i + 1)) ∷ [])
    ++ joined PORTS (λ j. Input j ∷ []) ++ joined n (λ i. Rest i ∷ [])

-- the first of these places whose number reaches the limit
abbrev pub first_range : (Place → ℕ) → List Place → Option RangeAt
first_range value [] = None
first_range value (p ∷ ps) =
    cond (nat_le (2 ^ OPERAND_BITS) (value p)) (Some (record { place = p; value = pos (value p) }))
    (first_range value ps)

-- that of moment n
abbrev pub range_at : Net → (ℕ → Interval) → ℕ → Option RangeAt
range_at net start n = first_range (value_at net start n) (places net.rows)

-- that of the first m moments, moment after moment
abbrev pub first_range_in : Net → (ℕ → Interval) → ℕ → Option RangeAt
first_range_in net start zero = None
first_range_in net start (suc m) = option_or (first_range_in net start m) (range_at net start m)
