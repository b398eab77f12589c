-- The inputs of a moment, and what it carries on.
use Rattle.std.proofs.Common.{◌≡◌, ℕ, ◌+◌, ◌<◌, Some, None, refl, add-one}
use Rattle.fx_math.specs.Sums.{joined}
use Rattle.fx_nums.specs.Interval.{Interval, magnitude}
use Rattle.fx_sweep.specs.Range.{first_range}
use Rattle.fx_sweep.specs.Steps.{input_places, input_value, reached, rest_places, rest_value}
use Rattle.fx_sweep.specs.declared.target.Place.TheVariants.{Input, Rest}
use Rattle.fx_sweep.specs.declared.target.RangeAt.{RangeAt}
use Rattle.fx_sweep.proofs.Ranges.{first_some, none_more}

pub input_range : (j : ℕ) (at : ℕ → Interval) (gains : ℕ → ℕ) (x : Interval) (gain : ℕ) (size : ℕ) →
    gain ≡ gains j → size ≡ magnitude x → x ≡ at j →
    reached (Input j) (gain + size) ≡ first_range (input_value at gains) (input_places j)
input_range j at gains x gain size e f h = rw (e, f, h) refl

pub rest_range : (i : ℕ) (at : ℕ → Interval) (x : Interval) (size : ℕ) → size ≡ magnitude x → x ≡ at i →
    reached (Rest i) size ≡ first_range (rest_value at) (rest_places i)
rest_range i at x size f h = rw (f, h) refl

pub inputs_passed : (at : ℕ → Interval) (gains : ℕ → ℕ) (j : ℕ) →
    first_range (input_value at gains) (joined j input_places) ≡ None →
    first_range (input_value at gains) (input_places j) ≡ None →
    first_range (input_value at gains) (joined (j + 1) input_places) ≡ None
inputs_passed at gains j before here = rw add-one (none_more (input_value at gains) input_places j before here)

pub rests_passed : (at : ℕ → Interval) (i : ℕ) → first_range (rest_value at) (joined i rest_places) ≡ None →
    first_range (rest_value at) (rest_places i) ≡ None → first_range (rest_value at) (joined (i + 1) rest_places) ≡ None
rests_passed at i before here = rw add-one (none_more (rest_value at) rest_places i before here)

pub input_ends : (at : ℕ → Interval) (gains : ℕ → ℕ) (j n : ℕ) (r : RangeAt) → j < n →
    first_range (input_value at gains) (joined j input_places) ≡ None →
    first_range (input_value at gains) (input_places j) ≡ Some r →
    first_range (input_value at gains) (joined n input_places) ≡ Some r
input_ends at gains j n r h before here = first_some (input_value at gains) input_places j n r h before here

pub rest_ends : (at : ℕ → Interval) (i n : ℕ) (r : RangeAt) → i < n →
    first_range (rest_value at) (joined i rest_places) ≡ None →
    first_range (rest_value at) (rest_places i) ≡ Some r → first_range (rest_value at) (joined n rest_places) ≡ Some r
rest_ends at i n r h before here = first_some (rest_value at) rest_places i n r h before here
