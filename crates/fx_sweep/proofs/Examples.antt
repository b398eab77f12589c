-- The definitions on small nets: a sweep of 64 moments is computed, and compared with the numbers worked by hand.
use Rattle.std.proofs.Common.{◌≡◌, ℕ, ◌-◌, ◌*◌, ◌^◌, refl, cond, ◌==◌, None, Some}
use Rattle.std.proofs.Math.IntN.{pos}
use Rattle.fx_nums.specs.Fraction.{Fraction, zero_fraction, one_fraction}
use Rattle.fx_nums.specs.Interval.{Interval}
use Rattle.fx_nums.specs.Products.{product_down, product_up}
use Rattle.fx_nums.specs.declared.fraction.Den.TheVariants.{Two, Ten}
use Rattle.fx_net.specs.Net.{Net}
use Rattle.fx_sweep.specs.Gains.{widths, row_gain, input_gain, rest}
use Rattle.fx_sweep.specs.Range.{first_range_in}
use Rattle.fx_sweep.specs.Target.{start_of}
use Rattle.fx_sweep.specs.Weights.{hand_on, carry, to_input}
use Rattle.fx_sweep.specs.declared.target.Place.TheVariants.{Rest}
use Rattle.fx_sweep.specs.declared.target.Target.TheVariants.{Row}

abbrev pub over_two : ℕ → ℕ → Fraction
over_two n e = record { num = pos n; den = Two e }

abbrev pub over_ten : ℕ → ℕ → Fraction
over_ten n d = record { num = pos n; den = Ten d }

-- one row that reads its own value of the moment before, so many times, and input 0
abbrev one_row : Fraction → Net
one_row c = record {
  rows = 1;
  now = λ i j. zero_fraction;
  old = λ i j. c;
  input =
      λ i j. cond (j == 0) one_fraction zero_fraction;
  class = λ i. 0;
}

-- ---- the half of the last value

abbrev halving : ℕ → Interval
halving = start_of (Row 0)

gain-example : row_gain (one_row (over_two 1 1)) halving 64 0 ≡ 2 ^ 65 - 2
unfolding hand_on carry to_input product_down product_up
gain-example = refl

input-example : input_gain (one_row (over_two 1 1)) halving 64 0 ≡ 2 ^ 65 - 2
unfolding hand_on carry to_input product_down product_up
input-example = refl

width-example : widths (one_row (over_two 1 1)) halving 64 0 ≡ pos 0
unfolding hand_on carry to_input product_down product_up
width-example = refl

rest-example : rest (one_row (over_two 1 1)) halving 64 0 ≡ 1
unfolding hand_on carry to_input product_down product_up
rest-example = refl

-- ---- a thousand times the last value: the third moment is the first that leaves the range

range-not-yet : first_range_in (one_row (over_ten 1000 0)) (start_of (Row 0)) 2 ≡ None
unfolding hand_on carry to_input product_down product_up
range-not-yet = refl

range-example : first_range_in (one_row (over_ten 1000 0)) (start_of (Row 0)) 3
    ≡ Some (record { place = Rest 0; value = pos (10 ^ 9 * 2 ^ 64) })
unfolding hand_on carry to_input product_down product_up
range-example = refl
