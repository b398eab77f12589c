-- The definitions on small nets: totals after up to 64 moments are computed, and compared with the numbers worked by
-- hand.
use Rattle.std.proofs.Common.{◌≡◌, ℕ, ◌*◌, ◌^◌, refl, cond, ◌==◌, ◌&&◌, ◌||◌}
use Rattle.std.proofs.Math.IntN.{pos}
use Rattle.fx_nums.specs.Fraction.{Fraction, zero_fraction, one_fraction}
use Rattle.fx_nums.specs.Interval.{Interval}
use Rattle.fx_nums.specs.Products.{product_down, product_up}
use Rattle.fx_net.specs.Net.{Net}
use Rattle.fx_sweep.specs.Target.{start_of}
use Rattle.fx_sweep.specs.Weights.{hand_on, carry, to_input}
use Rattle.fx_sweep.specs.declared.target.Target.TheVariants.{Row, Pair}
use Rattle.fx_sweep.proofs.Examples.{over_two, over_ten}
use Rattle.fx_totals.specs.Totals.{input_part, rounding, width_part, rest_part, target_total}

-- two rows that read their own values of the moment before, so many times, and input 0; the first is rounded to within half a step
abbrev two_rows : Fraction → Fraction → Net
two_rows a b = record {
  rows = 2;
  now = λ i j. zero_fraction;
  old = λ i j. cond (i == j) (cond (i == 0) a b) zero_fraction;
  input = λ i j. cond (j == 0) one_fraction zero_fraction;
  class = λ i. cond (i == 0) 1 0;
}

-- ---- totals, for words up to 100

abbrev hundred : ℕ → ℕ
hundred j = cond (j == 0) 100 0

-- so much for row 0, and so much for the others
abbrev bounded : ℕ → ℕ → ℕ → ℕ
bounded first others i = cond (i == 0) first others

abbrev difference : ℕ → Interval
difference = start_of (Pair 0 1 (pos 0))

-- bounds that are met with nothing to spare
exact-code : target_total (two_rows (over_two 1 1) (over_two 1 1)) (start_of (Row 0)) 64 hundred
    (bounded 201 200) ≡ pos (201 * 2 ^ 64)
unfolding hand_on carry to_input product_down product_up
exact-code = refl

exact-original : target_total (two_rows (over_two 1 1) (over_two 1 1)) (start_of (Row 1)) 64 hundred
    (bounded 201 200) ≡ pos (200 * 2 ^ 64)
unfolding hand_on carry to_input product_down product_up
exact-original = refl

too-small : target_total (two_rows (over_two 1 1) (over_two 1 1)) (start_of (Row 0)) 64 hundred
    (bounded 200 200) ≡ pos 3707795558815619874815
unfolding hand_on carry to_input product_down product_up
too-small = refl

pair-example : target_total (two_rows (over_two 1 1) (over_two 1 1)) difference 64 hundred (bounded 201 200)
    ≡ pos 18446744073709552016
unfolding hand_on carry to_input product_down product_up
pair-example = refl

short-example : target_total (two_rows (over_two 1 1) (over_two 1 1)) difference 8 hundred (bounded 201 200)
    ≡ pos 47269781688880726016
unfolding hand_on carry to_input product_down product_up
short-example = refl

-- a tenth, and 819 / 2 ^ 13 in its place: the four parts, and a total that passes its bound
rounding-part : rounding (two_rows (over_two 819 13) (over_ten 1 1)) difference 2 ≡ pos 10145484060558884864
unfolding hand_on carry to_input product_down product_up
rounding-part = refl

inputs-part : input_part (two_rows (over_two 819 13) (over_ten 1 1)) difference 2 hundred ≡ pos 45035996273705000
unfolding hand_on carry to_input product_down product_up
inputs-part = refl

widths-part : width_part (two_rows (over_two 819 13) (over_ten 1 1)) difference 2 (bounded 112 112) ≡ pos 112
unfolding hand_on carry to_input product_down product_up
widths-part = refl

rests-part : rest_part (two_rows (over_two 819 13) (over_ten 1 1)) difference 2 (bounded 112 112)
    ≡ pos 41310619893397108912
unfolding hand_on carry to_input product_down product_up
rests-part = refl

passes-its-bound : target_total (two_rows (over_two 819 13) (over_ten 1 1)) (start_of (Row 0)) 2 hundred
    (bounded 111 112) ≡ pos 2059708185323438604288
unfolding hand_on carry to_input product_down product_up
passes-its-bound = refl

-- ---- a moving average of four words, in code and original: nothing is left behind

-- three rows keep the last words, and the fourth is their mean; then the same again
abbrev average : Net
average = record {
  rows = 8;
  now = λ i j. zero_fraction;
  old = λ i j. cond (i == 3 && (j == 0 || (j == 1 || j == 2))) (over_two 1 2)
      (cond (i == 7 && (j == 4 || (j == 5 || j == 6))) (over_ten 25 2)
      (cond (i == 1 && j == 0 || (i == 2 && j == 1 || (i == 5 && j == 4 || i == 6 && j == 5))) one_fraction
      zero_fraction));
  input = λ i j. cond (j == 0)
      (cond (i == 0 || i == 4) one_fraction
      (cond (i == 3) (over_two 1 2) (cond (i == 7) (over_ten 25 2) zero_fraction))) zero_fraction;
  class = λ i. cond (i == 3) 1 0;
}

average-example : target_total average (start_of (Pair 3 7 (pos 0))) 4 hundred (λ i. cond (i == 3) 101 100)
    ≡ pos (2 ^ 63)
unfolding hand_on carry to_input product_down product_up
average-example = refl
