-- A row whose interval is 0: nothing is added, and no range is met.
use Rattle.std.proofs.Common.{◌≡◌, ℕ, ◌+◌, ◌^◌, ◌<◌, ◌≤◌, arith, refl, ap, None}
use Rattle.std.proofs.Math.IntN.{ℤ, pos}
use Rattle.std.proofs.lemmas.Bool.{lt-leb}
use Rattle.std.proofs.lemmas.Int.{ints}
use Rattle.std.specs.Prelude.{unsigned_abs}
use Rattle.fx_nums.specs.Arithmetic.{width}
use Rattle.fx_nums.specs.Fraction.{Fraction}
use Rattle.fx_nums.specs.Interval.{Interval, magnitude, point}
use Rattle.fx_sweep.specs.Range.{first_range}
use Rattle.fx_sweep.specs.Steps.{IsRowAdded, greatest, places_of_row, reached, row_value}
use Rattle.fx_sweep.specs.declared.target.Place.{Place}
use Rattle.fx_sweep.proofs.Along.{nothing_added}

-- neither of the numbers of a row
pub row_meets_none : (i : ℕ) (at : ℕ → Interval) (gains : ℕ → ℕ) → at i ≡ point (pos 0) → gains i ≤ greatest →
    None ≡ first_range (row_value at gains) (places_of_row i)
row_meets_none i at gains e h =
    let size : magnitude (at i) ≡ 0 = ap (λ (x : Interval). magnitude x) e in
    let gain : gains i + unsigned_abs (at i).lo < 2 ^ 88 =
    (let none = ap (λ (x : Interval). unsigned_abs x.lo) e in omega (arith, none, h)) in
    rw (size, lt-leb (2 ^ 88) (gains i + unsigned_abs (at i).lo) gain) refl

pub rest_meets_none : (p : Place) (x : Interval) → x ≡ point (pos 0) → None ≡ reached p (magnitude x)
rest_meets_none p x e = rw e refl

pub rest_is_small : (x : Interval) → x ≡ point (pos 0) → magnitude x ≤ greatest
rest_is_small x e = rw e (omega arith)

-- and nothing is added
pub nothing_of_row : (i : ℕ) (coefficients : ℕ → Fraction) (at : ℕ → Interval) (widths : ℕ → ℤ) (gains : ℕ → ℕ) →
    at i ≡ point (pos 0) → IsRowAdded i coefficients at at widths widths gains gains
nothing_of_row i coefficients at widths gains e =
    let low : (at i).lo ≡ pos 0 = ap (λ (x : Interval). x.lo) e in
    let cut : width (at i) ≡ pos 0 = ap (λ (x : Interval). width x) e in
    let size : unsigned_abs (at i).lo ≡ 0 = ap unsigned_abs low in
    record {
      handed = nothing_added (at i).lo coefficients at low;
      small = rest_is_small (at i) e;
      width_here = omega (arith, ints, cut);
      widths_else = λ k h. refl;
      gain_here = omega (arith, size);
      gains_else = λ k h. refl;
    }
