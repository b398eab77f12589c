-- Sums of terms lie between their ends.
use Rattle.std.proofs.Common.{◌≡◌, ℕ, suc, ◌+◌, ◌-◌, ◌/◌, ◌^◌, ◌<◌, ◌≤◌, ℤ, pos, negsuc, neg_ℤ}
use Rattle.std.proofs.Common.{◌-ℤ◌, ◌*ℤ◌, ◌≤ℤ◌, Bool, true, false, not, ◌||◌, List, [], ◌∷◌, map, All}
use Rattle.std.proofs.Common.{refl, arith}
use Rattle.std.proofs.Math.Nat.{mul-le-mul_left}
use Rattle.std.proofs.lemmas.Nat.{pow_pos, le-div, div-add-mod'}
use Rattle.std.proofs.lemmas.Int.{ints}
use Rattle.std.proofs.lemmas.Bool.{false≢true}
use Rattle.std.proofs.lemmas.List.Elements.{All-tail}
use Rattle.fx_math.specs.Division.{floor_div}
use Rattle.fx_math.specs.Residue.{FitsBits}
use Rattle.fx_code.specs.Code.{Row, Code, constant_of, weight}
use Rattle.fx_code.specs.declared.term.CodeTerm.{CodeTerm}
use Rattle.fx_machine.specs.Prepared.{place_of, word_in, limit_of, scaled, scaled_sum, is_outside, depth_of, height_of}
use Rattle.fx_machine.specs.Prepared.{depth, height, least, most, is_sure, plan_for, sum_of}
use Rattle.fx_machine.proofs.Bits.{IsWithin, fits_from, inside_from}

-- ---- one product

term_low : (w z : ℤ) (half : ℕ) → IsWithin half z → neg_ℤ (pos (depth_of w half)) ≤ℤ (w *ℤ z)
term_low (pos n) (pos m) half f = omega (arith, ints)
term_low (pos n) (negsuc m) half f =
    let l : suc m ≤ half = omega (arith, ints, f.low) in omega (arith, ints, mul-le-mul_left n l)
term_low (negsuc n) (pos m) half f =
    let l : m ≤ half - 1 = omega (arith, ints, f.high) in omega (arith, ints, mul-le-mul_left (suc n) l)
term_low (negsuc n) (negsuc m) half f = omega (arith, ints)

term_high : (w z : ℤ) (half : ℕ) → IsWithin half z → (w *ℤ z) ≤ℤ pos (height_of w half)
term_high (pos n) (pos m) half f =
    let l : m ≤ half - 1 = omega (arith, ints, f.high) in omega (arith, ints, mul-le-mul_left n l)
term_high (pos n) (negsuc m) half f = omega (arith, ints)
term_high (negsuc n) (pos m) half f = omega (arith, ints)
term_high (negsuc n) (negsuc m) half f =
    let l : suc m ≤ half = omega (arith, ints, f.low) in omega (arith, ints, mul-le-mul_left (suc n) l)

-- ---- sums

-- each word that is read lies within its limit
abbrev pub AreWithin : Code → List ℤ → List CodeTerm → Type 0
AreWithin p words ts = All (λ (t : CodeTerm). IsWithin (limit_of p t.from) (word_in words (place_of t.from))) ts

sum_low : (p : Code) (words : List ℤ) (ts : List CodeTerm) → AreWithin p words ts →
    neg_ℤ (pos (depth p ts)) ≤ℤ scaled_sum words (map scaled ts)
sum_low p words [] h = omega (arith, ints)
sum_low p words (t ∷ ts) h =
    let here : IsWithin (limit_of p t.from) (word_in words (place_of t.from)) = h 0 t (omega arith) in
    omega (
      arith,
      ints,
      term_low (weight t) _ _ here,
      sum_low p words ts (All-tail (λ (x : CodeTerm).
          IsWithin (limit_of p x.from) (word_in words (place_of x.from))) t ts h),
    )

sum_high : (p : Code) (words : List ℤ) (ts : List CodeTerm) → AreWithin p words ts →
    scaled_sum words (map scaled ts) ≤ℤ pos (height p ts)
sum_high p words [] h = omega (arith, ints)
sum_high p words (t ∷ ts) h =
    let here : IsWithin (limit_of p t.from) (word_in words (place_of t.from)) = h 0 t (omega arith) in
    omega (
      arith,
      ints,
      term_high (weight t) _ _ here,
      sum_high p words ts (All-tail (λ (x : CodeTerm).
          IsWithin (limit_of p x.from) (word_in words (place_of x.from))) t ts h),
    )

-- ---- floors

div_le : (a b n : ℕ) → 0 < n → a ≤ b → a / n ≤ b / n
div_le a b n some h = le-div (a / n) b n some (omega (arith, h, div-add-mod' a n))

floor_le : (a b : ℤ) (n : ℕ) → 0 < n → a ≤ℤ b → floor_div a n ≤ℤ floor_div b n
floor_le (pos a) (pos b) n some h =
    let l : a ≤ b = omega (arith, ints, h) in omega (arith, ints, div_le a b n some l)
floor_le (pos a) (negsuc b) n some h = absurd (omega (arith, ints, h))
floor_le (negsuc a) (pos b) n some h = omega (arith, ints)
floor_le (negsuc a) (negsuc b) n some h =
    let l : b ≤ a = omega (arith, ints, h) in omega (arith, ints, div_le b a n some l)

between : (w : ℕ) (low z high : ℤ) → is_outside w low ≡ false → is_outside w high ≡ false → low ≤ℤ z →
    z ≤ℤ high → is_outside w z ≡ false
between w low z high a b l h =
    let f : FitsBits w low = fits_from w low a in
    let g : FitsBits w high = fits_from w high b in
    inside_from w z (record { low = omega (arith, ints, f.low, l); high = omega (arith, ints, g.high, h) })

neither : (a b : Bool) → not (a || b) ≡ true → (a ≡ false) × (b ≡ false)
neither true b h = absurd (false≢true h)
neither false true h = absurd (false≢true h)
neither false false h = (refl, refl)

-- where the ends are words of a row, so is each of its sums
pub sure_kept : (p : Code) (words : List ℤ) (row : Row) → AreWithin p words row.own.terms → is_sure p row ≡ true →
    is_outside row.width (floor_div (sum_of (plan_for p row) words) (2 ^ row.own.shift)) ≡ false
sure_kept p words row h sure =
    let ends = neither (is_outside row.width (least p row)) (is_outside row.width (most p row)) sure in
    let n : ℕ = 2 ^ row.own.shift in
    let some : 0 < 2 ^ row.own.shift = pow_pos row.own.shift in
    let sum : ℤ = sum_of (plan_for p row) words in
    let low : ℤ = pos (constant_of row.own) -ℤ pos (depth p row.own.terms) in
    let high : ℤ = pos (constant_of row.own + height p row.own.terms) in
    let below : low ≤ℤ sum = omega (arith, ints, sum_low p words row.own.terms h) in
    let above : sum ≤ℤ high = omega (arith, ints, sum_high p words row.own.terms h) in
    between row.width (least p row) (floor_div sum n) (most p row) ends.0 ends.1 (floor_le low sum n some below)
    (floor_le sum high n some above)
