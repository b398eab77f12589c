use Rattle.std.proofs.Common.{◌≡◌, ℕ, ◌+◌, ◌^◌, ℤ, pos, ◌-ℤ◌, Bool, not, ◌||◌, ap₂, ◌∙◌, arith}
use Rattle.std.proofs.lemmas.Int.{ints}
use Rattle.std.specs.Int.{w128, cast_unsigned as of_z, cast_signed as to_z}
use Rattle.fx_math.specs.Division.{floor_div}
use Rattle.fx_code.specs.Code.{row_at, constant_of}
use Rattle.fx_machine.specs.Prepared.{is_outside, depth, height, least, most}
use Rattle.fx_machine.proofs.prepared.is_sure.Goals as goal

quotient_is : (q z t : ℤ) (s r : ℕ) → q ≡ floor_div z (2 ^ s) → z ≡ t → s ≡ r → q ≡ floor_div t (2 ^ r)
quotient_is q z t s r e f g = e ∙ ap₂ (λ (x : ℤ) (n : ℕ). floor_div x (2 ^ n)) f g

outside_is : (b : Bool) (w v : ℕ) (z q : ℤ) → b ≡ is_outside w z → z ≡ q → w ≡ v → b ≡ is_outside v q
outside_is b w v z q e f g = e ∙ ap₂ (λ (n : ℕ) (x : ℤ). is_outside n x) g f

pub returns : goal.returns
returns c =
    let p = c.args.program.now in
    let row = row_at p c.args.i in
    let constant = constant_of row.own in
    let low : c.quotient-least.result ≡ least p row =
    quotient_is _ _ (pos constant -ℤ pos (depth p row.own.terms)) _ row.own.shift c.quotient-least.ensures
    (omega (
      arith,
      ints,
      c.from-constant.ensures,
      c.constant.ensures.value,
      c.constant.ensures.high,
      c.depth.ensures.value,
      c.depth.ensures.bound,
    )) c.shift.ensures.value in
    let high : c.quotient-most.result ≡ most p row =
    quotient_is _ _ (pos (constant + height p row.own.terms)) _ row.own.shift c.quotient-most.ensures
    (omega (
      arith,
      ints,
      c.from-constant.ensures,
      c.constant.ensures.value,
      c.constant.ensures.high,
      c.height.ensures.value,
      c.height.ensures.bound,
    )) c.shift-2.ensures.value in
    let own_low : to_z w128 (of_z w128 c.quotient-least.result) ≡ c.quotient-least.result = omega (arith, ints) in
    let own_high : to_z w128 (of_z w128 c.quotient-most.result) ≡ c.quotient-most.result = omega (arith, ints) in
    ap₂ (λ (a b : Bool). not (a || b))
    (outside_is _ _ row.width _ (least p row) c.is_outside_128-low.ensures (own_low ∙ low) c.width-width.ensures.value)
    (outside_is _ _ row.width _ (most p row) c.is_outside_128-high.ensures (own_high ∙ high)
    c.width-width.ensures.value)
