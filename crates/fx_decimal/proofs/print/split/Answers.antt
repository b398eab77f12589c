use Rattle.std.proofs.Common.{◌≡◌, ◌+◌, ◌*◌, ◌/◌, ◌^◌, refl}
use Rattle.fx_decimal.specs.Printed.{units}
use Rattle.fx_decimal.proofs.Digits.{ten_some}
use Rattle.fx_decimal.proofs.Units.{rest_of, units_down, units_up, whole_of}
use Rattle.fx_decimal.proofs.print.split.Goals as goal
use Rattle.fx_decimal.proofs.print.split.Goals.{then-up, else-up}

sum_is : (c : goal.After-row_known-1) → units c.args.up c.args.magnitude c.args.places
    ≡ c.args.magnitude / 2 ^ 64 * 10 ^ c.args.places + c.if-up.part
sum_is c = elim c.if-up.branch [
  | then-up w ↦ rw (w.if-up.true, units_up, w.part-is, w.div_ceil-part.ensures, c.value-one.ensures.value) refl
  | else-up w ↦ rw (w.if-up.false, units_down, w.part-is, c.value-one.ensures.value) refl
]

pub returns-clause-whole : goal.returns-clause-whole
returns-clause-whole c =
    rw c.value-one.ensures.value
    (whole_of (c.args.magnitude / 2 ^ 64) c.if-up.part (10 ^ c.args.places) _ (ten_some c.args.places)
    (sum_is c))

pub returns-clause-rest : goal.returns-clause-rest
returns-clause-rest c = rw c.value-one.ensures.value
    (rest_of (c.args.magnitude / 2 ^ 64) c.if-up.part (10 ^ c.args.places) _ (sum_is c))
