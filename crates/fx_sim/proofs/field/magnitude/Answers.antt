use Rattle.std.proofs.Common.{◌<◌, arith}
use Rattle.fx_sim.specs.declared.field.TheConstants.{FIELD_DIGITS}
use Rattle.fx_sim.proofs.Digits.{few_digits, one_digit_left}
use Rattle.fx_sim.proofs.field.magnitude.Goals as goal

pub returns-then-is_empty-clause-small : goal.returns-then-is_empty-clause-small
returns-then-is_empty-clause-small c = few_digits _ _ c.loop-i.invariant.small c.loop-i.invariant.few

pub overflow_mul-value : goal.overflow_mul-value
overflow_mul-value c =
    let few : c.loop-i.count < FIELD_DIGITS = omega arith in
    let small = one_digit_left _ _ c.loop-i.invariant.small few in
    omega (arith, small)

pub overflow_add-value : goal.overflow_add-value
overflow_add-value c =
    let few : c.loop-i.count < FIELD_DIGITS = omega arith in
    let small = one_digit_left _ _ c.loop-i.invariant.small few in
    omega (arith, small)

pub returns-then-count-gt0-2-clause-small : goal.returns-then-count-gt0-2-clause-small
returns-then-count-gt0-2-clause-small c = few_digits _ _ c.loop-i.invariant.small c.loop-i.invariant.few
