use Rattle.std.proofs.Common.{◌+◌, ◌*◌, ◌-◌, ◌<◌, ◌∙◌, ap, get_or, length, sym, arith}
use Rattle.fx_sim.specs.declared.field.TheConstants.{FIELD_DIGITS}
use Rattle.fx_nums.specs.Signs.{IsDigit, digit_value}
use Rattle.fx_sim.proofs.Digits.{few_digits, grows, one_digit_left}
use Rattle.fx_sim.proofs.PlainFields.{digits_more, number_more}
use Rattle.fx_sim.proofs.plain.leading_digits.Goals as goal

pub returns-then-i-gt0-clause-small : goal.returns-then-i-gt0-clause-small
returns-then-i-gt0-clause-small c = few_digits _ _ c.loop-i.invariant.small c.loop-i.invariant.few

pub overflow_mul-value : goal.overflow_mul-value
overflow_mul-value c =
    let few : c.loop-i.i < FIELD_DIGITS = omega arith in
    let small = one_digit_left _ _ c.loop-i.invariant.small few in
    omega (arith, small)

pub overflow_add-value : goal.overflow_add-value
overflow_add-value c =
    let few : c.loop-i.i < FIELD_DIGITS = omega arith in
    let small = one_digit_left _ _ c.loop-i.invariant.small few in
    omega (arith, small)

pub loop-i-preserved : goal.loop-i-preserved
loop-i-preserved c =
    let text = c.args.text.now in
    let i = c.loop-i.i in
    let below : i < length text = omega arith in
    let digit : IsDigit (get_or text i 0) = (omega arith, omega arith) in
    record {
      few = omega arith;
      small = grows i c.loop-i.value (digit_value (get_or text i 0)) c.loop-i.invariant.small (omega arith);
      digits = digits_more text i below digit c.loop-i.invariant.digits;
      value = ap (λ n. 10 * n + digit_value (get_or text i 0)) c.loop-i.invariant.value
          ∙ sym (number_more text i below);
    }
