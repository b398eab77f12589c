use Rattle.std.proofs.Common.{◌≡◌, ◌∷◌, ◌+◌, ◌-◌, ◌*◌, ◌∙◌, min, drop, get_or, drop-cons, add-one, arith}
use Rattle.std.specs.List.{AllByRecursion}
use Rattle.fx_nums.specs.Signs.{IsDigit, number_from}
use Rattle.fx_decimal.proofs.Digits.{clip_once}
use Rattle.fx_decimal.proofs.value.clipped.Goals as goal

pub loop-digit-preserved : goal.loop-digit-preserved
loop-digit-preserved c =
    let digit = get_or c.args.digits.now c.loop-digit.digit-index 0 in
    let rest = drop (c.loop-digit.digit-index + 1) c.args.digits.now in
    let cut : drop c.loop-digit.digit-index c.args.digits.now ≡ digit ∷ rest =
    rw add-one (drop-cons c.args.digits.now c.loop-digit.digit-index 0 c.loop-digit-test.true) in
    let all : AllByRecursion IsDigit (digit ∷ rest) = rw cut at c.loop-digit.invariant.digits in
    let value : min (number_from c.loop-digit.number (digit ∷ rest)) 9999
    ≡ min (number_from 0 c.args.digits.now) 9999 = rw cut at c.loop-digit.invariant.value in
    record {
      value = rw (c.min-number.ensures, c.from.ensures)
          (clip_once (10 * c.loop-digit.number + (digit - 48)) rest ∙ value);
      digits = all.1;
      small = omega arith;
    }
