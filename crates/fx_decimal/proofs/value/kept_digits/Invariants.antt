use Rattle.std.proofs.Common.{◌≡◌, ◌≤◌, ◌+◌, ◌^◌, drop}
use Rattle.std.specs.List.{AllByRecursion}
use Rattle.fx_decimal.specs.Kept.{kept_from}
use Rattle.fx_nums.specs.Signs.{IsDigit}
use Rattle.fx_decimal.proofs.value.kept_digits.Given as goal

abbrev pub invariant-loop-digit : goal.invariant-loop-digit
invariant-loop-digit l = record {
  value : kept_from (record { number = l.number; zeros = l.zeros }) (drop l.digit-index l.digits)
      ≡ kept_from l.fn.before l.digits;
  digits : AllByRecursion IsDigit (drop l.digit-index l.digits);
  number : l.number ≤ 10 ^ 18;
  zeros : l.zeros ≤ l.fn.before.zeros + l.digit-index;
}
