use Rattle.std.proofs.Common.{◌≡◌, ◌≤◌, min, drop}
use Rattle.std.specs.List.{AllByRecursion}
use Rattle.fx_nums.specs.Signs.{IsDigit, number_from}
use Rattle.fx_decimal.proofs.value.clipped.Given as goal

abbrev pub invariant-loop-digit : goal.invariant-loop-digit
invariant-loop-digit l = record {
  value : min (number_from l.number (drop l.digit-index l.digits)) 9999 ≡ min (number_from 0 l.digits) 9999;
  digits : AllByRecursion IsDigit (drop l.digit-index l.digits);
  small : l.number ≤ 9999;
}
