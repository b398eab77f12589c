use Rattle.std.proofs.Common.{◌≡◌, ◌≤◌, ◌<◌, ◌^◌, take}
use Rattle.std.specs.List.{AllByRecursion}
use Rattle.fx_nums.specs.Signs.{IsDigit, number_from}
use Rattle.fx_sim.specs.declared.field.TheConstants.{FIELD_DIGITS}
use Rattle.fx_sim.proofs.plain.leading_digits.Given as goal

abbrev pub invariant-loop-i : goal.invariant-loop-i
invariant-loop-i l = record {
  few : l.i ≤ FIELD_DIGITS;
  small : l.value < 10 ^ l.i;
  digits : AllByRecursion IsDigit (take l.i l.text);
  value : l.value ≡ number_from 0 (take l.i l.text);
}
