use Rattle.std.proofs.Common.{◌≡◌, ◌≤◌, drop}
use Rattle.fx_cert.specs.Reading.{value_within}
use Rattle.fx_cert.proofs.numbers.value_within.Given as goal

abbrev pub invariant-loop-digit : goal.invariant-loop-digit
invariant-loop-digit l = record {
  small : l.value ≤ l.high;
  goes_on : value_within l.high l.value (drop l.digit-index l.digits) ≡ value_within l.high 0 l.digits;
}
