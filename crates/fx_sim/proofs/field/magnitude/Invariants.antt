use Rattle.std.proofs.Common.{◌≡◌, ◌≤◌, ◌<◌, ◌^◌, drop}
use Rattle.fx_sim.specs.declared.field.TheConstants.{FIELD_DIGITS}
use Rattle.fx_sim.specs.Fields.{magnitude}
use Rattle.fx_sim.proofs.field.magnitude.Given as goal

abbrev pub invariant-loop-i : goal.invariant-loop-i
invariant-loop-i l = record {
  count : l.count ≡ l.i;
  few : l.count ≤ FIELD_DIGITS;
  small : l.value < 10 ^ l.count;
  reads : magnitude l.count l.value (drop l.i l.bytes) ≡ magnitude 0 0 l.bytes;
}
