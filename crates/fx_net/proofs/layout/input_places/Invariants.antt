use Rattle.std.proofs.Common.{◌≡◌, ◌≤◌, ◌<◌, ◌*◌, ℕ, get_or, length}
use Rattle.fx_eqs.specs.Expanded.{input_hold_place}
use Rattle.fx_eqs.specs.declared.limits.TheConstants.{PORTS, LONGEST_LAG}
use Rattle.fx_net.proofs.layout.input_places.Given as goal

abbrev pub invariant-loop-j : goal.invariant-loop-j
invariant-loop-j l = record {
  next : l.next ≡ input_hold_place l.eqs l.j;
  high : l.next ≤ LONGEST_LAG * l.j;
  count : length l.places ≡ PORTS;
  places : (k : ℕ) → k < l.j → get_or l.places k 0 ≡ input_hold_place l.eqs k;
}
