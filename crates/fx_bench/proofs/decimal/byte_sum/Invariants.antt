use Rattle.std.proofs.Common.{◌≡◌, ◌≤◌, ◌+◌, ◌*◌, drop}
use Rattle.std.specs.List.{sum}
use Rattle.fx_bench.proofs.decimal.byte_sum.Given as goal

abbrev pub invariant-loop-byte : goal.invariant-loop-byte
invariant-loop-byte l = record {
  value : l.sum + sum (drop l.byte-index l.bytes) ≡ sum l.bytes;
  bound : l.sum ≤ l.byte-index * 256;
}
