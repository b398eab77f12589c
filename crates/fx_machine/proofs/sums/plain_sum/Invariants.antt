use Rattle.std.proofs.Common.{◌≡◌, ◌+◌, ◌^◌, ◌<◌, ◌+ℤ◌, drop, unsigned_abs}
use Rattle.fx_machine.specs.Prepared.{scaled_sum, magnitudes}
use Rattle.fx_machine.proofs.sums.plain_sum.Given as goal

abbrev pub invariant-loop-term : goal.invariant-loop-term
invariant-loop-term l =
    record {
      value : l.sum +ℤ scaled_sum l.words (drop l.term-index l.terms) ≡ l.constant +ℤ scaled_sum l.words l.terms;
      reach : unsigned_abs l.sum + magnitudes l.words (drop l.term-index l.terms) < 2 ^ 63;
    }
