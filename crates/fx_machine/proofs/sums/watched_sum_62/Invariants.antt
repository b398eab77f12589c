use Rattle.std.proofs.Common.{◌≡◌, ◌+◌, ◌^◌, ◌<◌, ◌+ℤ◌, ◌∷◌, ◌||◌, nat_le, drop, unsigned_abs}
use Rattle.std.specs.List.{list_any}
use Rattle.fx_machine.specs.Prepared.{is_outside, scaled_sum, later_sums, magnitudes}
use Rattle.fx_machine.proofs.sums.watched_sum_62.Given as goal

abbrev pub invariant-loop-term : goal.invariant-loop-term
invariant-loop-term l =
    record {
      value : l.sum +ℤ scaled_sum l.words (drop l.term-index l.terms) ≡ l.constant +ℤ scaled_sum l.words l.terms;
      reach : unsigned_abs l.sum + magnitudes l.words (drop l.term-index l.terms) < 2 ^ 61;
      watched : (nat_le (2 ^ l.bits) l.seen
          || list_any (is_outside l.bits) (later_sums l.sum l.words (drop l.term-index l.terms)))
          ≡ list_any (is_outside l.bits) (l.constant ∷ later_sums l.constant l.words l.terms);
    }
