use Rattle.std.proofs.Common.{◌≡◌, ℕ, ◌<◌, ◌∷◌, [], length, map}
use Rattle.fx_math.specs.Sums.{joined}
use Rattle.fx_mat.specs.Intervals.{interval_at}
use Rattle.fx_net.specs.Tables.{net_of}
use Rattle.fx_gain.specs.Enclosing.{enclosure, worst_words}
use Rattle.fx_gain.proofs.finding.peaks_over.Given as goal

abbrev pub invariant-loop-o : goal.invariant-loop-o
invariant-loop-o g l = record {
  here : (p k : ℕ) → p < l.o → k < length l.block.filter.now.inputs → interval_at l.intervals p k
      ≡ enclosure (net_of l.block.net.now) l.block.filter.now l.block.moments p k;
  words : map (λ w. w.items) l.words.items ≡ joined l.o (λ p. joined (length l.block.filter.now.inputs) (λ k.
      worst_words (net_of l.block.net.now) l.block.filter.now l.block.moments p k ∷ []));
}
