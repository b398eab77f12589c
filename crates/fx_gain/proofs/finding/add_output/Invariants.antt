use Rattle.std.proofs.Common.{◌≡◌, ℕ, ◌<◌, ◌++◌, ◌∷◌, [], map}
use Rattle.fx_math.specs.Sums.{joined}
use Rattle.fx_mat.specs.Intervals.{interval_at}
use Rattle.fx_net.specs.Tables.{net_of}
use Rattle.fx_gain.specs.Enclosing.{enclosure, worst_words}
use Rattle.fx_gain.proofs.finding.add_output.Given as goal

abbrev pub invariant-loop-j : goal.invariant-loop-j
invariant-loop-j g l = record {
  here : (k : ℕ) → k < l.j → interval_at l.intervals l.fn.o k
      ≡ enclosure (net_of l.block.net.now) l.block.filter.now l.block.moments l.fn.o k;
  others : (p k : ℕ) → (p ≡ l.fn.o → ⊥) → interval_at l.intervals p k ≡ interval_at l.initial.intervals p k;
  words : map (λ w. w.items) l.words.items ≡ map (λ w. w.items) l.initial.words.items ++ joined l.j (λ k.
      worst_words (net_of l.block.net.now) l.block.filter.now l.block.moments l.fn.o k ∷ []);
}
