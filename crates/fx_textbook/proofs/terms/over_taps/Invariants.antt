use Rattle.std.proofs.Common.{◌≡◌, ◌++◌, ◌+◌, ◌*◌, drop}
use Rattle.fx_eqs.specs.Textbook.{backward, over_sources}
use Rattle.fx_textbook.proofs.terms.over_taps.Given as goal

abbrev pub invariant-loop-tap : goal.invariant-loop-tap
invariant-loop-tap l = record {
  place : l.i ≡ l.first + l.tap-index;
  reads : l.terms.items ++ over_sources (2 * l.order) (backward l.order) 0 l.i (drop l.tap-index l.taps)
      ≡ l.fn.terms.items ++ over_sources (2 * l.order) (backward l.order) 0 l.first l.taps;
}
