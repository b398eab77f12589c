use Rattle.std.proofs.Common.{◌≡◌}
use Rattle.fx_machine.specs.Moments.{StandsAfter}
use Rattle.fx_bench.specs.Runs.{moments, seed_before, words_sum}
use Rattle.fx_bench.proofs.machine.run.Given as goal

abbrev pub invariant-loop : goal.invariant-loop
invariant-loop l = record {
  program : l.machine.program ≡ l.fn.machine.program;
  seed : l.seed ≡ seed_before l.counter;
  stands : StandsAfter l.machine l.fn.machine.program (moments l.counter);
  words : l.sums.words ≡ words_sum l.fn.machine.program l.counter;
}
