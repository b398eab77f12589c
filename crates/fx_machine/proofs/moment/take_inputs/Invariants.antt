use Rattle.fx_machine.specs.declared.places.TheConstants.{FIRST_INPUT}
use Rattle.std.proofs.Common.{◌≡◌, ℕ, ◌+◌, ◌<◌}
use Rattle.fx_machine.specs.Prepared.{word_in}
use Rattle.fx_machine.proofs.moment.take_inputs.Given as goal

abbrev pub invariant-loop-j : goal.invariant-loop-j
invariant-loop-j l =
    record {
      taken : (j : ℕ) → j < l.j → word_in l.words (FIRST_INPUT + j) ≡ word_in l.input j;
      others : (i : ℕ) → i < FIRST_INPUT → word_in l.words i ≡ word_in l.initial.words i;
    }
