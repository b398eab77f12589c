use Rattle.fx_machine.specs.declared.places.TheConstants.{FIRST_OLD}
use Rattle.fx_code.specs.declared.limits.TheConstants.{CODE_ROWS}
use Rattle.std.proofs.Common.{◌≡◌, ℕ, ◌+◌, ◌<◌, ◌≤◌}
use Rattle.fx_machine.specs.Prepared.{word_in}
use Rattle.fx_machine.proofs.moment.keep_rows.Given as goal

abbrev pub invariant-loop-i : goal.invariant-loop-i
invariant-loop-i l =
    record {
      now : (i : ℕ) → i < CODE_ROWS → word_in l.words i ≡ word_in l.initial.words i;
      old : (i : ℕ) → i < l.i → word_in l.words (FIRST_OLD + i) ≡ word_in l.initial.words i;
      others : (i : ℕ) → l.i ≤ i → word_in l.words (FIRST_OLD + i) ≡ word_in l.initial.words (FIRST_OLD + i);
    }
