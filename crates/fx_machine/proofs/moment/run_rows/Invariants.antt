use Rattle.std.proofs.Common.{◌≡◌}
use Rattle.fx_machine.specs.Standing.{rows_done, WordsFit, HasBits, partial_at, lost_at}
use Rattle.fx_machine.proofs.moment.run_rows.Given as goal

abbrev pub invariant-loop-i : goal.invariant-loop-i
invariant-loop-i l =
    record {
      words : l.words ≡ rows_done l.program l.initial.words l.i;
      fit : WordsFit l.program l.words;
      partial : HasBits (partial_at l.program l.initial.words) l.i l.marks.partial;
      lost : HasBits (lost_at l.program l.initial.words) l.i l.marks.lost;
    }
