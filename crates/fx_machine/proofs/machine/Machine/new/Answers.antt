use Rattle.fx_machine.proofs.Stepping.{zeros_fit, stands_at_first}
use Rattle.fx_machine.proofs.machine.Machine.new.Goals as goal

pub invariant_of-result : goal.invariant_of-result
invariant_of-result c =
    record {
      fits = c.programs_fit.ensures;
      rows = c.in_ok-rows.ensures;
      words =
          zeros_fit c.args.program.now c.no_words-words.result c.no_words-words.ensures;
    }

pub returns : goal.returns
returns c = stands_at_first c.args.program.now c.no_words-words.result c.no_words-words.ensures
