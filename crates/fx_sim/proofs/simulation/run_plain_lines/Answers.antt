use Rattle.std.proofs.Common.{arith}
use Rattle.fx_sim.proofs.BetweenRecords.{begins, plain_goes_on}
use Rattle.fx_sim.proofs.simulation.run_plain_lines.Goals as goal

pub loop-behind-init : goal.loop-behind-init
loop-behind-init c = record {
  input = c.requires.input;
  output = c.requires.output;
  between = rw (c.requires.none)
      (begins c.args.program.now c.args.samples.now c.args.machine.now c.requires.begins);
}

pub loop-behind-preserved : goal.loop-behind-preserved
loop-behind-preserved c =
    let program = c.args.program.now in
    let between = c.loop-behind.invariant.between in
    record {
      input = c.in-Some.ensures.moment.count;
      output = omega arith;
      between = rw (
        c.in_ok-put_moment.ensures.line,
        c.in_ok-put_moment.ensures.output program between.list between.ran,
      )
          (plain_goes_on c.words_read_no_later_inputs.ensures program c.args.samples.now c.loop-behind.machine
          c.put_moment.new.machine c.loop-behind.rest.now c.in-Some.behind.now c.loop-behind.number
          c.loop-behind.lines c.read_plain.new.input between c.in-Some.ensures.record
          (c.in_ok-put_moment.ensures.stands program between.list between.ran));
    }
