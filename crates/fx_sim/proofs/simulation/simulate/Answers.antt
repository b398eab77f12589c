use Rattle.std.proofs.Common.{arith}
use Rattle.std.proofs.lemmas.Result.{err_from_is_err_and}
use Rattle.csv.specs.Records.{fields_of}
use Rattle.fx_sim.specs.Remaining.{records_left}
use Rattle.fx_sim.proofs.BetweenRecords.{goes_on, fails, done}
use Rattle.fx_sim.proofs.simulation.simulate.Goals as goal

pub returns-in_err-read_moment : goal.returns-in_err-read_moment
returns-in_err-read_moment c =
    let p = err_from_is_err_and c.from_residual-in_err-read_moment.result
    c.from_residual-in_err-read_moment.ensures.1 in
    let found = c.in_ok-next_record.ensures.found c.if-branch.true in
    rw (p.1, p.2)
    (fails c.args.program.now c.args.samples.now c.loop-reader.machine (records_left c.loop-reader.reader)
    (records_left c.next_record.new.reader) c.loop-reader.number c.loop-reader.lines
    (fields_of c.next_record.new.row) c.in_err-read_moment.field-0.0 c.loop-reader.invariant.between
    found c.in_err-read_moment.ensures.fault)

pub put_moment-requires-clause-input : goal.put_moment-requires-clause-input
put_moment-requires-clause-input c =
    rw (c.loop-reader.invariant.between.ran.program) c.in_ok-read_moment.ensures.moment

pub loop-reader-preserved : goal.loop-reader-preserved
loop-reader-preserved c =
    let inv = c.loop-reader.invariant in
    let found = c.in_ok-next_record.ensures.found c.if-branch.true in
    let list = inv.between.list in
    record {
      input = c.in_ok-read_moment.ensures.moment.count;
      output = omega arith;
      stands = c.in_ok-next_record.ensures.stands c.if-branch.true;
      between = rw (
        c.in_ok-put_moment.ensures.line,
        c.in_ok-put_moment.ensures.output c.args.program.now list inv.between.ran,
      )
          (goes_on c.words_read_no_later_inputs.ensures c.args.program.now c.args.samples.now
          c.loop-reader.machine c.put_moment.new.machine (records_left c.loop-reader.reader)
          (records_left c.next_record.new.reader)
          c.loop-reader.number c.loop-reader.lines
          (fields_of c.next_record.new.row) c.read_moment.new.input inv.between found
          c.in_ok-read_moment.ensures.ok
          (c.in_ok-put_moment.ensures.stands c.args.program.now list inv.between.ran));
    }

pub returns : goal.returns
returns c =
    rw c.into_text.ensures (done c.args.program.now c.args.samples.now c.loop-reader.machine
    (records_left c.loop-reader.reader)
    c.loop-reader.number c.loop-reader.lines c.loop-reader.invariant.between
    (c.in_ok-next_record.ensures.none c.if-branch.false))
