use Rattle.std.proofs.Common.{◌≡◌, true}
use Rattle.csv.specs.Records.{fields_of}
use Rattle.fx_sim.proofs.RecordsLeft.{GoesOn, goes_on, stops}
use Rattle.fx_sim.proofs.record.next_record.Goals.{In-Ok}
use Rattle.fx_sim.proofs.record.next_record.Goals as goal

after : (c : In-Ok) → c.in-Ok.found ≡ true →
    GoesOn c.args.reader.now c.read_byte_record.new.self (fields_of c.read_byte_record.new.row)
after c found =
    let r = c.in-Ok.ensures.reads c.requires.trim c.requires.ready in
    goes_on c.args.reader.now c.read_byte_record.new.self (fields_of c.read_byte_record.new.row) c.requires
    (rw found at r) (c.in-Ok.ensures.ready c.requires.trim) c.in-Ok.ensures.flexible

pub returns-in-Ok-clause-stands : goal.returns-in-Ok-clause-stands
returns-in-Ok-clause-stands c = λ found. (after c found).stands

pub returns-in-Ok-clause-found : goal.returns-in-Ok-clause-found
returns-in-Ok-clause-found c = λ found. (after c found).records

pub returns-in-Ok-clause-none : goal.returns-in-Ok-clause-none
returns-in-Ok-clause-none c = λ found.
    let r = c.in-Ok.ensures.reads c.requires.trim c.requires.ready in
    stops c.args.reader.now c.read_byte_record.new.self (fields_of c.read_byte_record.new.row) c.requires
    (rw found at r)
