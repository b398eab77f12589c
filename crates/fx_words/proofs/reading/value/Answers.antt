use Rattle.clap.proofs.WalkLemmas.{first_value-rows}
use Rattle.clap.specs.Matches.{found_of}
use Rattle.fx_words.proofs.reading.value.Goals as goal

pub returns-in-Some : goal.returns-in-Some
returns-in-Some c =
    let rows = first_value-rows (found_of c.args.matches.now) c.args.id.now in
    rw (← rows, ← c.in-Some.ensures)

pub returns-in-None : goal.returns-in-None
returns-in-None c =
    let rows = first_value-rows (found_of c.args.matches.now) c.args.id.now in
    rw (← rows, ← c.in-None.ensures)
