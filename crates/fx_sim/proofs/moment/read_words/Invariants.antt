use Rattle.std.proofs.Common.{◌≡◌, ◌+◌, drop, take}
use Rattle.csv.specs.Records.{fields_of}
use Rattle.fx_sim.specs.Samples.{words_in}
use Rattle.fx_sim.specs.Between.{with_front}
use Rattle.fx_sim.proofs.moment.read_words.Given as goal

abbrev pub invariant-loop-j : goal.invariant-loop-j
invariant-loop-j l =
    with_front (take l.j l.input) (words_in l.number (l.j + 1) (drop l.j l.program.inputs) (drop l.j (fields_of l.row)))
    ≡ words_in l.number 1 l.program.inputs (fields_of l.row)
