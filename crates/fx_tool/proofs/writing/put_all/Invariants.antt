use Rattle.std.proofs.Common.{◌≡◌, length}
use Rattle.fx_tool.proofs.WrittenSoFar.{IsPut}
use Rattle.fx_tool.proofs.writing.put_all.Given as goal

abbrev pub invariant-rest : goal.invariant-rest
invariant-rest g l =
    let before = g.K.Sink.seen l.fn.out in
    let now = g.K.Sink.seen l.out in
    record {
      put : IsPut l.text l.rest before.told now.told;
      faults : now.faults ≡ before.faults;
    }

abbrev pub decreases-rest : goal.decreases-rest
decreases-rest g l = length l.rest
