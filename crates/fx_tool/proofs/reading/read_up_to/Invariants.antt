use Rattle.std.proofs.Common.{◌≡◌, ◌≤◌, ◌<◌, ◌+◌, ◌-◌, length}
use Rattle.fx_io.specs.Shelf.{KeepsNames}
use Rattle.fx_tool.specs.Reading.{SoFar}
use Rattle.fx_tool.specs.declared.reading.TheConstants.{PIECE}
use Rattle.fx_tool.proofs.reading.read_up_to.Given as goal

abbrev pub invariant-pieces : goal.invariant-pieces
invariant-pieces g l =
    let before = g.S.Shelf.seen l.fn.shelf in
    let now = g.S.Shelf.seen l.shelf in
    record {
      files : now.files ≡ before.files;
      content : SoFar before.files l.name l.bytes.items;
      piece : (0 < length l.piece) × (length l.piece ≤ PIECE);
      small : length l.bytes.items ≤ l.limit + 1;
      read_faults : now.read_faults ≡ before.read_faults;
      place_faults : now.place_faults ≡ before.place_faults;
      later : before.calls ≤ now.calls;
      calls : now.calls ≤ before.calls + length l.bytes.items;
      readable : KeepsNames before.readable now.readable;
    }

abbrev pub decreases-pieces : goal.decreases-pieces
decreases-pieces g l = l.limit + 1 - length l.bytes.items
