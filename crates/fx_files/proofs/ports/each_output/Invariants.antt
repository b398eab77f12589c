use Rattle.std.proofs.Common.{◌≡◌, drop, length, All}
use Rattle.toml.specs.View.{items_view}
use Rattle.fx_files.specs.Fits.{EntryFits}
use Rattle.fx_files.specs.Ports.{each_output}
use Rattle.fx_keys.proofs.Front.{with_front}
use Rattle.fx_files.proofs.ports.each_output.Given as goal

abbrev pub invariant-loop-entry : goal.invariant-loop-entry
invariant-loop-entry l = record {
  place : l.place ≡ l.entry-index;
  reads : with_front l.outputs.items
      (each_output l.inputs.low l.place (items_view (drop l.entry-index l.entries)))
      ≡ each_output l.inputs.low 0 (items_view l.entries);
  count : length l.outputs.items ≡ l.entry-index;
  fits : All EntryFits l.outputs.items;
}
