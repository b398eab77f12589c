use Rattle.std.proofs.Common.{◌≡◌, drop, length, All}
use Rattle.toml.specs.View.{items_view}
use Rattle.fx_files.specs.Fits.{InputFits}
use Rattle.fx_files.specs.Ports.{each_input}
use Rattle.fx_keys.proofs.Front.{with_front}
use Rattle.fx_files.proofs.ports.each_input.Given as goal

abbrev pub invariant-loop-entry : goal.invariant-loop-entry
invariant-loop-entry l = record {
  reads : with_front l.inputs.items (each_input (items_view (drop l.entry-index l.entries)))
      ≡ each_input (items_view l.entries);
  count : length l.inputs.items ≡ l.entry-index;
  fits : All InputFits l.inputs.items;
}
