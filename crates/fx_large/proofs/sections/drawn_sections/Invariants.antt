use Rattle.std.proofs.Common.{◌≡◌, ◌*◌}
use Rattle.fx_large.specs.Draws.{state_after}
use Rattle.fx_large.specs.Sections.{sections_from}
use Rattle.fx_large.proofs.DrawnSections.{AreSections}
use Rattle.fx_large.proofs.sections.drawn_sections.Given as goal

abbrev pub invariant-loop : goal.invariant-loop
invariant-loop l = record {
  state : l.ahead.state ≡ state_after (5 * l.counter) l.fn.draws.state;
  drawn : l.sections.items ≡ sections_from l.counter l.fn.draws.state;
  fit : AreSections l.counter l.sections.items;
}
