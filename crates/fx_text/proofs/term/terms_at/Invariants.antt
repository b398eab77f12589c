use Rattle.std.proofs.Common.{◌≡◌, ◌≤◌, ◌-◌, [], length}
use Rattle.fx_text.specs.Reading.{terms_at}
use Rattle.fx_text.proofs.term.terms_at.Given as goal

abbrev pub decreases-loop-terms : goal.decreases-loop-terms
decreases-loop-terms l = length l.text - l.at

abbrev pub invariant-loop-terms : goal.invariant-loop-terms
invariant-loop-terms l = record {
  within : l.at ≤ length l.text;
  so_far : terms_at l.place l.terms.items l.text l.at ≡ terms_at l.place [] l.text l.start;
}
