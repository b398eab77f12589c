use Rattle.std.proofs.Common.{refl}
use Rattle.fx_large.specs.Draws.{state_after}
use Rattle.fx_large.specs.Sections.{section_from}
use Rattle.fx_large.proofs.sections.section.Goals as goal

pub returns-clause-value : goal.returns-clause-value
unfolding section_from state_after
returns-clause-value c = rw (
  c.numerator-b0.ensures.value,
  c.numerator-b1.ensures.value,
  c.numerator-b2.ensures.value,
  c.one.ensures,
  c.denominator-a1.ensures.value,
  c.denominator-a2.ensures.value,
  c.denominator-a1.ensures.state,
  c.numerator-b2.ensures.state,
  c.numerator-b1.ensures.state,
  c.numerator-b0.ensures.state,
) refl
