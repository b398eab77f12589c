use Rattle.std.proofs.Common.{◌≡◌, ◌++◌, drop}
use Rattle.fx_eqs.specs.Textbook.{over_sources}
use Rattle.fx_eqs.specs.declared.term.Source.TheVariants.{Row}
use Rattle.fx_textbook.proofs.terms.over_states.Given as goal

abbrev pub invariant-loop-coef : goal.invariant-loop-coef
invariant-loop-coef l = record {
  state : l.state ≡ l.coef-index;
  reads : l.terms.items ++ over_sources l.row (λ j. Row j) 1 l.state (drop l.coef-index l.coefficients)
      ≡ l.fn.terms.items ++ over_sources l.row (λ j. Row j) 1 0 l.coefficients;
}
