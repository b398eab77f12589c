use Rattle.std.proofs.Common.{◌≡◌, ◌++◌, drop}
use Rattle.fx_eqs.specs.Textbook.{over_sources}
use Rattle.fx_eqs.specs.declared.term.Source.TheVariants.{In}
use Rattle.fx_textbook.proofs.terms.over_inputs.Given as goal

abbrev pub invariant-loop-coef : goal.invariant-loop-coef
invariant-loop-coef l = record {
  input : l.input ≡ l.coef-index;
  reads : l.terms.items ++ over_sources l.row (λ j. In j) 0 l.input (drop l.coef-index l.coefficients)
      ≡ l.fn.terms.items ++ over_sources l.row (λ j. In j) 0 0 l.coefficients;
}
