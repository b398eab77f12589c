use Rattle.fx_quant.proofs.Adding.{three_small}
use Rattle.fx_quant.proofs.row.kept_terms.Goals as goal

pub returns-clause-small : goal.returns-clause-small
returns-clause-small c =
    three_small _ _ _ _ _ _ _ _ _ _ c.new-terms.ensures.items c.in_ok-add_terms.ensures
    c.in_ok-add_terms-2.ensures c.in_ok-add_terms-3.ensures
