use Rattle.std.proofs.Common.{◌≡◌, ℕ, ◌+◌, [], ◌∷◌, length, rules, ◌∙◌, ap, sym}
use Rattle.fx_cross.specs.Walks.{row_line, links_from}
use Rattle.fx_cross.proofs.Links.{no_links, first_link}
use Rattle.fx_cross.proofs.walk.RowIterator.next.Goals as goal

pub returns-in_err-link-clause-steps : goal.returns-in_err-link-clause-steps
returns-in_err-link-clause-steps c =
    let e : links_from (row_line c.args.self.now.table.now c.args.self.now.row) c.args.self.now.from ≡ [] =
    no_links _ _ (c.in_err-link.ensures.first _ _ c.args.self.now.leads) in rw c.from_residual.ensures (e, e)

pub returns-clause-steps : goal.returns-clause-steps
returns-clause-steps c = first_link _ _ _ (c.in_ok-link.ensures.first _ _ c.args.self.now.leads)
    ∙ ap (λ (m : ℕ). c.in_ok-link.link ∷ links_from (row_line c.args.self.now.table.now c.args.self.now.row) (m
    + 1)) (sym c.from.ensures)

pub returns-clause-goes : goal.returns-clause-goes
returns-clause-goes c = let e = ap length (returns-clause-steps c) in search (rules, e)
