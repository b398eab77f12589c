use Rattle.std.proofs.Common.{◌∙◌, List, ap, arith}
use Rattle.std.proofs.lemmas.List.{get_or-replicate}
use Rattle.fx_cross.specs.declared.cell.Cell.{Cell}
use Rattle.fx_cross.specs.Cells.{cell_of, no_cell}
use Rattle.fx_cross.proofs.Empty.{empty_kept, empty_entries}
use Rattle.fx_cross.proofs.cross.Cross.clear.Goals as goal

pub invariant_of-self : goal.invariant_of-self
invariant_of-self c = let sizes = c.self.invariant.sizes in
    empty_kept _ _ _ _ _ _ sizes.rows_low sizes.rows_high sizes.columns_low sizes.columns_high sizes.room_low
    sizes.room_high
    (c.fill.ensures.items (λ y h. h)) (omega (arith, sizes.places_long))
    (omega (arith, c.chain_all.ensures.long, c.fill-2.ensures.len, sizes.cells_long))
    (λ p h k. c.chain_all.ensures.others p h ∙ ap (λ (xs : List Cell).
    cell_of xs p) (rw c.end_cell.ensures at c.fill-2.ensures.items (λ y h. h))
    ∙ get_or-replicate _ p _ no_cell (omega (arith, sizes.cells_long)))
    c.chain_all.ensures.chain c.chain_all.ensures.ranks

pub returns-clause-entries : goal.returns-clause-entries
returns-clause-entries c = empty_entries _ _ _ _ _ _ _ _ (invariant_of-self c) (c.fill.ensures.items (λ y h. h))
