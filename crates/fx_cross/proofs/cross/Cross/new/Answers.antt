use Rattle.std.proofs.Common.{◌*◌, ◌+◌, ◌∙◌, List, ap, refl, arith}
use Rattle.std.proofs.lemmas.List.{get_or-replicate}
use Rattle.fx_cross.specs.declared.cell.Cell.{Cell}
use Rattle.fx_cross.specs.declared.limits.TheConstants.{GREATEST_SIDE}
use Rattle.fx_cross.specs.Cells.{cell_of, no_cell}
use Rattle.fx_cross.proofs.Empty.{empty_kept, empty_entries}
use Rattle.fx_cross.proofs.cross.Cross.new.Goals as goal

pub invariant_of-result : goal.invariant_of-result
invariant_of-result c = empty_kept _ _ _ _ _ _ c.requires.rows_low c.requires.rows_high c.requires.columns_low
    c.requires.columns_high c.requires.room_low c.requires.room_high
    (c.in_ok-places.ensures.items_if_clones_equal (λ y h. h)) refl
    (omega (arith, c.chain_all.ensures.long, c.in_ok-cells.ensures.len))
    (λ p h k. c.chain_all.ensures.others p h ∙ ap (λ (xs : List Cell).
    cell_of xs p) (rw c.end_cell.ensures at c.in_ok-cells.ensures.items_if_clones_equal (λ y h. h))
    ∙ get_or-replicate (c.args.room + 1 + GREATEST_SIDE) p _ no_cell k)
    c.chain_all.ensures.chain c.chain_all.ensures.ranks

pub returns-clause-entries : goal.returns-clause-entries
returns-clause-entries c =
    empty_entries _ _ _ (c.args.rows * c.args.columns) _ _ _ _ (invariant_of-result c)
    (c.in_ok-places.ensures.items_if_clones_equal (λ y h. h))
