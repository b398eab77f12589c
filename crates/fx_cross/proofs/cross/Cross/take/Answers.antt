use Rattle.std.proofs.Common.{arith}
use Rattle.fx_cross.proofs.Facts.{read_low, row_inside, column_inside}
use Rattle.fx_cross.proofs.Steps.{take_done, full_spot, left_low, above_low}
use Rattle.fx_cross.proofs.Take.{some_terms}
use Rattle.fx_cross.proofs.cross.Cross.take.Goals as goal

pub index-requires-2 : goal.index-requires-2
index-requires-2 c = omega (
  arith,
  read_low _ _ _ _ _ _ _ _ c.self.invariant c.self.view_is _ _ _ _ c.requires.row c.requires.column
      c.index.ensures c.from-p.ensures,
)

pub index-requires-3 : goal.index-requires-3
index-requires-3 c = omega (
  arith,
  read_low _ _ _ _ _ _ _ _ c.self.invariant c.self.view_is _ _ _ _ c.requires.row c.requires.column
      c.index.ensures c.from-p.ensures,
)

pub index_mut-requires : goal.index_mut-requires
index_mut-requires c = omega (
  arith,
  left_low _ _ _ _ _ _ _ _ c.self.invariant c.self.view_is _ _ _ c.requires.row c.requires.column
      c.left_of-left.ensures,
)

pub index_mut-requires-2 : goal.index_mut-requires-2
index_mut-requires-2 c =
    omega (
      arith,
      above_low _ _ _ _ _ _ _ _ c.self.invariant c.self.view_is _ _ _ c.requires.row
          c.requires.column c.above-above.ensures,
    )

pub invariant_of-self : goal.invariant_of-self
invariant_of-self c = (take_done _ _ _ _ _ _ _ _ c.self.invariant c.self.view_is _ _ _ _ _ _ _ _ _ _ _
    c.requires.row c.requires.column c.requires.full c.index.ensures c.from-p.ensures c.left_of-left.ensures
    c.above-above.ensures c.index-2.ensures c.index-3.ensures c.index_mut.ensures.value
    c.index_mut-2.ensures.value c.index_mut-cell.ensures.value).kept

pub returns-clause-entries : goal.returns-clause-entries
returns-clause-entries c =
    (take_done _ _ _ _ _ _ _ _ c.self.invariant c.self.view_is _ _ _ _ _ _ _ _ _ _ _ c.requires.row
    c.requires.column c.requires.full c.index.ensures c.from-p.ensures c.left_of-left.ensures
    c.above-above.ensures c.index-2.ensures c.index-3.ensures c.index_mut.ensures.value
    c.index_mut-2.ensures.value c.index_mut-cell.ensures.value).entries

pub returns-clause-places : goal.returns-clause-places
returns-clause-places c =
    (take_done _ _ _ _ _ _ _ _ c.self.invariant c.self.view_is _ _ _ _ _ _ _ _ _ _ _ c.requires.row
    c.requires.column c.requires.full c.index.ensures c.from-p.ensures c.left_of-left.ensures
    c.above-above.ensures c.index-2.ensures c.index-3.ensures c.index_mut.ensures.value
    c.index_mut-2.ensures.value c.index_mut-cell.ensures.value).stay

pub index_mut-cell-requires : goal.index_mut-cell-requires
index_mut-cell-requires c =
    omega (
      arith,
      read_low _ _ _ _ _ _ _ _ c.self.invariant c.self.view_is _ _ _ _ c.requires.row
          c.requires.column c.index.ensures c.from-p.ensures,
    )

pub overflow_sub-self : goal.overflow_sub-self
overflow_sub-self c = some_terms _ _ _ _ _ _ _ c.self.invariant _ _
    (row_inside _ _ _ _ _ _ _ c.self.view_is c.requires.row)
    (column_inside _ _ _ _ _ _ _ c.self.view_is c.requires.column)
    (full_spot _ _ _ c.self.inside.terms c.self.inside.free _ _ _ c.self.view_is _ _ c.requires.full)
