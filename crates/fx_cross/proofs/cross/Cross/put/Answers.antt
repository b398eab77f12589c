use Rattle.std.proofs.Common.{ℕ, arith, subst, sym}
use Rattle.fx_cross.specs.WellLinked.{IsWellLinked}
use Rattle.fx_cross.proofs.Steps.{put_done, free_place, left_low, above_low}
use Rattle.fx_cross.proofs.cross.Cross.put.Goals as goal

pub index-requires : goal.index-requires
index-requires c = omega (
  arith,
  c.self.invariant.sizes,
  (free_place _ _ _ _ _ _ _ _
      (subst (λ (x : ℕ). IsWellLinked c.self.inside.rows c.self.inside.columns c.self.inside.room
      c.self.inside.terms x c.self.inside.places.items c.self.inside.cells.items) (sym c.from-p.ensures)
      c.self.invariant) c.self.view_is c.requires.room).below,
)

pub index-requires-2 : goal.index-requires-2
index-requires-2 c = omega (
  arith,
  left_low _ _ _ _ _ _ _ _ c.self.invariant c.self.view_is _ _ _ c.requires.row c.requires.column
      c.left_of-left.ensures,
)

pub index-requires-3 : goal.index-requires-3
index-requires-3 c = omega (
  arith,
  above_low _ _ _ _ _ _ _ _ c.self.invariant c.self.view_is _ _ _ c.requires.row c.requires.column
      c.above-above.ensures,
)

pub index_mut-requires : goal.index_mut-requires
index_mut-requires c = omega (
  arith,
  c.self.invariant.sizes,
  (free_place _ _ _ _ _ _ _ _
      (subst (λ (x : ℕ). IsWellLinked c.self.inside.rows c.self.inside.columns c.self.inside.room
      c.self.inside.terms x c.self.inside.places.items c.self.inside.cells.items) (sym c.from-p.ensures)
      c.self.invariant) c.self.view_is c.requires.room).below,
)

pub index_mut-requires-2 : goal.index_mut-requires-2
index_mut-requires-2 c =
    omega (
      arith,
      left_low _ _ _ _ _ _ _ _ c.self.invariant c.self.view_is _ _ _ c.requires.row
          c.requires.column c.left_of-left.ensures,
    )

pub index_mut-requires-3 : goal.index_mut-requires-3
index_mut-requires-3 c =
    omega (
      arith,
      above_low _ _ _ _ _ _ _ _ c.self.invariant c.self.view_is _ _ _ c.requires.row
          c.requires.column c.above-above.ensures,
    )

pub invariant_of-self : goal.invariant_of-self
invariant_of-self c = (put_done _ _ _ _ _ _ _ _ (subst (λ (x : ℕ).
    IsWellLinked c.self.inside.rows c.self.inside.columns c.self.inside.room c.self.inside.terms x
    c.self.inside.places.items c.self.inside.cells.items) (sym c.from-p.ensures) c.self.invariant)
    c.self.view_is _ _ _ _ _ _ _ _ _ _ c.requires.row c.requires.column c.requires.empty c.requires.room
    c.requires.nonzero c.index.ensures c.left_of-left.ensures c.above-above.ensures c.index-2.ensures
    c.index-3.ensures c.index_mut-2.ensures.value c.index_mut-3.ensures.value).kept

pub returns-clause-entries : goal.returns-clause-entries
returns-clause-entries c =
    (put_done _ _ _ _ _ _ _ _
    (subst (λ (x : ℕ). IsWellLinked c.self.inside.rows c.self.inside.columns c.self.inside.room
    c.self.inside.terms x c.self.inside.places.items c.self.inside.cells.items) (sym c.from-p.ensures)
    c.self.invariant) c.self.view_is _ _ _ _ _ _ _ _ _ _ c.requires.row c.requires.column c.requires.empty
    c.requires.room c.requires.nonzero c.index.ensures c.left_of-left.ensures c.above-above.ensures
    c.index-2.ensures c.index-3.ensures c.index_mut-2.ensures.value c.index_mut-3.ensures.value).entries

pub returns-clause-places : goal.returns-clause-places
returns-clause-places c =
    (put_done _ _ _ _ _ _ _ _
    (subst (λ (x : ℕ). IsWellLinked c.self.inside.rows c.self.inside.columns c.self.inside.room
    c.self.inside.terms x c.self.inside.places.items c.self.inside.cells.items) (sym c.from-p.ensures)
    c.self.invariant) c.self.view_is _ _ _ _ _ _ _ _ _ _ c.requires.row c.requires.column c.requires.empty
    c.requires.room c.requires.nonzero c.index.ensures c.left_of-left.ensures c.above-above.ensures
    c.index-2.ensures c.index-3.ensures c.index_mut-2.ensures.value c.index_mut-3.ensures.value).stay
