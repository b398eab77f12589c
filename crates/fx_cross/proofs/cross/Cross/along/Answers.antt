use Rattle.std.proofs.Common.{arith}
use Rattle.fx_cross.proofs.Walks.{right_found, right_low, right_some, right_onward}
use Rattle.fx_cross.proofs.cross.Cross.along.Goals as goal

pub returns-then-place-self-clause-first : goal.returns-then-place-self-clause-first
returns-then-place-self-clause-first c l b from =
    (right_found _ _ _ _ _ _ _ _ c.self.invariant c.self.view_is _ _ _ c.index.ensures c.from-place.ensures l b
    from).none c.if-place-self.true

pub index-cell-requires : goal.index-cell-requires
index-cell-requires c = omega (
  arith,
  right_low _ _ _ _ _ _ _ _ c.self.invariant c.self.view_is _ _ _ c.index.ensures c.from-place.ensures
      c.if-place-self.false _ _ c.requires.2,
)

pub returns-clause-first : goal.returns-clause-first
returns-clause-first c =
    right_some _ _ _ _ _ _ _ _ c.self.invariant c.self.view_is _ _ _ _ c.index.ensures c.from-place.ensures
    c.if-place-self.false c.index-cell.ensures

pub returns-clause-onward : goal.returns-clause-onward
returns-clause-onward c l b from =
    right_onward _ _ _ _ _ _ _ _ c.self.invariant c.self.view_is _ _ _ from.inside
    (returns-clause-first c l b from)
