use Rattle.std.proofs.Common.{ap, unsigned_abs}
use Rattle.fx_nums.specs.Fraction.{Fraction}
use Rattle.fx_cross.proofs.Sets.{full_at, empty_at, zero_at, same_at, told_zero, told_nonzero}
use Rattle.fx_cross.proofs.cross.Cross.set.Goals as goal

pub change-requires-clause-full : goal.change-requires-clause-full
change-requires-clause-full c =
    full_at _ _ _ _ _ _ _ _ c.self.invariant c.self.view_is _ _ _ _ c.requires.row c.requires.column
    c.index.ensures c.from.ensures c.if-full.true

pub change-requires-clause-nonzero : goal.change-requires-clause-nonzero
change-requires-clause-nonzero c = told_nonzero _ c.args.c c.is_zero.ensures c.if-not-is_zero.true

pub put-requires-clause-empty : goal.put-requires-clause-empty
put-requires-clause-empty c =
    empty_at _ _ _ _ _ _ _ _ c.self.invariant c.self.view_is _ _ _ _ c.requires.row c.requires.column
    c.index.ensures c.from.ensures c.if-full.false

pub put-requires-clause-room : goal.put-requires-clause-room
put-requires-clause-room c =
    c.requires.room (ap (λ (f : Fraction). unsigned_abs f.num)
    (zero_at _ _ _ _ _ _ _ _ c.self.invariant c.self.view_is _ _
    (empty_at _ _ _ _ _ _ _ _ c.self.invariant c.self.view_is _ _ _ _ c.requires.row c.requires.column
    c.index.ensures c.from.ensures c.if-full.false)))
    (told_nonzero _ c.args.c c.is_zero.ensures c.if-not-is_zero.true)

pub take-requires-clause-full : goal.take-requires-clause-full
take-requires-clause-full c =
    full_at _ _ _ _ _ _ _ _ c.self.invariant c.self.view_is _ _ _ _ c.requires.row c.requires.column
    c.index.ensures c.from.ensures c.if-full-2.true

pub returns-else-full-2-clause-entries : goal.returns-else-full-2-clause-entries
returns-else-full-2-clause-entries c =
    same_at c.args.self.now c.args.i c.args.j c.args.c
    (zero_at _ _ _ _ _ _ _ _ c.self.invariant c.self.view_is _ _
    (empty_at _ _ _ _ _ _ _ _ c.self.invariant c.self.view_is _ _ _ _ c.requires.row c.requires.column
    c.index.ensures c.from.ensures c.if-full-2.false))
    (told_zero _ c.args.c c.is_zero.ensures c.if-not-is_zero.false)
