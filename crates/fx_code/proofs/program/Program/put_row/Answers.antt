use Rattle.std.proofs.Common.{arith, lit<}
use Rattle.fx_code.proofs.Placing.{read_fits}
use Rattle.fx_code.proofs.program.Program.put_row.Goals as goal

pub put_term-requires : goal.put_term-requires
put_term-requires g c =
    let k = c.loop-term.term-index in
    let below = c.loop-term-test.true in (
      lit< tt,
      (
        omega arith,
        (
          c.shift-shift.ensures.high,
          (
            rw c.shift-shift.ensures.value (c.terms-term-items.ensures.fits k _ below),
            read_fits c.args.self.now g.row.N c.args.at c.args.i k c.terms-term-items.result.now _
                c.programs_fit.ensures c.requires.whole c.requires.room c.requires.row
                c.terms-term-items.ensures.value below,
          ),
        ),
      ),
    )
