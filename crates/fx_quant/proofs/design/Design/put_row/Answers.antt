use Rattle.std.proofs.Common.{◌<◌, length, arith, lit<}
use Rattle.fx_code.specs.NetRows.{bare_at}
use Rattle.fx_quant.proofs.PuttingRows.{read_fits}
use Rattle.fx_quant.proofs.design.Design.put_row.Goals as goal

pub put_term-requires : goal.put_term-requires
put_term-requires g c =
    let d = c.args.self.now in
    let k = c.loop-term.term-index in
    let below = c.loop-term-test.true in
    let fits = c.requires.design.rows c.args.i c.requires.row in
    let within : k < length (bare_at d.rows c.args.i).terms = rw (← c.terms-term-items.ensures) below in (
      lit< tt,
      (
        omega (arith, c.requires.room, c.requires.row),
        (
          rw c.shift-shift.ensures fits.shift_high,
          (
            rw (c.shift-shift.ensures, c.terms-term-items.ensures) (fits.terms k _ within),
            read_fits d g.row.N c.args.at c.args.i k c.terms-term-items.result.now _ c.requires.design
                c.requires.room c.requires.row c.terms-term-items.ensures below,
          ),
        ),
      ),
    )
