use Rattle.std.proofs.Common.{arith}
use Rattle.fx_net.specs.Tables.{net_of}
use Rattle.fx_gain.proofs.Tried.{row_within}
use Rattle.fx_gain.proofs.block.Block.weights.Goals as goal

pub weights_for-requires : goal.weights_for-requires
weights_for-requires g c =
    let block = c.args.self.now.serves in (
      omega arith,
      (
        omega arith,
        (
          omega (arith, c.output_row.ensures.inside, block.inside, c.nets_fit.ensures.rows),
          (
            omega (arith, c.nets_fit.ensures.rows_high),
            (
              block.short,
              row_within (net_of c.args.self.now.net.now) c.args.self.now.filter.now c.args.self.now.moments
                  c.output_row.result
                  block.serves c.output_row.ensures.inside,
            ),
          ),
        ),
      ),
    )
