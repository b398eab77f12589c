use Rattle.std.proofs.Common.{arith}
use Rattle.fx_nums.proofs.Reciprocals.{ten_at, ten_bounds}
use Rattle.fx_nums.proofs.tens.ten_power.Goals as goal

pub returns-clause-value : goal.returns-clause-value
returns-clause-value c = ten_at c.args.d (omega arith)

pub returns-clause-bound : goal.returns-clause-bound
returns-clause-bound c = omega (arith, ten_at c.args.d (omega arith), ten_bounds c.args.d c.requires)

pub returns-clause-positive : goal.returns-clause-positive
returns-clause-positive c = omega (arith, ten_at c.args.d (omega arith), ten_bounds c.args.d c.requires)
