use Rattle.fx_nums.proofs.Reciprocals.{high_split}
use Rattle.fx_nums.proofs.tens.high_product.Goals as goal

pub returns : goal.returns
returns c = high_split c.args.n c.args.m
