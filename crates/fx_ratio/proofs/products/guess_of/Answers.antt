use Rattle.fx_ratio.proofs.Guesses.{split}
use Rattle.fx_ratio.proofs.products.guess_of.Goals as goal

pub returns : goal.returns
returns c = rw (c.from.ensures, c.from-2.ensures) (split c.args.x c.args.ratio)
