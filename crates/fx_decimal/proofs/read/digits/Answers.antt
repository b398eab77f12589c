use Rattle.fx_decimal.proofs.Digits.{front_all, front_taken}
use Rattle.fx_decimal.proofs.read.digits.Goals as goal

pub returns-clause-all : goal.returns-clause-all
returns-clause-all c = rw (c.digit_count-count.ensures.count, front_taken c.args.text.now) (front_all c.args.text.now)
