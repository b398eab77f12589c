use Rattle.std.proofs.Common.{arith, length-append}
use Rattle.fx_decimal.proofs.Places.{decimal_short}
use Rattle.fx_decimal.proofs.print.whole_text.Goals as goal

pub push_number-requires : goal.push_number-requires
push_number-requires c = let short = decimal_short c.args.whole (omega arith) in omega arith

pub returns-clause-short : goal.returns-clause-short
returns-clause-short c =
    let short = decimal_short c.args.whole (omega arith) in
    rw (c.push_number.ensures, length-append) (omega arith)
