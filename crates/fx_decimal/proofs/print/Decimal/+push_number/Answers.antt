use Rattle.std.proofs.Common.{◌/◌, ◌++◌, ◌∙◌, ap, sym, arith, List, ℕ, decimal, append_assoc, length-append}
use Rattle.std.proofs.lemmas.Fmt.{decimal_digit, decimal_nonempty, decimal_step}
use Rattle.fx_decimal.proofs.Places.{decimal_more}
use Rattle.fx_decimal.proofs.print.Decimal.+push_number.Goals as goal

pub push-requires : goal.push-requires
push-requires t c = let some = decimal_nonempty c.args.number (omega arith) in omega arith

pub returns-then-number-lt10 : goal.returns-then-number-lt10
returns-then-number-lt10 t c =
    c.push.ensures ∙ ap (λ (x : List ℕ). c.args.self.now ++ x)
    (sym (decimal_digit c.args.number c.if-number-lt10.true))

pub push_number-requires : goal.push_number-requires
push_number-requires t c = let more = decimal_more c.args.number (omega arith) (omega arith) in
    (omega arith, omega arith)

pub push-requires-2 : goal.push-requires-2
push-requires-2 t c =
    let more = decimal_more c.args.number (omega arith) (omega arith) in
    rw (c.push_number.ensures, length-append) (omega arith)

pub returns : goal.returns
returns t c =
    let step = decimal_step c.args.number (omega arith) (omega arith) in
    c.push-2.ensures ∙ rw (c.push_number.ensures, step) (append_assoc c.args.self.now (decimal (c.args.number / 10)) _)
