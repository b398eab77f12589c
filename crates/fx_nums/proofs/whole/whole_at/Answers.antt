use Rattle.std.proofs.Common.{◌-◌, arith, drop, length, rules, sym, take}
use Rattle.fx_nums.proofs.WholeLaws.{read_below}
use Rattle.fx_nums.proofs.whole.whole_at.Goals as goal

pub returns-clause-within : goal.returns-clause-within
returns-clause-within c =
    let text = c.args.text.now in
    let rest = take (length text - c.args.at) (drop c.args.at text) in
    let below = read_below c.args.limit rest c.in_ok-value.value (drop c.in_ok-value.count rest) (omega arith)
    (sym c.if-not-begins_number.ensures) c.in_ok-value.ensures.read in
    (below, search rules)
