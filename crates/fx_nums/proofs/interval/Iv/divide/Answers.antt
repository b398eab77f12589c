use Rattle.std.proofs.Common.{◌≡◌, ◌∙◌, sym, subst, false}
use Rattle.fx_nums.specs.Interval.{Interval}
use Rattle.fx_nums.specs.Arithmetic.{divided, has_zero, widened}
use Rattle.fx_nums.proofs.QuotientLaws.{divided_encloses}
use Rattle.fx_nums.proofs.interval.Iv.divide.Goals as goal

pub returns-then-fits-clause-encloses : goal.returns-then-fits-clause-encloses
returns-then-fits-clause-encloses c = λ q y some h k.
    let same : c.whole_quotient-quotient.result ≡ divided c.args.self c.args.o =
    rw c.widened-divisor.ensures.value at c.whole_quotient-quotient.ensures in
    let apart : has_zero (widened c.args.o) ≡ false =
    subst (λ (v : Interval). has_zero v ≡ false) c.widened-divisor.ensures.value (sym c.has_zero.ensures
    ∙ c.if-has_zero.false) in
    divided_encloses c.args.self c.args.o c.whole_quotient-quotient.result q y apart
    c.widened-divisor.ensures.ordered same some h k
