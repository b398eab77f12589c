use Rattle.fx_nums.proofs.EndLaws.{times_encloses}
use Rattle.fx_nums.proofs.interval.Iv.times.Goals as goal

pub returns-then-fits-clause-encloses : goal.returns-then-fits-clause-encloses
returns-then-fits-clause-encloses c = λ x y h k.
    let same = rw (c.widened.ensures.value, c.widened-2.ensures.value) at c.whole_product-product.ensures in
    times_encloses c.args.self c.args.o c.whole_product-product.result x y same h k
