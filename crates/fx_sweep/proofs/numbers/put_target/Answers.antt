use Rattle.std.proofs.Common.{◌≡◌, arith, ap, ◌∙◌, subst}
use Rattle.std.proofs.lemmas.Int.{ints, to_z-of_z}
use Rattle.std.specs.Int.{w8}
use Rattle.std.specs.Prelude.{FitsSigned}
use borrow.Author.Differences.{abs_is}
use Rattle.fx_nums.specs.Interval.{point, opposite}
use Rattle.fx_sweep.specs.Swept.{interval_in}
use Rattle.fx_sweep.specs.Target.{TargetFits, power}
use Rattle.fx_sweep.proofs.Started.{row_started, pair_started}
use Rattle.fx_sweep.proofs.numbers.put_target.Goals as goal

pub returns-in-Row-clause-value : goal.returns-in-Row-clause-value
returns-in-Row-clause-value c =
    let here = rw c.from.ensures at c.put.ensures.here in
    let others = rw c.from.ensures at c.put.ensures.others in
    rw c.in-Row.is (row_started (interval_in c.args.at.now) (interval_in c.put.new.at) c.in-Row.row
    c.requires.zero (here ∙ c.power.ensures) others)

pub returns-in-Pair-clause-value : goal.returns-in-Pair-clause-value
returns-in-Pair-clause-value c =
    let fits = subst (TargetFits _) c.in-Pair.is c.requires.target in
    let small : FitsSigned w8 c.in-Pair.shift = omega (arith, ints, abs_is, fits.3) in
    let code = rw c.from-in-Pair.ensures at c.put-in-Pair.ensures.here in
    let code_others = rw c.from-in-Pair.ensures at c.put-in-Pair.ensures.others in
    let original = rw c.from-in-Pair-2.ensures at c.put-in-Pair-2.ensures.here in
    let others = rw c.from-in-Pair-2.ensures at c.put-in-Pair-2.ensures.others in
    let p : c.power-in-Pair-2.result ≡ point (power c.in-Pair.shift) = simp to_z-of_z at c.power-in-Pair-2.ensures in
    rw c.in-Pair.is (pair_started (interval_in c.args.at.now) (interval_in c.put-in-Pair.new.at)
    (interval_in c.put-in-Pair-2.new.at) c.in-Pair.code c.in-Pair.original c.in-Pair.shift fits.2
    c.requires.zero
    (code ∙ c.power-in-Pair.ensures) code_others (original ∙ c.neg.ensures ∙ ap opposite p) others)
