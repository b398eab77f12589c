use Rattle.std.proofs.Common.{◌≡◌, ◌+◌, ◌<◌, ◌+ℤ◌, ◌^◌, unsigned_abs, ◌∙◌, ap, arith, rules}
use Rattle.std.proofs.lemmas.Int.{ints}
use Rattle.std.specs.Int.{w64, w128, cast_unsigned as of_z, cast_signed as to_z}
use Rattle.std.specs.Int.RustNames.{FitsSigned}
use Rattle.fx_math.specs.Division.{floor_div}
use Rattle.fx_math.specs.Residue.{wrap}
use Rattle.fx_machine.specs.Prepared.{scaled_sum, magnitudes, is_outside, plan_of, sum_of, read_of, is_partial}
use Rattle.fx_machine.proofs.Giving.{gives}
use Rattle.fx_machine.proofs.Reaching.{sum_small}
use Rattle.fx_machine.proofs.sums.wide.Goals as goal

pub read_128-total-requires-clause-fits : goal.read_128-total-requires-clause-fits
read_128-total-requires-clause-fits c =
    let row = c.args.row.now in
    let words = c.args.words.now in
    let reach : unsigned_abs row.constant + magnitudes words row.terms.items < 2 ^ 126 =
    rw c.requires.kind at c.requires.runs.kind in
    let fits : FitsSigned w64 row.constant = search rules in
    let sum : c.watched_sum_128-sum.result.0 ≡ row.constant +ℤ scaled_sum words row.terms.items =
    omega (arith, ints, fits, rw c.deref.ensures.value at c.watched_sum_128-sum.ensures.sum) in
    omega (arith, ints, sum, reach, sum_small row.constant words row.terms.items)

pub returns : goal.returns
returns c =
    let row = c.args.row.now in
    let words = c.args.words.now in
    let fits : FitsSigned w64 row.constant = search rules in
    let constant : to_z w64 (of_z w64 row.constant) ≡ row.constant = omega (arith, ints, fits) in
    let sum : c.watched_sum_128-sum.result.0 ≡ sum_of (plan_of row) words =
    omega (arith, ints, fits, rw c.deref.ensures.value at c.watched_sum_128-sum.ensures.sum) in
    let z : to_z w128 (of_z w128 c.watched_sum_128-sum.result.0) ≡ c.watched_sum_128-sum.result.0 = omega
    (arith, ints) in
    let total = c.read_128-total in
    let read : total.result.value ≡ read_of (plan_of row) words =
    total.ensures.value ∙ ap (wrap row.accumulator) (z ∙ sum) in
    let outside : total.result.lost ≡ is_outside row.accumulator (sum_of (plan_of row) words) =
    total.ensures.lost ∙ ap (is_outside row.accumulator) (z ∙ sum) in
    let partial : c.watched_sum_128-sum.result.1 ≡ is_partial (plan_of row) words =
    rw (constant, c.deref.ensures.value) at c.watched_sum_128-sum.ensures.left in
    let own : to_z w64 (of_z w64 total.result.value) ≡ total.result.value = omega (arith, ints) in
    let word : to_z w64 (of_z w64 c.stored-word.result.value) ≡ c.stored-word.result.value = omega (arith, ints) in
    gives (plan_of row) words total.result.value _ _ _ _ read partial outside
    (word ∙ c.stored-word.ensures.value ∙ ap (λ z. wrap row.width (floor_div z (2 ^ row.shift))) own)
    (c.stored-word.ensures.lost ∙ ap (λ z. is_outside row.width (floor_div z (2 ^ row.shift))) own)
