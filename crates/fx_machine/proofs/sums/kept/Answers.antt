use Rattle.std.proofs.Common.{◌≡◌, ◌+◌, ◌<◌, ◌^◌, unsigned_abs, ◌∙◌, ap, arith, rules}
use Rattle.std.proofs.lemmas.Int.{ints}
use Rattle.std.specs.Int.{w64, cast_unsigned as of_z, cast_signed as to_z}
use Rattle.std.specs.Int.RustNames.{FitsSigned}
use Rattle.fx_math.specs.Division.{floor_div}
use Rattle.fx_math.specs.Residue.{wrap}
use Rattle.fx_machine.specs.Prepared.{half_of, magnitudes, is_outside, plan_of, sum_of}
use Rattle.fx_machine.proofs.Giving.{kept_gives}
use Rattle.fx_machine.proofs.sums.kept.Goals as goal

pub returns : goal.returns
returns c =
    let row = c.args.row.now in
    let words = c.args.words.now in
    let reach : unsigned_abs row.constant + magnitudes words row.terms.items < half_of row.accumulator =
    rw c.requires.kind at c.requires.runs.kind in
    let fits : FitsSigned w64 row.constant = search rules in
    let sum : c.plain_sum-sum.result ≡ sum_of (plan_of row) words =
    omega (arith, ints, fits, rw c.deref.ensures.value at c.plain_sum-sum.ensures) in
    let own : to_z w64 (of_z w64 c.plain_sum-sum.result) ≡ c.plain_sum-sum.result = omega (arith, ints) in
    let word : to_z w64 (of_z w64 c.stored-word.result.value) ≡ c.stored-word.result.value = omega (arith, ints) in
    kept_gives (plan_of row) words c.plain_sum-sum.result _ _ (omega (arith, c.requires.runs.accumulator_low)) reach
    sum (word ∙ c.stored-word.ensures.value
    ∙ ap (λ z. wrap row.width (floor_div z (2 ^ row.shift))) own)
    (c.stored-word.ensures.lost ∙ ap (λ z. is_outside row.width (floor_div z (2 ^ row.shift))) own)
