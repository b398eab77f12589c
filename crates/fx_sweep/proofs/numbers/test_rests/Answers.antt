use Rattle.std.proofs.Common.{◌≡◌, ◌≤◌, Some, arith, ◌∙◌, sym, refl, subst, inl, inr, length}
use Rattle.std.proofs.lemmas.Grind.{common_steps}
use Rattle.std.proofs.lemmas.Bool.{cases_eq}
use Rattle.std.proofs.lemmas.List.{get_or_read}
use Rattle.std.proofs.Math.IntN.{pos}
use Rattle.fx_nums.specs.Interval.{Interval, magnitude, point}
use Rattle.fx_sweep.specs.Range.{first_range}
use Rattle.fx_sweep.specs.Steps.{greatest, reached, rest_places, rest_value}
use Rattle.fx_sweep.specs.Swept.{interval_in, range_of}
use Rattle.fx_sweep.specs.declared.target.Place.TheVariants.{Rest}
use Rattle.fx_sweep.proofs.Tested.{rest_range, rests_passed, rest_ends}
use Rattle.fx_sweep.proofs.numbers.test_rests.Goals as goal

pub returns-in_err-test_rest-clause-range : goal.returns-in_err-test_rest-clause-range
returns-in_err-test_rest-clause-range c =
    let read : c.index-carried-i.result ≡ interval_in c.args.carried.now c.loop-i.i =
    get_or_read c.args.carried.now c.loop-i.i c.index-carried-i.result c.loop-i-test.true
    c.index-carried-i.is (point (pos 0)) in
    let here : reached (Rest c.loop-i.i) (magnitude c.index-carried-i.result)
    ≡ first_range (rest_value (interval_in c.args.carried.now)) (rest_places c.loop-i.i) =
    rest_range c.loop-i.i (interval_in c.args.carried.now) c.index-carried-i.result
    (magnitude c.index-carried-i.result) refl read in
    let same : range_of c.from_residual.result ≡ Some c.in_err-test_rest.field-0.0 = grind (arith, common_steps) in
    same ∙ sym (rest_ends (interval_in c.args.carried.now) c.loop-i.i (length c.args.carried.now)
    c.in_err-test_rest.field-0.0 c.loop-i-test.true c.loop-i.invariant.passed (sym here
    ∙ sym c.in_err-test_rest.ensures.range))

pub loop-i-preserved : goal.loop-i-preserved
loop-i-preserved c =
    let read : c.index-carried-i.result ≡ interval_in c.args.carried.now c.loop-i.i =
    get_or_read c.args.carried.now c.loop-i.i c.index-carried-i.result c.loop-i-test.true
    c.index-carried-i.is (point (pos 0)) in
    let here : reached (Rest c.loop-i.i) (magnitude c.index-carried-i.result)
    ≡ first_range (rest_value (interval_in c.args.carried.now)) (rest_places c.loop-i.i) =
    rest_range c.loop-i.i (interval_in c.args.carried.now) c.index-carried-i.result
    (magnitude c.index-carried-i.result) refl read in
    record {
      passed = rests_passed (interval_in c.args.carried.now) c.loop-i.i c.loop-i.invariant.passed (sym here
          ∙ sym c.in_ok-test_rest.ensures.range);
      small = λ k h. elim (cases_eq k c.loop-i.i) [
        | inl e ↦ rw e (subst (λ (x : Interval). magnitude x ≤ greatest) read
            c.in_ok-test_rest.ensures.small)
        | inr ne ↦ c.loop-i.invariant.small k (omega (arith, ne, h))
      ];
    }
