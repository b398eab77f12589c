use Rattle.std.proofs.Common.{◌≡◌, ◌≢◌, ◌+◌, ◌<◌, Some, arith, ap, ◌∙◌, sym, inl, inr, length}
use Rattle.std.proofs.lemmas.Grind.{common_steps}
use Rattle.std.proofs.lemmas.Bool.{cases_eq, cases_lt}
use Rattle.std.proofs.lemmas.List.{get_or_read, get_or_past}
use Rattle.std.proofs.Math.IntN.{pos}
use mathlib.Core.Path.{fun_ext}
use Rattle.fx_nums.specs.Interval.{Interval, magnitude, point}
use Rattle.fx_sweep.specs.Range.{first_range}
use Rattle.fx_sweep.specs.Steps.{input_places, input_value, reached}
use Rattle.fx_sweep.specs.Swept.{gain_in, interval_in, range_of}
use Rattle.fx_sweep.specs.declared.target.Place.TheVariants.{Input}
use Rattle.fx_sweep.proofs.Tested.{input_range, inputs_passed, input_ends}
use Rattle.fx_sweep.proofs.numbers.add_inputs.Goals as goal

pub returns-in_err-raise-clause-range : goal.returns-in_err-raise-clause-range
returns-in_err-raise-clause-range c =
    let inside : c.loop-j.j < length c.args.inputs.now = omega (arith, c.loop-j-test.true, c.requires.inputs) in
    let read : c.index-inputs-j.result ≡ interval_in c.args.inputs.now c.loop-j.j =
    get_or_read c.args.inputs.now c.loop-j.j c.index-inputs-j.result inside c.index-inputs-j.is
    (point (pos 0)) in
    let here : reached (Input c.loop-j.j) (gain_in c.loop-j.gains c.loop-j.j + c.magnitude_of.result)
    ≡ first_range (input_value (interval_in c.args.inputs.now) (gain_in c.args.gains.now))
    (input_places c.loop-j.j) =
    input_range c.loop-j.j (interval_in c.args.inputs.now) (gain_in c.args.gains.now) c.index-inputs-j.result _
    c.magnitude_of.result (c.loop-j.invariant.left c.loop-j.j (omega arith)) c.magnitude_of.ensures.value
    read in
    let same : range_of c.from_residual.result ≡ Some c.in_err-raise.field-0.0 = grind (arith, common_steps) in
    same ∙ sym (input_ends (interval_in c.args.inputs.now) (gain_in c.args.gains.now) c.loop-j.j 4
    c.in_err-raise.field-0.0 c.loop-j-test.true c.loop-j.invariant.passed (sym here
    ∙ sym c.in_err-raise.ensures.range))

pub loop-j-preserved : goal.loop-j-preserved
loop-j-preserved c =
    let inside : c.loop-j.j < length c.args.inputs.now = omega (arith, c.loop-j-test.true, c.requires.inputs) in
    let read : c.index-inputs-j.result ≡ interval_in c.args.inputs.now c.loop-j.j =
    get_or_read c.args.inputs.now c.loop-j.j c.index-inputs-j.result inside c.index-inputs-j.is
    (point (pos 0)) in
    let before : gain_in c.loop-j.gains c.loop-j.j ≡ gain_in c.args.gains.now c.loop-j.j =
    c.loop-j.invariant.left c.loop-j.j (omega arith) in
    let here : reached (Input c.loop-j.j) (gain_in c.loop-j.gains c.loop-j.j + c.magnitude_of.result)
    ≡ first_range (input_value (interval_in c.args.inputs.now) (gain_in c.args.gains.now))
    (input_places c.loop-j.j) =
    input_range c.loop-j.j (interval_in c.args.inputs.now) (gain_in c.args.gains.now) c.index-inputs-j.result _
    c.magnitude_of.result before c.magnitude_of.ensures.value read in
    record {
      long = c.raise.ensures.count ∙ c.loop-j.invariant.long;
      passed = inputs_passed (interval_in c.args.inputs.now) (gain_in c.args.gains.now) c.loop-j.j
          c.loop-j.invariant.passed (sym here ∙ sym c.in_ok-raise.ensures.range);
      done = λ k h. elim (cases_eq k c.loop-j.j) [
        | inl e ↦ rw e (c.in_ok-raise.ensures.here ∙ ap (λ n. n + c.magnitude_of.result) before
            ∙ ap (λ n. gain_in c.args.gains.now c.loop-j.j + n) (c.magnitude_of.ensures.value
            ∙ ap (λ (x : Interval). magnitude x) read))
        | inr ne ↦ (c.raise.ensures.others k ne ∙ c.loop-j.invariant.done k (omega (arith, ne, h)))
      ];
      left = λ k h. (let ne : k ≢ c.loop-j.j = omega (arith, h) in
          c.raise.ensures.others k ne ∙ c.loop-j.invariant.left k (omega (arith, h)));
      fit = c.raise.ensures.fit;
    }

pub returns-clause-added : goal.returns-clause-added
returns-clause-added c = fun_ext (λ k. elim (cases_lt k 4) [
  | inl h ↦ c.loop-j.invariant.done k (omega (arith, h, c.loop-j-test.false))
  | inr h ↦ (let past : interval_in c.args.inputs.now k ≡ point (pos 0) =
      get_or_past c.args.inputs.now k (point (pos 0)) (omega (arith, h, c.requires.inputs)) in
      c.loop-j.invariant.left k (omega (arith, h, c.loop-j.auto.j-end)) ∙ rw past (omega arith))
])
