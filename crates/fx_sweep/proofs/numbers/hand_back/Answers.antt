use Rattle.std.proofs.Common.{◌≡◌, ℕ, ◌+◌, ◌≤◌, Some, Option, arith, ap, ◌∙◌, length}
use Rattle.std.proofs.lemmas.Grind.{common_steps}
use Rattle.std.specs.Option.{option_or}
use Rattle.fx_math.specs.Sums.{joined}
use Rattle.fx_eqs.specs.declared.limits.TheConstants.{PORTS}
use Rattle.fx_net.specs.Tables.{net_of}
use Rattle.fx_nums.specs.Interval.{Interval, magnitude}
use Rattle.fx_sweep.specs.Range.{first_range}
use Rattle.fx_sweep.specs.Steps.{input_places, input_value, rest_places, rest_value}
use Rattle.fx_sweep.specs.Swept.{gain_in, interval_in, range_of}
use Rattle.fx_sweep.specs.Weights.{carry, to_input}
use Rattle.fx_sweep.specs.declared.target.RangeAt.{RangeAt}
use Rattle.fx_sweep.proofs.Turned.{always_ok, where_ok, carry_is, input_is, narrow_again}
use Rattle.fx_sweep.proofs.numbers.hand_back.Goals as goal

pub returns-in_err-add_inputs-clause-range : goal.returns-in_err-add_inputs-clause-range
returns-in_err-add_inputs-clause-range g c =
    let inputs : interval_in c.hand_out.new.at
    ≡ to_input (net_of c.args.net.now) (interval_in c.args.weights.now) =
    c.hand_out.ensures.value
    ∙ input_is (net_of c.args.net.now) g.row.N _ _ _ c.nets_fit.ensures.rows c.requires.weights
    c.links.ensures.coefficients in
    let same : range_of c.from_residual.result ≡ Some c.in_err-add_inputs.field-0.0 = grind (arith, common_steps) in
    let first = c.in_err-add_inputs.ensures.range ∙ ap (λ (t : ℕ → Interval).
    first_range (input_value t (gain_in c.args.gains.now)) (joined PORTS input_places)) inputs in
    same ∙ ap (λ (o : Option RangeAt).
    option_or o (first_range (rest_value (carry (net_of c.args.net.now) (interval_in c.args.weights.now)))
    (joined g.row.N rest_places))) first

pub returns-clause-range : goal.returns-clause-range
returns-clause-range g c =
    let inputs : interval_in c.hand_out.new.at
    ≡ to_input (net_of c.args.net.now) (interval_in c.args.weights.now) =
    c.hand_out.ensures.value
    ∙ input_is (net_of c.args.net.now) g.row.N _ _ _ c.nets_fit.ensures.rows c.requires.weights
    c.links.ensures.coefficients in
    let carried : interval_in c.hand_out-2.new.at
    ≡ carry (net_of c.args.net.now) (interval_in c.args.weights.now) =
    c.hand_out-2.ensures.value
    ∙ carry_is (net_of c.args.net.now) g.row.N _ _ _ c.nets_fit.ensures.rows c.requires.weights
    c.links-2.ensures.coefficients in
    let long : length c.hand_out-2.new.at ≡ g.row.N = c.hand_out-2.ensures.count ∙ c.requires.carried in
    let first = c.in_ok-add_inputs.ensures.range ∙ ap (λ (t : ℕ → Interval).
    first_range (input_value t (gain_in c.args.gains.now)) (joined PORTS input_places)) inputs in
    c.test_rests.ensures.range
    ∙ ap (λ (n : ℕ). first_range (rest_value (interval_in c.hand_out-2.new.at)) (joined n rest_places)) long
    ∙ ap (λ (t : ℕ → Interval). first_range (rest_value t) (joined g.row.N rest_places)) carried
    ∙ ap (λ (o : Option RangeAt).
    option_or o (first_range (rest_value (carry (net_of c.args.net.now) (interval_in c.args.weights.now)))
    (joined g.row.N rest_places))) first

pub returns-clause-inputs : goal.returns-clause-inputs
returns-clause-inputs g c =
    always_ok c.test_rests.result _ (c.hand_out.ensures.value
    ∙ input_is (net_of c.args.net.now) g.row.N _ _ _ c.nets_fit.ensures.rows c.requires.weights
    c.links.ensures.coefficients)

pub returns-clause-carried : goal.returns-clause-carried
returns-clause-carried g c =
    always_ok c.test_rests.result _ (c.hand_out-2.ensures.value
    ∙ carry_is (net_of c.args.net.now) g.row.N _ _ _ c.nets_fit.ensures.rows c.requires.weights
    c.links-2.ensures.coefficients)

pub returns-clause-gains : goal.returns-clause-gains
returns-clause-gains g c =
    let inputs : interval_in c.hand_out.new.at
    ≡ to_input (net_of c.args.net.now) (interval_in c.args.weights.now) =
    c.hand_out.ensures.value
    ∙ input_is (net_of c.args.net.now) g.row.N _ _ _ c.nets_fit.ensures.rows c.requires.weights
    c.links.ensures.coefficients in
    let raised : (ℕ → Interval) → ℕ → ℕ = λ t j. gain_in c.args.gains.now j + magnitude (t j) in
    always_ok c.test_rests.result _ (c.in_ok-add_inputs.ensures.added ∙ ap raised inputs)

pub returns-clause-narrow : goal.returns-clause-narrow
returns-clause-narrow g c =
    let few : length c.args.weights.now ≤ 64 = omega (arith, c.requires.weights, c.nets_fit.ensures.rows_high) in
    where_ok c.test_rests.result _ _ c.test_rests.ensures.small (λ small.
    narrow_again c.hand_out-2.new.at (length c.args.weights.now) few small c.hand_out-2.ensures.narrow)
