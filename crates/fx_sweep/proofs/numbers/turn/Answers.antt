use Rattle.std.proofs.Common.{◌≡◌, ℕ, ◌+◌, Some, Option, arith, ap, ◌∙◌, unsigned_abs}
use Rattle.std.proofs.lemmas.Grind.{common_steps}
use Rattle.std.proofs.Math.IntN.{ℤ, ◌+ℤ◌}
use Rattle.std.specs.Option.{option_or}
use Rattle.fx_math.specs.Sums.{joined}
use Rattle.fx_eqs.specs.declared.limits.TheConstants.{PORTS}
use Rattle.fx_net.specs.Tables.{net_of}
use Rattle.fx_nums.specs.Arithmetic.{width}
use Rattle.fx_nums.specs.Interval.{Interval, magnitude}
use Rattle.fx_sweep.specs.Range.{first_range}
use Rattle.fx_sweep.specs.Steps.{input_places, input_value, rest_places, rest_value}
use Rattle.fx_sweep.specs.Swept.{gain_in, interval_in, range_of, whole_in}
use Rattle.fx_sweep.specs.Weights.{carry, settle, to_input}
use Rattle.fx_sweep.specs.declared.target.RangeAt.{RangeAt}
use Rattle.fx_sweep.proofs.Turned.{always_ok, where_ok}
use Rattle.fx_sweep.proofs.numbers.turn.Goals as goal

pub returns-in_err-settle_rows-clause-range : goal.returns-in_err-settle_rows-clause-range
returns-in_err-settle_rows-clause-range g c =
    let net = net_of c.args.net.now in
    let at = settle net g.row.N (interval_in c.args.weights.now) in
    let same : range_of c.from_residual.result ≡ Some c.in_err-settle_rows.field-0.0 = grind (arith, common_steps) in
    same
    ∙ ap (λ (o : Option RangeAt).
    option_or o (option_or (first_range (input_value (to_input net at) (gain_in c.args.input_gains.now))
    (joined PORTS input_places)) (first_range (rest_value (carry net at)) (joined g.row.N rest_places))))
    c.in_err-settle_rows.ensures.range

pub returns-clause-range : goal.returns-clause-range
returns-clause-range g c =
    let net = net_of c.args.net.now in
    let at = settle net g.row.N (interval_in c.args.weights.now) in
    c.hand_back.ensures.range
    ∙ ap (λ (t : ℕ → Interval).
    option_or (first_range (input_value (to_input net t) (gain_in c.args.input_gains.now))
    (joined PORTS input_places)) (first_range (rest_value (carry net t)) (joined g.row.N rest_places)))
    c.in_ok-settle_rows.ensures.settled
    ∙ ap (λ (o : Option RangeAt).
    option_or o (option_or (first_range (input_value (to_input net at) (gain_in c.args.input_gains.now))
    (joined PORTS input_places)) (first_range (rest_value (carry net at)) (joined g.row.N rest_places))))
    c.in_ok-settle_rows.ensures.range

pub returns-clause-weights : goal.returns-clause-weights
returns-clause-weights g c = always_ok c.hand_back.result _ c.in_ok-settle_rows.ensures.settled

pub returns-clause-near : goal.returns-clause-near
returns-clause-near g c = always_ok c.hand_back.result _ c.in_ok-settle_rows.ensures.near

pub returns-clause-carried : goal.returns-clause-carried
returns-clause-carried g c =
    where_ok c.hand_back.result _ _ c.hand_back.ensures.carried (λ e.
    e ∙ ap (carry (net_of c.args.net.now)) c.in_ok-settle_rows.ensures.settled)

pub returns-clause-inputs : goal.returns-clause-inputs
returns-clause-inputs g c =
    where_ok c.hand_back.result _ _ c.hand_back.ensures.inputs (λ e.
    e ∙ ap (to_input (net_of c.args.net.now)) c.in_ok-settle_rows.ensures.settled)

pub returns-clause-widths : goal.returns-clause-widths
returns-clause-widths g c =
    let widened : (ℕ → Interval) → ℕ → ℤ = λ t i. whole_in c.args.widths.now i +ℤ width (t i) in
    always_ok c.hand_back.result _ (c.in_ok-settle_rows.ensures.widths ∙ ap widened c.in_ok-settle_rows.ensures.settled)

pub returns-clause-row_gains : goal.returns-clause-row_gains
returns-clause-row_gains g c =
    let raised : (ℕ → Interval) → ℕ → ℕ = λ t i. gain_in c.args.row_gains.now i + unsigned_abs (t i).lo in
    always_ok c.hand_back.result _ (c.in_ok-settle_rows.ensures.gains ∙ ap raised c.in_ok-settle_rows.ensures.settled)

pub returns-clause-input_gains : goal.returns-clause-input_gains
returns-clause-input_gains g c =
    let raised : (ℕ → Interval) → ℕ → ℕ = λ t j. gain_in c.args.input_gains.now j
    + magnitude (to_input (net_of c.args.net.now) t j) in
    where_ok c.hand_back.result _ _ c.hand_back.ensures.gains (λ e. e ∙ ap raised c.in_ok-settle_rows.ensures.settled)
