-- Where a sweep's gain, or its first range, comes from.
use Rattle.std.proofs.Common.{◌≡◌, ◌∙◌, ℕ, zero, suc, ◌+◌, ◌-◌, ◌<◌, Some, None, Ok, Err, refl, sym, ap}
use Rattle.std.proofs.Common.{subst, arith}
use Rattle.fx_nums.specs.Interval.{Interval}
use Rattle.fx_net.specs.Net.{Net}
use Rattle.fx_sweep.specs.Gains.{input_gain}
use Rattle.fx_sweep.specs.Range.{first_range_in, range_at}
use Rattle.fx_sweep.specs.Swept.{State, Swept, input_gain_at}
use Rattle.fx_sweep.specs.Target.{start_of}
use Rattle.fx_sweep.specs.declared.target.RangeAt.{RangeAt}
use Rattle.fx_sweep.specs.declared.target.Target.{Target}
use Rattle.fx_bench.specs.Sweeping.{gain_or_range, or_range}

stays : (net : Net) (start : ℕ → Interval) (met : RangeAt) (i k : ℕ) → first_range_in net start i ≡ Some met →
    first_range_in net start (i + k) ≡ Some met
stays net start met i zero h = let e : i + 0 ≡ i = omega arith in rw e h
stays net start met i (suc k) h = let e : i + suc k ≡ suc (i + k) =
    omega arith in rw e (rw (stays net start met i k h) refl)

pub range_met : (net : Net) (target : Target) (met : RangeAt) (i m : ℕ) → i < m →
    first_range_in net (start_of target) i ≡ None → range_at net (start_of target) i ≡ Some met →
    Err met ≡ gain_or_range net target m
range_met net target met i m less before here =
    let start = start_of target in
    let one : first_range_in net start (suc i) ≡ Some met = rw before here in
    let sum : suc i + (m - suc i) ≡ m = omega arith in
    let there : first_range_in net start m ≡ Some met =
    subst (λ n. first_range_in net start n ≡ Some met) sum (stays net start met (suc i) (m - suc i) one) in
    sym (ap (λ r. or_range r (input_gain net start m 0)) there)

pub no_range_met : (s : State) (net : Net) (target : Target) (m : ℕ) → Swept s net target m →
    Ok (input_gain_at s 0) ≡ gain_or_range net target m
no_range_met s net target m h =
    let start = start_of target in
    let same : input_gain_at s 0 ≡ input_gain net start m 0 = ap (λ f. f 0) h.has_input_gains in
    ap Ok same ∙ sym (ap (λ r. or_range r (input_gain net start m 0)) h.within)
