-- The weights of one moment more.
use Rattle.std.proofs.Common.{◌≡◌, ℕ, ◌+◌, ◌*◌, ◌<◌, List, arith, ap, ◌∙◌, subst, inl, inr, add-one}
use Rattle.std.proofs.lemmas.Bool.{cases_lt}
use Rattle.fx_eqs.specs.declared.limits.TheConstants.{PORTS}
use Rattle.fx_net.specs.Net.{Net}
use Rattle.fx_nums.specs.Interval.{Interval}
use Rattle.fx_sweep.specs.Swept.{State, Swept, input_at, interval_in, last_inputs}
use Rattle.fx_sweep.specs.Target.{start_of}
use Rattle.fx_sweep.specs.Weights.{inputs}
use Rattle.fx_sweep.specs.declared.target.Target.{Target}

latest : (net : Net) (start : ℕ → Interval) (n : ℕ) → last_inputs net start (n + 1) ≡ inputs net start n
latest net start n = ap (last_inputs net start) (add-one n)

pub one_more_moment : (net : Net) (target : Target) (s : State) (n : ℕ) (old new : List Interval) →
    Swept s net target (n + 1) →
    ((j : ℕ) → j < PORTS → interval_in new (n * PORTS + j) ≡ input_at s j) →
    ((i : ℕ) → i < n * PORTS → interval_in new i ≡ interval_in old i) →
    ((k j : ℕ) → k < n → j < PORTS → interval_in old (k * PORTS + j) ≡ inputs net (start_of target) k j) →
    (k j : ℕ) → k < n + 1 → j < PORTS → interval_in new (k * PORTS + j) ≡ inputs net (start_of target) k j
one_more_moment net target s n old new swept here before done k j l port = elim (cases_lt k n) [
  | inl below ↦ before (k * PORTS + j) (omega (arith, below, port)) ∙ done k j below port
  | inr from ↦ (let same : n ≡ k = omega (arith, l, from) in
      subst (λ i. interval_in new (i * PORTS + j) ≡ inputs net (start_of target) i j) same
      (here j port ∙ ap (λ (f : ℕ → Interval). f j) (swept.has_inputs ∙ latest net (start_of target) n)))
]
