use Rattle.std.proofs.Common.{◌≡◌, ◌+◌, ◌-◌, ◌*◌, [], ◌∷◌}
use Rattle.fx_math.specs.Sums.{joined}
use Rattle.fx_eqs.specs.declared.limits.TheConstants.{PORTS}
use Rattle.fx_sweep.specs.Swept.{interval_in}
use Rattle.fx_gain.specs.Enclosing.{worst_word}
use Rattle.fx_gain.proofs.weights.worst_words.Given as goal

abbrev pub invariant-loop-k : goal.invariant-loop-k
invariant-loop-k l =
    l.words.items ≡ joined l.k (λ k. worst_word l.bound
    (interval_in l.weights ((l.moments - (k + 1)) * PORTS + l.j)) ∷ [])
