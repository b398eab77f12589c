-- The shapes of the matrices of a state space.
use Rattle.std.specs.Prelude.{◌≡◌, ◌*◌, ◌≤◌, length}
use Rattle.fx_eqs.specs.declared.limits.TheConstants.{PORTS, STATES}
use Rattle.fx_textbook.specs.declared.terms.Space.{Space}

-- the counts of states, inputs and outputs in their ranges, and matrices of n by n, n by m, p by n and p by m
pub record SpaceFits (s : Space) : Type 0 where
  pub states : s.n ≤ STATES
  pub inputs_low : 1 ≤ s.m
  pub inputs_high : s.m ≤ PORTS
  pub outputs_low : 1 ≤ s.p
  pub outputs_high : s.p ≤ PORTS
  pub count_a : length s.a.now ≡ s.n * s.n
  pub count_b : length s.b.now ≡ s.n * s.m
  pub count_c : length s.c.now ≡ s.p * s.n
  pub count_d : length s.d.now ≡ s.p * s.m
