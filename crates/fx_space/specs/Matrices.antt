-- The matrices A, B, C and D of a state space with n states, m inputs and p outputs, which stand in one list, row after
-- row.
use Rattle.std.specs.Prelude.{◌≡◌, ◌+◌, ◌*◌, ◌≤◌, List, length, take, drop}
use Rattle.fx_nums.specs.Fraction.{Fraction}
use Rattle.fx_eqs.specs.declared.limits.TheConstants.{PORTS, STATES}
use Rattle.fx_sif.specs.declared.parts.Sizes.{Sizes}

-- n rows of n columns
abbrev pub matrix_a : Sizes → List Fraction → List Fraction
matrix_a s abcd = take (s.x * s.x) abcd

-- n rows of m columns
abbrev pub matrix_b : Sizes → List Fraction → List Fraction
matrix_b s abcd = take (s.x * s.u) (drop (s.x * s.x) abcd)

-- p rows of n columns
abbrev pub matrix_c : Sizes → List Fraction → List Fraction
matrix_c s abcd = take (s.y * s.x) (drop (s.x * s.x + s.x * s.u) abcd)

-- p rows of m columns
abbrev pub matrix_d : Sizes → List Fraction → List Fraction
matrix_d s abcd = take (s.y * s.u) (drop (s.x * s.x + s.x * s.u + s.y * s.x) abcd)

-- no intermediate variable, the other counts in their ranges, and just the entries of the four matrices
pub record SpaceFits (s : Sizes) (abcd : List Fraction) : Type 0 where
  pub variables : s.t ≡ 0
  pub states : s.x ≤ STATES
  pub inputs_low : 1 ≤ s.u
  pub inputs_high : s.u ≤ PORTS
  pub outputs_low : 1 ≤ s.y
  pub outputs_high : s.y ≤ PORTS
  pub count : length abcd ≡ s.x * s.x + s.x * s.u + s.y * s.x + s.y * s.u
