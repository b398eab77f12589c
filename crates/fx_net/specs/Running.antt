-- A run and a denominator of each net.
use Rattle.std.specs.Prelude.{ℕ, ◌*◌, ◌^◌, ℤ, pos}
use Rattle.fx_math.specs.Unroll.{unroll}
use Rattle.fx_nums.specs.declared.limits.TheConstants.{GREATEST_TWO, GREATEST_TEN}
use Rattle.fx_net.specs.Net.{Net}
use Rattle.fx_net.specs.Run.{IsRun, row_reads}

-- the values of a net whose rows have just what they read, row by row
abbrev pub run_of : Net → ℕ → (ℕ → ℕ → ℤ) → ℕ → ℕ → ℤ
run_of net q u = unroll net.rows (row_reads net q u)

-- these values are a run without perturbation, for each net, each denominator and all inputs
abbrev pub EachNetHasARun : Type 0
EachNetHasARun = (net : Net) (q : ℕ) (u : ℕ → ℕ → ℤ) → IsRun net q u (run_of net q u) (λ k i. pos 0)

-- a multiple of the denominator of each fraction
abbrev pub widest : ℕ
widest = 2 ^ GREATEST_TWO * 10 ^ GREATEST_TEN
