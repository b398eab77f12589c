-- Numbers that are drawn one after another, from a state of 32 bits.
use Rattle.std.specs.Prelude.{ℕ, zero, suc, ◌+◌, ◌*◌, ◌/◌, ◌%◌, ◌^◌}

-- the state after one step
abbrev pub next_state : ℕ → ℕ
next_state s = (1664525 * s + 1013904223) % 2 ^ 32

-- after n steps
unfoldable pub state_after : ℕ → ℕ → ℕ
state_after zero s = s
state_after (suc n) s = next_state (state_after n s)

-- what a state gives: its upper 16 bits
abbrev pub drawn : ℕ → ℕ
drawn s = s / 2 ^ 16

-- the n-th draw from a state, from 1 on: a step comes before each
abbrev pub draw : ℕ → ℕ → ℕ
draw s n = drawn (state_after n s)
