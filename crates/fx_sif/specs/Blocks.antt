-- The blocks of an implicit form, and their entries.
use Rattle.std.specs.Prelude.{ℕ, ◌==◌, ◌&&◌, Bool, true, false}
use Rattle.fx_sif.specs.declared.parts.Block.{Block}
use Rattle.fx_sif.specs.declared.parts.Block.TheVariants.{J, K, L, M, N, P, Q, R, S}
use Rattle.fx_sif.specs.declared.parts.Entry.{Entry}
use Rattle.fx_sif.specs.declared.parts.Sizes.{Sizes}

-- J, M and N have a row for each intermediate variable, K, P and Q for each state, L, R and S for each output
abbrev pub height : Sizes → Block → ℕ
height s J = s.t
height s K = s.x
height s L = s.y
height s M = s.t
height s N = s.t
height s P = s.x
height s Q = s.x
height s R = s.y
height s S = s.y

-- J, K and L have a column for each intermediate variable, M, P and R for each state, N, Q and S for each input
abbrev pub width : Sizes → Block → ℕ
width s J = s.t
width s K = s.t
width s L = s.t
width s M = s.x
width s N = s.u
width s P = s.x
width s Q = s.u
width s R = s.x
width s S = s.u

abbrev pub same_block : Block → Block → Bool
same_block J J = true
same_block K K = true
same_block L L = true
same_block M M = true
same_block N N = true
same_block P P = true
same_block Q Q = true
same_block R R = true
same_block S S = true
same_block _ _ = false

-- the entry stands in this block, row and column
abbrev pub is_at : Block → ℕ → ℕ → Entry → Bool
is_at block i j e = same_block e.block block && (e.i == i && e.j == j)

-- both stand in the same place
abbrev pub same_place : Entry → Entry → Bool
same_place e f = is_at e.block e.i e.j f
