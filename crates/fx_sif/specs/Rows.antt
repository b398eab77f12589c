-- The rows of an implicit form in a net: each row reads rows of this moment or of the one before, and inputs of this
-- moment.
use Rattle.std.specs.Prelude.{ℕ, ◌+◌, ◌==◌, ◌&&◌, nat_lt, cond, Bool, true, List, [], ◌∷◌, map, filter}
use Rattle.fx_math.specs.Sums.{joined}
use Rattle.fx_nums.specs.Fraction.{Fraction, minus}
use Rattle.fx_eqs.specs.Expanded.{NetRead, NetTerm}
use Rattle.fx_eqs.specs.Expanded.NetRead.{Now, Old, In}
use Rattle.fx_net.specs.Net.{Net}
use Rattle.fx_net.specs.Rows.{put_term}
use Rattle.fx_sif.specs.Implicit.{Implicit, rows}
use Rattle.fx_sif.specs.declared.parts.Block.{Block}
use Rattle.fx_sif.specs.declared.parts.Block.TheVariants.{J, K, L, M, N, P, Q, R, S}
use Rattle.fx_sif.specs.declared.parts.Entry.{Entry}
use Rattle.fx_sif.specs.declared.parts.Sizes.{Sizes}

-- the rows of the intermediate variables come first, then those of the states behind the moment, then those of the
-- outputs
abbrev pub row_place : Sizes → Block → ℕ → ℕ
row_place s J i = i
row_place s K i = s.t + i
row_place s L i = s.t + s.x + i
row_place s M i = i
row_place s N i = i
row_place s P i = s.t + i
row_place s Q i = s.t + i
row_place s R i = s.t + s.x + i
row_place s S i = s.t + s.x + i

-- J, K and L read intermediate variables of this moment, M, P and R the states that the moment before left, N, Q and S
-- inputs
abbrev pub net_read : Sizes → Block → ℕ → NetRead
net_read s J j = Now j
net_read s K j = Now j
net_read s L j = Now j
net_read s M j = Old (s.t + j)
net_read s N j = In j
net_read s P j = Old (s.t + j)
net_read s Q j = In j
net_read s R j = Old (s.t + j)
net_read s S j = In j

-- J stands on the other side of its equation
abbrev pub on_the_right : Block → Fraction → Fraction
on_the_right J c = minus c
on_the_right _ c = c

-- of J only what is below the diagonal is read
abbrev pub is_read : Block → ℕ → ℕ → Bool
is_read J i j = nat_lt j i
is_read _ i j = true

-- an entry as a term of its row
abbrev pub term_of : Sizes → Entry → NetTerm
term_of s e = record { coef = on_the_right e.block e.coef; from = net_read s e.block e.j }

abbrev pub is_in_row : Sizes → ℕ → Entry → Bool
is_in_row s r e = is_read e.block e.i e.j && row_place s e.block e.i == r

-- the terms of row r
abbrev pub net_row : Sizes → List Entry → ℕ → List NetTerm
net_row s entries r = map (term_of s) (filter (is_in_row s r) entries)

-- the rows in their order, each a list of its terms
abbrev pub rows_of : Implicit → List (List NetTerm)
rows_of f = joined (rows f.sizes) (λ r. net_row f.sizes f.entries r ∷ [])

-- ---- one entry after another, where the rows stand from a place on

abbrev pub put_entry : Sizes → ℕ → Entry → Net → Net
put_entry s at e net = cond (is_read e.block e.i e.j)
    (put_term at (row_place s e.block e.i) (on_the_right e.block e.coef) (net_read s e.block e.j) net) net

abbrev pub put_entries : Sizes → ℕ → List Entry → Net → Net
put_entries s at [] net = net
put_entries s at (e ∷ es) net = put_entries s at es (put_entry s at e net)
