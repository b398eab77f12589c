-- The two cascades of second-order sections: their counts, and their entries row after row. Section i computes the
-- intermediate variable t_i; what it takes in is the input u for the first section, and t_(i-1) for each further one.
use Rattle.std.specs.Prelude.{ℕ, zero, suc, ◌+◌, ◌-◌, ◌*◌, List, [], ◌∷◌, ◌++◌}
use Rattle.fx_math.specs.Sums.{joined}
use Rattle.fx_nums.specs.Fraction.{Fraction, one_fraction, minus}
use Rattle.fx_sif.specs.Entries.{entry, delays}
use Rattle.fx_sif.specs.Implicit.{Implicit, single}
use Rattle.fx_sif.specs.declared.parts.Block.TheVariants.{J, K, L, M, N, P, Q}
use Rattle.fx_sif.specs.declared.parts.Entry.{Entry}
use Rattle.fx_cascade.specs.Sections.{count_of, b0, b1, b2, a1, a2}

-- what section i takes in, in its own row, times this
abbrev pub taken_in : ℕ → Fraction → Entry
taken_in zero c = entry N 0 0 c
taken_in (suc i) c = entry J (suc i) i (minus c)

-- the last section is put out
abbrev pub last_section : ℕ → List Entry
last_section n = entry L 0 (n - 1) one_fraction ∷ []

-- ---- the first direct form: the states are the two earlier inputs, and then the two earlier values of each section

-- t_i = b0 in + b1 in_1 + b2 in_2 - a1 q_1 - a2 q_2
abbrev pub df1_section : List Fraction → ℕ → List Entry
df1_section cs i =
    taken_in i (b0 cs i) ∷ entry M i (2 * i) (b1 cs i) ∷ entry M i (2 * i + 1) (b2 cs i)
    ∷ entry M i (2 * i + 2) (minus (a1 cs i)) ∷ entry M i (2 * i + 3) (minus (a2 cs i)) ∷ []

-- q_1' = t_i, q_2' = q_1
abbrev pub df1_states : ℕ → List Entry
df1_states i = delays K i (2 * i + 2) 2

abbrev pub cascade_df1_entries : List Fraction → List Entry
cascade_df1_entries cs =
    let n = count_of cs in
    joined n (df1_section cs) ++ delays Q 0 0 2 ++ joined n df1_states ++ last_section n

abbrev pub cascade_df1_form : List Fraction → Implicit
cascade_df1_form cs = record { sizes = single (count_of cs) (2 * count_of cs + 2); entries = cascade_df1_entries cs }

-- ---- the second direct form transposed: two states a section

-- t_i = b0 in + x_1
abbrev pub df2t_section : List Fraction → ℕ → List Entry
df2t_section cs i = taken_in i (b0 cs i) ∷ entry M i (2 * i) one_fraction ∷ []

-- what section i takes in, in the row of a state, times this
abbrev pub state_takes : ℕ → ℕ → Fraction → Entry
state_takes row zero c = entry Q row 0 c
state_takes row (suc i) c = entry K row i c

-- x_1' = x_2 + b1 in - a1 t_i
abbrev pub first_state : List Fraction → ℕ → List Entry
first_state cs i =
    entry P (2 * i) (2 * i + 1) one_fraction ∷ state_takes (2 * i) i (b1 cs i)
    ∷ entry K (2 * i) i (minus (a1 cs i)) ∷ []

-- x_2' = b2 in - a2 t_i
abbrev pub second_state : List Fraction → ℕ → List Entry
second_state cs i = state_takes (2 * i + 1) i (b2 cs i) ∷ entry K (2 * i + 1) i (minus (a2 cs i)) ∷ []

abbrev pub df2t_states : List Fraction → ℕ → List Entry
df2t_states cs i = first_state cs i ++ second_state cs i

abbrev pub cascade_df2t_entries : List Fraction → List Entry
cascade_df2t_entries cs =
    let n = count_of cs in
    joined n (df2t_section cs) ++ joined n (df2t_states cs) ++ last_section n

abbrev pub cascade_df2t_form : List Fraction → Implicit
cascade_df2t_form cs = record { sizes = single (count_of cs) (2 * count_of cs); entries = cascade_df2t_entries cs }
