-- The entries of both cascades ascend, so none is refused.
use Rattle.std.proofs.Common.{◌≡◌, ℕ, zero, suc, ◌+◌, ◌*◌, ◌<◌, ◌≤◌, List, [], ◌∷◌, ◌++◌, length, length-append}
use Rattle.std.proofs.Common.{arith, subst}
use Rattle.fx_math.specs.Sums.{joined}
use Rattle.fx_nums.specs.Fraction.{Fraction, one_fraction, minus}
use Rattle.fx_eqs.specs.declared.limits.TheConstants.{EQUATION_TERMS}
use Rattle.fx_sif.specs.Entries.{entry, delays}
use Rattle.fx_sif.specs.Fits.{ImplicitFits}
use Rattle.fx_sif.specs.Laws.{WhatFitsHasNoFault, NeverRefused}
use Rattle.fx_sif.specs.declared.parts.Block.TheVariants.{K, M, P, Q}
use Rattle.fx_sif.proofs.Ascending.{block_base, Ascends, CountsFit, fits_from, never_from, ascends_append}
use Rattle.fx_sif.proofs.Ascending.{ascends_higher, ascends_lower, delays_ascend, joined_ascend}
use Rattle.fx_sif.proofs.EntryCounts.{delays_count, joined_count}
use Rattle.fx_sif.specs.Implicit.{single}
use Rattle.fx_cascade.specs.Cascades.{taken_in, last_section, df1_section, df1_states, cascade_df1_form}
use Rattle.fx_cascade.specs.Cascades.{df2t_section, state_takes, first_state, second_state, df2t_states}
use Rattle.fx_cascade.specs.Cascades.{cascade_df2t_form}
use Rattle.fx_cascade.specs.Sections.{SectionsFit, count_of, b0, b1, b2, a1, a2}

-- ---- the count of sections

pub record CountFits (n : ℕ) : Type 0 where
  pub some : 1 ≤ n
  pub few : n ≤ 8

pub count_fits : (cs : List Fraction) → SectionsFit cs → CountFits (count_of cs)
count_fits cs fits =
    let low = fits.low in
    let high : length cs ≤ 48 = fits.high in
    let whole = fits.whole in
    record { some = omega (arith, low, whole); few = omega (arith, high, whole) }

counts_fit : (t x : ℕ) → t + x ≤ 39 → CountsFit (single t x)
counts_fit t x h = record {
  rows_low = omega arith;
  rows_high = omega arith;
  inputs_low = omega arith;
  inputs_high = omega arith;
  outputs_low = omega arith;
  outputs_high = omega arith;
}

-- ---- the parts

taken_ascends : (t x i : ℕ) (c : Fraction) → i < t → i < 8 →
    Ascends block_base (single t x) (1000 * i) (1000 * i + 100) (taken_in i c ∷ [])
taken_ascends t x zero c h few = (omega arith, record { row = h; column = omega arith; unit_lower = tt }, omega arith)
taken_ascends t x (suc i) c h few = (
  omega arith,
  record {
    row = h;
    column = omega arith;
    unit_lower = record { diagonal = λ same. absurd (omega arith); above = λ higher. absurd (omega arith) };
  },
  omega arith,
)

df1_section_ascends : (cs : List Fraction) (n i : ℕ) → n ≤ 8 → i < n →
    Ascends block_base (single n (2 * n + 2)) (1000 * i) (1000 * suc i) (df1_section cs i)
df1_section_ascends cs n i few h =
    let s = single n (2 * n + 2) in
    ascends_append block_base s (1000 * i) (1000 * i + 100) (1000 * suc i) (taken_in i (b0 cs i) ∷ [])
    (entry M i (2 * i) (b1 cs i) ∷ entry M i (2 * i + 1) (b2 cs i) ∷ entry M i (2 * i + 2)
    (minus (a1 cs i)) ∷ entry M i (2 * i + 3) (minus (a2 cs i)) ∷ [])
    (taken_ascends n (2 * n + 2) i (b0 cs i) h (omega arith)) (
      omega arith,
      record { row = h; column = omega arith; unit_lower = tt },
      (
        omega arith,
        record { row = h; column = omega arith; unit_lower = tt },
        (
          omega arith,
          record { row = h; column = omega arith; unit_lower = tt },
          (omega arith, record { row = h; column = omega arith; unit_lower = tt }, omega arith),
        ),
      ),
    )

df2t_section_ascends : (cs : List Fraction) (n i : ℕ) → n ≤ 8 → i < n →
    Ascends block_base (single n (2 * n)) (1000 * i) (1000 * suc i) (df2t_section cs i)
df2t_section_ascends cs n i few h =
    let s = single n (2 * n) in
    ascends_append block_base s (1000 * i) (1000 * i + 100) (1000 * suc i) (taken_in i (b0 cs i) ∷ [])
    (entry M i (2 * i) one_fraction ∷ [])
    (taken_ascends n (2 * n) i (b0 cs i) h (omega arith))
    (omega arith, record { row = h; column = omega arith; unit_lower = tt }, omega arith)

state_ascends : (n row i : ℕ) (c : Fraction) → n ≤ 8 → i < n → row < 2 * n →
    Ascends block_base (single n (2 * n)) (1000100 + 1000 * row) (1000200 + 1000 * row + i) (state_takes row i c ∷ [])
state_ascends n row zero c few h l =
    (omega arith, record { row = l; column = omega arith; unit_lower = tt }, omega arith)
state_ascends n row (suc i) c few h l =
    (omega arith, record { row = l; column = omega arith; unit_lower = tt }, omega arith)

fed_ascends : (n row i : ℕ) (c : Fraction) → n ≤ 8 → i < n → row < 2 * n →
    Ascends block_base (single n (2 * n)) (1000200 + 1000 * row + i) (1001000 + 1000 * row) (entry K row i c ∷ [])
fed_ascends n row i c few h l = (omega arith, record { row = l; column = h; unit_lower = tt }, omega arith)

df2t_states_ascend : (cs : List Fraction) (n i : ℕ) → n ≤ 8 → i < n →
    Ascends block_base (single n (2 * n)) (1000000 + 2000 * i) (1000000 + 2000 * suc i) (df2t_states cs i)
df2t_states_ascend cs n i few h =
    let s = single n (2 * n) in
    let row : ℕ = 2 * i in
    let next : ℕ = 2 * i + 1 in
    let low : row < 2 * n = omega arith in
    let high : next < 2 * n = omega arith in
    ascends_append block_base s (1000000 + 2000 * i) (1001000 + 1000 * row) (1000000 + 2000 * suc i) (first_state cs i)
    (second_state cs i)
    (ascends_append block_base s (1000000 + 2000 * i) (1000100 + 1000 * row) (1001000 + 1000 * row)
    (entry P row next one_fraction ∷ [])
    (state_takes row i (b1 cs i) ∷ entry K row i (minus (a1 cs i)) ∷ [])
    (omega arith, record { row = low; column = high; unit_lower = tt }, omega arith)
    (ascends_append block_base s (1000100 + 1000 * row) (1000200 + 1000 * row + i) (1001000 + 1000 * row)
    (state_takes row i (b1 cs i) ∷ []) (entry K row i (minus (a1 cs i)) ∷ [])
    (state_ascends n row i (b1 cs i) few h low) (fed_ascends n row i (minus (a1 cs i)) few h low)))
    (ascends_lower block_base s (1001000 + 1000 * row) (1000100 + 1000 * next) (1000000 + 2000 * suc i)
    (second_state cs i) (omega arith)
    (ascends_append block_base s (1000100 + 1000 * next) (1000200 + 1000 * next + i) (1000000 + 2000 * suc i)
    (state_takes next i (b2 cs i) ∷ []) (entry K next i (minus (a2 cs i)) ∷ [])
    (state_ascends n next i (b2 cs i) few h high)
    (ascends_higher block_base s (1000200 + 1000 * next + i) (1001000 + 1000 * next) (1000000 + 2000 * suc i)
    (entry K next i (minus (a2 cs i)) ∷ []) (omega arith)
    (fed_ascends n next i (minus (a2 cs i)) few h high))))

last_ascends : (t x lo : ℕ) → 1 ≤ t → t ≤ 8 → lo ≤ 2000000 → Ascends block_base (single t x) lo 3000000 (last_section t)
last_ascends t x lo some few h =
    (omega arith, record { row = omega arith; column = omega arith; unit_lower = tt }, omega arith)

-- ---- the first direct form

df1_ascends : (cs : List Fraction) (n : ℕ) → CountFits n →
    Ascends block_base (single n (2 * n + 2)) 0 3000000
    (joined n (df1_section cs) ++ delays Q 0 0 2 ++ joined n df1_states ++ last_section n)
df1_ascends cs n fits =
    let s = single n (2 * n + 2) in
    let some : 1 ≤ n = fits.some in
    let few : n ≤ 8 = fits.few in
    let variables = joined n (df1_section cs) in
    let inputs = delays Q 0 0 2 in
    let states = joined n df1_states in
    let bound : ℕ → ℕ = λ i. 1000000 + 1000 * (2 * i + 2) in
    ascends_append block_base s 0 (bound n) 3000000 (variables ++ inputs ++ states) (last_section n)
    (ascends_append block_base s 0 1002000 (bound n) (variables ++ inputs) states
    (ascends_append block_base s 0 1000000 1002000 variables inputs
    (ascends_higher block_base s 0 (1000 * n) 1000000 variables (omega arith)
    (joined_ascend block_base s (λ i. 1000 * i) n (df1_section cs) (λ i h. df1_section_ascends cs n i few h)))
    (delays_ascend s Q 0 0 2 (λ i j c. tt) (omega arith) (omega arith) (omega arith) (omega arith) (omega arith)
    (omega arith) (omega arith)))
    (joined_ascend block_base s bound n df1_states (λ i h.
    let same : 1000000 + 1000 * ((2 * i + 2) + 2) ≡ bound (suc i) = omega arith in
    subst (λ m. Ascends block_base s (bound i) m (df1_states i)) same
    (delays_ascend s K i (2 * i + 2) 2 (λ i j c. tt) (omega arith) (omega arith) (omega arith) (omega arith) h
    (omega arith) (omega arith)))))
    (last_ascends n (2 * n + 2) (bound n) some few (omega arith))

pub df1_fits : (cs : List Fraction) → SectionsFit cs → ImplicitFits (cascade_df1_form cs)
df1_fits cs fits =
    let n = count_fits cs fits in
    let few = n.few in
    fits_from block_base (cascade_df1_form cs) 3000000
    (counts_fit (count_of cs) (2 * count_of cs + 2) (omega (arith, few)))
    (df1_ascends cs (count_of cs) n)

df1_count : (cs : List Fraction) (n : ℕ) → n ≤ 8 →
    length (joined n (df1_section cs) ++ delays Q 0 0 2 ++ joined n df1_states ++ last_section n) ≤ EQUATION_TERMS
df1_count cs n few =
    let variables = joined n (df1_section cs) in
    let inputs = delays Q 0 0 2 in
    let states = joined n df1_states in
    omega (
      arith,
      length-append (variables ++ inputs ++ states) (last_section n),
      length-append (variables ++ inputs) states,
      length-append variables inputs,
      joined_count n 5 (df1_section cs) (λ i h. omega arith),
      delays_count Q 0 0 2,
      joined_count n 2 df1_states (λ i h. delays_count K i (2 * i + 2) 2),
      few,
    )

pub df1_never_refused : (cs : List Fraction) → SectionsFit cs → WhatFitsHasNoFault → NeverRefused (cascade_df1_form cs)
df1_never_refused cs fits law =
    let n = count_fits cs fits in
    let few = n.few in
    never_from block_base (cascade_df1_form cs) 3000000
    (counts_fit (count_of cs) (2 * count_of cs + 2) (omega (arith, few)))
    (df1_count cs (count_of cs) few) (df1_ascends cs (count_of cs) n) law

-- ---- the second direct form transposed

df2t_ascends : (cs : List Fraction) (n : ℕ) → CountFits n →
    Ascends block_base (single n (2 * n)) 0 3000000
    (joined n (df2t_section cs) ++ joined n (df2t_states cs) ++ last_section n)
df2t_ascends cs n fits =
    let s = single n (2 * n) in
    let some : 1 ≤ n = fits.some in
    let few : n ≤ 8 = fits.few in
    let variables = joined n (df2t_section cs) in
    let states = joined n (df2t_states cs) in
    let bound : ℕ → ℕ = λ i. 1000000 + 2000 * i in
    ascends_append block_base s 0 (bound n) 3000000 (variables ++ states) (last_section n)
    (ascends_append block_base s 0 (bound 0) (bound n) variables states
    (ascends_higher block_base s 0 (1000 * n) (bound 0) variables (omega arith)
    (joined_ascend block_base s (λ i. 1000 * i) n (df2t_section cs) (λ i h. df2t_section_ascends cs n i few h)))
    (joined_ascend block_base s bound n (df2t_states cs) (λ i h. df2t_states_ascend cs n i few h)))
    (last_ascends n (2 * n) (bound n) some few (omega arith))

pub df2t_fits : (cs : List Fraction) → SectionsFit cs → ImplicitFits (cascade_df2t_form cs)
df2t_fits cs fits =
    let n = count_fits cs fits in
    let few = n.few in
    fits_from block_base (cascade_df2t_form cs) 3000000
    (counts_fit (count_of cs) (2 * count_of cs) (omega (arith, few)))
    (df2t_ascends cs (count_of cs) n)

df2t_count : (cs : List Fraction) (n : ℕ) → n ≤ 8 →
    length (joined n (df2t_section cs) ++ joined n (df2t_states cs) ++ last_section n) ≤ EQUATION_TERMS
df2t_count cs n few =
    let variables = joined n (df2t_section cs) in
    let states = joined n (df2t_states cs) in
    omega (
      arith,
      length-append (variables ++ states) (last_section n),
      length-append variables states,
      joined_count n 2 (df2t_section cs) (λ i h. omega arith),
      joined_count n 5 (df2t_states cs) (λ i h. omega arith),
      few,
    )

pub df2t_never_refused : (cs : List Fraction) → SectionsFit cs → WhatFitsHasNoFault →
    NeverRefused (cascade_df2t_form cs)
df2t_never_refused cs fits law =
    let n = count_fits cs fits in
    let few = n.few in
    never_from block_base (cascade_df2t_form cs) 3000000
    (counts_fit (count_of cs) (2 * count_of cs) (omega (arith, few)))
    (df2t_count cs (count_of cs) few) (df2t_ascends cs (count_of cs) n) law
