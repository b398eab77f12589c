-- The entries of each direct form ascend, so none is refused.
use Rattle.std.proofs.Common.{◌≡◌, ℕ, ◌+◌, ◌*◌, ◌<◌, ◌≤◌, Bool, true, false, cond, nat_lt, max, List, [], ◌∷◌}
use Rattle.std.proofs.Common.{◌++◌, length, length-drop, map, drop, refl, arith, subst, ◌∙◌}
use Rattle.std.proofs.Math.Nat.{le-max_left, le-max_right, max-le}
use Rattle.std.proofs.lemmas.Bool.{ltb-true}
use Rattle.std.proofs.lemmas.List.{length-append, length-map}
use Rattle.fx_math.specs.Sums.{joined}
use Rattle.fx_nums.specs.Fraction.{Fraction, one_fraction, minus}
use Rattle.fx_eqs.specs.declared.limits.TheConstants.{COEFFICIENTS, EQUATION_TERMS}
use Rattle.fx_sif.specs.Entries.{coefficient, entry, across, delays}
use Rattle.fx_sif.specs.Fits.{ImplicitFits}
use Rattle.fx_sif.specs.Laws.{WhatFitsHasNoFault, NeverRefused}
use Rattle.fx_sif.specs.declared.parts.Block.TheVariants.{K, L, M, N, P, Q, R, S}
use Rattle.fx_sif.specs.declared.parts.Entry.{Entry}
use Rattle.fx_sif.proofs.EntryCounts.{across_count, delays_count, joined_count}
use Rattle.fx_sif.proofs.Ascending.{block_base, Ascends, CountsFit, number, fits_from, never_from}
use Rattle.fx_sif.proofs.Ascending.{ascends_append, ascends_lower, one_ascends, across_ascends, rows_ascend}
use Rattle.fx_sif.proofs.Ascending.{delays_ascend, led_ascends}
use Rattle.fx_sif.specs.Implicit.{single}
use Rattle.fx_direct.specs.Forms.{order, fir_entries, fir_form, df1_entries, df1_form, df2_entries}
use Rattle.fx_direct.specs.Forms.{df2_form, df2t_row, first_state, df2t_entries, df2t_form}

-- one input and one output
counts_fit : (t x : ℕ) → t + x ≤ 39 → CountsFit (single t x)
counts_fit t x h = record {
  rows_low = omega arith;
  rows_high = omega arith;
  inputs_low = omega arith;
  inputs_high = omega arith;
  outputs_low = omega arith;
  outputs_high = omega arith;
}

pub single_fits : (t x : ℕ) (es : List Entry) → Ascends block_base (single t x) 0 3000000 es → t + x ≤ 39 →
    ImplicitFits (record { sizes = single t x; entries = es })
single_fits t x es h few =
    fits_from block_base (record { sizes = single t x; entries = es }) 3000000 (counts_fit t x few) h

single_never : (t x : ℕ) (es : List Entry) → Ascends block_base (single t x) 0 3000000 es → length es ≤ EQUATION_TERMS →
    t + x ≤ 39 → WhatFitsHasNoFault → NeverRefused (record { sizes = single t x; entries = es })
single_never t x es h count few law =
    never_from block_base (record { sizes = single t x; entries = es }) 3000000 (counts_fit t x few) count h law

order_is : (cs : List Fraction) → length (drop 1 cs) ≡ order cs
order_is cs = length-drop 1 cs

against_is : (cs : List Fraction) → length (map minus (drop 1 cs)) ≡ order cs
against_is cs = length-map (drop 1 cs) minus ∙ order_is cs

-- ---- the forms

pub fir_ascends : (b : List Fraction) → length b ≤ COEFFICIENTS →
    Ascends block_base (fir_form b).sizes 0 3000000 (fir_entries b)
fir_ascends b high =
    let s = (fir_form b).sizes in
    let n = order_is b in
    ascends_append block_base s 0 (1000000 + 1000 * (0 + order b)) 3000000 (delays Q 0 0 (order b))
    (entry S 0 0 (coefficient b 0) ∷ across R 0 0 (drop 1 b))
    (ascends_lower block_base s 0 (1000000 + 1000 * 0) (1000000 + 1000 * (0 + order b)) (delays Q 0 0 (order b))
    (omega arith)
    (delays_ascend s Q 0 0 (order b) (λ i j c. tt) (omega arith) (omega arith) (omega arith) (omega arith)
    (omega arith) (omega arith) (omega arith)))
    (led_ascends s (1000000 + 1000 * (0 + order b)) 3000000 S R (coefficient b 0) (drop 1 b) (λ i j c. tt)
    (λ i j c. tt) (omega arith) (omega arith) (omega arith) (omega arith) (omega arith) (omega arith) (omega arith))

fir_count : (b : List Fraction) → length b ≤ COEFFICIENTS → length (fir_entries b) ≤ EQUATION_TERMS
fir_count b high =
    let output = entry S 0 0 (coefficient b 0) ∷ across R 0 0 (drop 1 b) in
    let row : length output ≡ order b + 1 = omega (arith, across_count R 0 0 (drop 1 b), order_is b) in
    omega (arith, length-append (delays Q 0 0 (order b)) output, delays_count Q 0 0 (order b), row)

pub fir_never_refused : (b : List Fraction) → 1 ≤ length b → length b ≤ COEFFICIENTS → WhatFitsHasNoFault →
    NeverRefused (fir_form b)
fir_never_refused b low high law =
    single_never 0 (order b) (fir_entries b) (fir_ascends b high) (fir_count b high) (omega arith) law

pub df1_ascends : (b a : List Fraction) → length b ≤ COEFFICIENTS → length a ≤ COEFFICIENTS →
    Ascends block_base (df1_form b a).sizes 0 3000000 (df1_entries b a)
df1_ascends b a high_b high_a =
    let s = (df1_form b a).sizes in
    let bs = drop 1 b in
    let fed = map minus (drop 1 a) in
    let nb = order_is b in
    let na = against_is a in
    let first = entry N 0 0 (coefficient b 0) ∷ across M 0 0 bs in
    let second = across M 0 (order b) fed in
    let third = delays Q 0 0 (order b) in
    let fourth = delays K 0 (order b) (order a) in
    ascends_append block_base s 0 (1000000 + 1000 * (order b + order a)) 3000000 (first ++ second ++ third ++ fourth)
    (entry L 0 0 one_fraction ∷ [])
    (ascends_append block_base s 0 (1000000 + 1000 * order b) (1000000 + 1000 * (order b + order a))
    (first ++ second ++ third) fourth
    (ascends_append block_base s 0 1000000 (1000000 + 1000 * order b) (first ++ second) third
    (ascends_append block_base s 0 (100 + order b) 1000000 first second
    (led_ascends s 0 (100 + order b) N M (coefficient b 0) bs (λ i j c. tt) (λ i j c. tt) (omega arith) (omega arith)
    (omega arith) (omega arith) (omega arith) (omega arith) (omega arith))
    (ascends_lower block_base s (100 + order b) (number block_base M 0 (order b)) 1000000 second (omega arith)
    (across_ascends block_base s 1000000 M 0 fed (order b) (λ j c. tt) (omega arith) (omega arith) (omega arith))))
    (ascends_lower block_base s 1000000 (1000000 + 1000 * 0) (1000000 + 1000 * order b) third (omega arith)
    (subst (λ m. Ascends block_base s (1000000 + 1000 * 0) m third)
    (let e : 1000000 + 1000 * (0 + order b) ≡ 1000000 + 1000 * order b = omega arith in e)
    (delays_ascend s Q 0 0 (order b) (λ i j c. tt) (omega arith) (omega arith) (omega arith) (omega arith)
    (omega arith) (omega arith) (omega arith)))))
    (delays_ascend s K 0 (order b) (order a) (λ i j c. tt) (omega arith) (omega arith) (omega arith) (omega arith)
    (omega arith) (omega arith) (omega arith)))
    (one_ascends block_base s (1000000 + 1000 * (order b + order a)) 3000000 L 0 0 one_fraction (omega arith)
    (omega arith) (omega arith) (omega arith) tt)

df1_count : (b a : List Fraction) → length b ≤ COEFFICIENTS → length a ≤ COEFFICIENTS →
    length (df1_entries b a) ≤ EQUATION_TERMS
df1_count b a high_b high_a =
    let first = entry N 0 0 (coefficient b 0) ∷ across M 0 0 (drop 1 b) in
    let second = across M 0 (order b) (map minus (drop 1 a)) in
    let third = delays Q 0 0 (order b) in
    let fourth = delays K 0 (order b) (order a) in
    let one : length first ≡ order b + 1 = omega (arith, across_count M 0 0 (drop 1 b), order_is b) in
    let two : length second ≡ order a =
    omega (arith, across_count M 0 (order b) (map minus (drop 1 a)), against_is a) in
    omega (
      arith,
      length-append (first ++ second ++ third ++ fourth) (entry L 0 0 one_fraction ∷ []),
      length-append (first ++ second ++ third) fourth,
      length-append (first ++ second) third,
      length-append first second,
      one,
      two,
      delays_count Q 0 0 (order b),
      delays_count K 0 (order b) (order a),
    )

pub df1_never_refused : (b a : List Fraction) → 1 ≤ length b → length b ≤ COEFFICIENTS → 1 ≤ length a →
    length a ≤ COEFFICIENTS → WhatFitsHasNoFault → NeverRefused (df1_form b a)
df1_never_refused b a low_b high_b low_a high_a law =
    single_never 1 (order b + order a) (df1_entries b a) (df1_ascends b a high_b high_a) (df1_count b a high_b high_a)
    (omega arith) law

-- the greater order
pub record Greater (n nb na : ℕ) : Type 0 where
  pub left : nb ≤ n
  pub right : na ≤ n
  pub high : n ≤ 12

pub greater_order : (b a : List Fraction) → length b ≤ COEFFICIENTS → length a ≤ COEFFICIENTS →
    Greater (max (order b) (order a)) (order b) (order a)
greater_order b a high_b high_a =
    record { left = le-max_left _ _; right = le-max_right _ _; high = max-le (omega arith) (omega arith) }

pub df2_ascends : (b a : List Fraction) (n : ℕ) → Greater n (order b) (order a) →
    Ascends block_base (single 1 n) 0 3000000
    ((entry N 0 0 one_fraction ∷ across M 0 0 (map minus (drop 1 a))) ++ delays K 0 0 n
    ++ (entry L 0 0 (coefficient b 0) ∷ across R 0 0 (drop 1 b)))
df2_ascends b a n g =
    let s = single 1 n in
    let bs = drop 1 b in
    let fed = map minus (drop 1 a) in
    let nb : length bs ≡ order b = order_is b in
    let na : length fed ≡ order a = against_is a in
    let l : order b ≤ n = g.left in
    let r : order a ≤ n = g.right in
    let h : n ≤ 12 = g.high in
    let first = entry N 0 0 one_fraction ∷ across M 0 0 fed in
    let second = delays K 0 0 n in
    ascends_append block_base s 0 (1000000 + 1000 * (0 + n)) 3000000 (first ++ second)
    (entry L 0 0 (coefficient b 0) ∷ across R 0 0 bs)
    (ascends_append block_base s 0 (1000000 + 1000 * 0) (1000000 + 1000 * (0 + n)) first second
    (led_ascends s 0 (1000000 + 1000 * 0) N M one_fraction fed (λ i j c. tt) (λ i j c. tt) (omega arith) (omega arith)
    (omega arith) (omega arith) (omega arith) (omega arith) (omega arith))
    (delays_ascend s K 0 0 n (λ i j c. tt) (omega arith) (omega arith) (omega arith) (omega arith) (omega arith)
    (omega arith) (omega arith)))
    (led_ascends s (1000000 + 1000 * (0 + n)) 3000000 L R (coefficient b 0) bs (λ i j c. tt) (λ i j c. tt)
    (omega arith) (omega arith) (omega arith) (omega arith) (omega arith) (omega arith) (omega arith))

df2_count : (b a : List Fraction) → length b ≤ COEFFICIENTS → length a ≤ COEFFICIENTS →
    length (df2_entries b a) ≤ EQUATION_TERMS
df2_count b a high_b high_a =
    let n : ℕ = max (order b) (order a) in
    let g = greater_order b a high_b high_a in
    let few : n ≤ 12 = g.high in
    let first = entry N 0 0 one_fraction ∷ across M 0 0 (map minus (drop 1 a)) in
    let second = delays K 0 0 n in
    let third = entry L 0 0 (coefficient b 0) ∷ across R 0 0 (drop 1 b) in
    let one : length first ≡ order a + 1 = omega (arith, across_count M 0 0 (map minus (drop 1 a)), against_is a) in
    let three : length third ≡ order b + 1 = omega (arith, across_count R 0 0 (drop 1 b), order_is b) in
    omega (
      arith,
      length-append (first ++ second) third,
      length-append first second,
      one,
      three,
      few,
      delays_count K 0 0 n,
    )

pub df2_never_refused : (b a : List Fraction) → 1 ≤ length b → length b ≤ COEFFICIENTS → 1 ≤ length a →
    length a ≤ COEFFICIENTS → WhatFitsHasNoFault → NeverRefused (df2_form b a)
df2_never_refused b a low_b high_b low_a high_a law =
    let g = greater_order b a high_b high_a in
    let h = g.high in
    single_never 1 (max (order b) (order a)) (df2_entries b a) (df2_ascends b a (max (order b) (order a)) g)
    (df2_count b a high_b high_a) (omega arith) law

-- one state of the transposed form
state_ascends : (b a : List Fraction) (n i : ℕ) → n ≤ 12 → i < n →
    Ascends block_base (single 1 n) (1000000 + 1000 * i) (1000000 + 1000 * (i + 1)) (df2t_row b a n i)
state_ascends b a n i high h = by_test (nat_lt (i + 1) n) refl
  where
    rest : Ascends block_base (single 1 n) (1000050 + 1000 * i) (1000000 + 1000 * (i + 1))
        (entry Q i 0 (coefficient b (i + 1)) ∷ entry K i 0 (minus (coefficient a (i + 1))) ∷ [])
    rest = (
      omega arith,
      record { row = h; column = omega arith; unit_lower = tt },
      (omega arith, record { row = h; column = omega arith; unit_lower = tt }, omega arith),
    )

    by_test : (t : Bool) → nat_lt (i + 1) n ≡ t →
        Ascends block_base (single 1 n) (1000000 + 1000 * i) (1000000 + 1000 * (i + 1))
        (cond t (entry P i (i + 1) one_fraction ∷ []) []
        ++ entry Q i 0 (coefficient b (i + 1)) ∷ entry K i 0 (minus (coefficient a (i + 1))) ∷ [])
    by_test true e =
        let below : i + 1 < n = ltb-true (i + 1) n e in
        ascends_append block_base (single 1 n) (1000000 + 1000 * i) (1000050 + 1000 * i) (1000000 + 1000 * (i + 1))
        (entry P i (i + 1) one_fraction ∷ [])
        (entry Q i 0 (coefficient b (i + 1)) ∷ entry K i 0 (minus (coefficient a (i + 1))) ∷ [])
        (one_ascends block_base (single 1 n) (1000000 + 1000 * i) (1000050 + 1000 * i) P i (i + 1) one_fraction
        (omega arith) (omega arith) h below tt)
        rest
    by_test false e = ascends_lower block_base (single 1 n) (1000000 + 1000 * i) (1000050 + 1000 * i)
        (1000000 + 1000 * (i + 1))
        (entry Q i 0 (coefficient b (i + 1)) ∷ entry K i 0 (minus (coefficient a (i + 1))) ∷ []) (omega arith) rest

first_ascends : (c : Fraction) (n : ℕ) → Ascends block_base (single 1 n) 0 1000000 (entry N 0 0 c ∷ first_state n)
first_ascends c n = by_test (nat_lt 0 n) refl
  where
    by_test : (t : Bool) → nat_lt 0 n ≡ t →
        Ascends block_base (single 1 n) 0 1000000 (entry N 0 0 c ∷ cond t (entry M 0 0 one_fraction ∷ []) [])
    by_test true e =
        let some : 0 < n = ltb-true 0 n e in (
          omega arith,
          record { row = omega arith; column = omega arith; unit_lower = tt },
          (omega arith, record { row = omega arith; column = some; unit_lower = tt }, omega arith),
        )
    by_test false e = (omega arith, record { row = omega arith; column = omega arith; unit_lower = tt }, omega arith)

pub df2t_ascends : (b a : List Fraction) (n : ℕ) → n ≤ 12 →
    Ascends block_base (single 1 n) 0 3000000
    ((entry N 0 0 (coefficient b 0) ∷ first_state n) ++ joined n (df2t_row b a n) ++ entry L 0 0 one_fraction ∷ [])
df2t_ascends b a n high =
    let s = single 1 n in
    let first = entry N 0 0 (coefficient b 0) ∷ first_state n in
    let second = joined n (df2t_row b a n) in
    ascends_append block_base s 0 (1000000 + 1000 * n) 3000000 (first ++ second) (entry L 0 0 one_fraction ∷ [])
    (ascends_append block_base s 0 1000000 (1000000 + 1000 * n) first second (first_ascends (coefficient b 0) n)
    (rows_ascend block_base s 1000000 n (df2t_row b a n) (λ i h. state_ascends b a n i high h)))
    (one_ascends block_base s (1000000 + 1000 * n) 3000000 L 0 0 one_fraction (omega arith) (omega arith) (omega arith)
    (omega arith) tt)

df2t_row_count : (b a : List Fraction) (n i : ℕ) → length (df2t_row b a n i) ≤ 3
df2t_row_count b a n i = by_test (nat_lt (i + 1) n)
  where
    by_test : (t : Bool) → length
        (cond t (entry P i (i + 1) one_fraction ∷ []) []
        ++ entry Q i 0 (coefficient b (i + 1)) ∷ entry K i 0 (minus (coefficient a (i + 1))) ∷ []) ≤ 3
    by_test true = omega arith
    by_test false = omega arith

first_count : (n : ℕ) → length (first_state n) ≤ 1
first_count n = by_test (nat_lt 0 n)
  where
    by_test : (t : Bool) → length (cond t (entry M 0 0 one_fraction ∷ []) []) ≤ 1
    by_test true = omega arith
    by_test false = omega arith

df2t_count : (b a : List Fraction) → length b ≤ COEFFICIENTS → length a ≤ COEFFICIENTS →
    length (df2t_entries b a) ≤ EQUATION_TERMS
df2t_count b a high_b high_a =
    let n : ℕ = max (order b) (order a) in
    let g = greater_order b a high_b high_a in
    let few : n ≤ 12 = g.high in
    let first = entry N 0 0 (coefficient b 0) ∷ first_state n in
    let second = joined n (df2t_row b a n) in
    let one : length first ≤ 2 = omega (arith, first_count n) in
    omega (
      arith,
      length-append (first ++ second) (entry L 0 0 one_fraction ∷ []),
      length-append first second,
      one,
      few,
      joined_count n 3 (df2t_row b a n) (λ i h. df2t_row_count b a n i),
    )

pub df2t_never_refused : (b a : List Fraction) → 1 ≤ length b → length b ≤ COEFFICIENTS → 1 ≤ length a →
    length a ≤ COEFFICIENTS → WhatFitsHasNoFault → NeverRefused (df2t_form b a)
df2t_never_refused b a low_b high_b low_a high_a law =
    let g = greater_order b a high_b high_a in
    let h = g.high in
    single_never 1 (max (order b) (order a)) (df2t_entries b a) (df2t_ascends b a (max (order b) (order a)) h)
    (df2t_count b a high_b high_a) (omega arith) law
