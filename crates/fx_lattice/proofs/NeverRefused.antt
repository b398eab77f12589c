-- The entries of a lattice ascend, so none is refused.
use Rattle.std.proofs.Common.{◌≡◌, ℕ, zero, suc, ◌+◌, ◌-◌, ◌*◌, ◌<◌, ◌≤◌, List, [], ◌∷◌, ◌++◌, length, arith, subst}
use Rattle.std.proofs.lemmas.List.{length-append}
use Rattle.fx_math.specs.Sums.{joined}
use Rattle.fx_nums.specs.Fraction.{Fraction, minus, one_fraction}
use Rattle.fx_eqs.specs.declared.limits.TheConstants.{EQUATION_TERMS, REFLECTIONS}
use Rattle.fx_sif.specs.Entries.{across, coefficient, entry}
use Rattle.fx_sif.specs.Fits.{ImplicitFits}
use Rattle.fx_sif.specs.Laws.{NeverRefused, WhatFitsHasNoFault}
use Rattle.fx_sif.specs.declared.parts.Block.TheVariants.{J, K, L, M, N, S}
use Rattle.fx_sif.specs.declared.parts.Sizes.{Sizes}
use Rattle.fx_sif.proofs.Ascending.{Ascends, CountsFit, across_ascends, ascends_append, ascends_higher}
use Rattle.fx_sif.proofs.Ascending.{ascends_lower, block_base, fits_from, never_from, number, one_ascends}
use Rattle.fx_sif.proofs.Ascending.{rows_ascend}
use Rattle.fx_sif.proofs.EntryCounts.{across_count, joined_count}
use Rattle.fx_lattice.specs.Structure.{backward_row, forward_row, from_above, ladder_entries, ladder_form}
use Rattle.fx_lattice.specs.Structure.{output_row, state_row}

-- the counts of a lattice
abbrev pub sizes_of : ℕ → Sizes
sizes_of n = record { t = 2 * n; x = n; u = 1; y = 1 }

counts_fit : (n : ℕ) → n ≤ 11 → CountsFit (sizes_of n)
counts_fit n h = record {
  rows_low = omega arith;
  rows_high = omega arith;
  inputs_low = omega arith;
  inputs_high = omega arith;
  outputs_low = omega arith;
  outputs_high = omega arith;
}

-- ---- the rows

above_ascends : (n r : ℕ) → n ≤ 11 → r < n →
    Ascends block_base (sizes_of n) (1000 * r) (1000 * r + 100) (from_above r ∷ [])
above_ascends n zero few h =
    one_ascends block_base (sizes_of n) (1000 * 0) (1000 * 0 + 100) N 0 0 one_fraction (omega arith)
    (omega arith) (omega arith) (omega arith) tt
above_ascends n (suc r) few h =
    one_ascends block_base (sizes_of n) (1000 * suc r) (1000 * suc r + 100) J (suc r) r (minus one_fraction)
    (omega arith) (omega arith) (omega arith) (omega arith)
    (record { diagonal = λ same. absurd (omega arith); above = λ below. absurd (omega arith) })

forward_ascends : (k : List Fraction) (r : ℕ) → length k ≤ 11 → r < length k →
    Ascends block_base (sizes_of (length k)) (0 + 1000 * r) (0 + 1000 * (r + 1)) (forward_row k r)
forward_ascends k r few h =
    let n = length k in
    let s = sizes_of n in
    let i = n - 1 - r in
    ascends_append block_base s (0 + 1000 * r) (1000 * r + 100) (0 + 1000 * (r + 1)) (from_above r ∷ [])
    (entry M r i (minus (coefficient k i)) ∷ [])
    (ascends_lower block_base s (0 + 1000 * r) (1000 * r) (1000 * r + 100) (from_above r ∷ []) (omega arith)
    (above_ascends n r few h))
    (one_ascends block_base s (1000 * r + 100) (0 + 1000 * (r + 1)) M r i (minus (coefficient k i))
    (omega arith) (omega arith) (omega arith) (omega arith) tt)

backward_ascends : (k : List Fraction) (i : ℕ) → length k ≤ 11 → i < length k →
    Ascends block_base (sizes_of (length k)) (1000 * length k + 1000 * i) (1000 * length k + 1000 * (i + 1))
    (backward_row k i)
backward_ascends k i few h =
    let n = length k in
    let s = sizes_of n in
    let first = entry J (n + i) (n - 1 - i) (minus (coefficient k i)) in
    ascends_append block_base s (1000 * n + 1000 * i) (1000 * n + 1000 * i + 100) (1000 * n + 1000 * (i + 1))
    (first ∷ []) (entry M (n + i) i one_fraction ∷ [])
    (one_ascends block_base s (1000 * n + 1000 * i) (1000 * n + 1000 * i + 100) J (n + i) (n - 1 - i)
    (minus (coefficient k i)) (omega arith) (omega arith) (omega arith) (omega arith)
    (record { diagonal = λ same. absurd (omega arith); above = λ below. absurd (omega arith) }))
    (one_ascends block_base s (1000 * n + 1000 * i + 100) (1000 * n + 1000 * (i + 1)) M (n + i) i one_fraction
    (omega arith) (omega arith) (omega arith) (omega arith) tt)

state_ascends : (n i : ℕ) → n ≤ 11 → i < n →
    Ascends block_base (sizes_of n) (1000000 + 1000 * i) (1000000 + 1000 * (i + 1)) (state_row n i)
state_ascends n i few h =
    one_ascends block_base (sizes_of n) (1000000 + 1000 * i) (1000000 + 1000 * (i + 1)) K i (n - 1 + i)
    one_fraction (omega arith) (omega arith) (omega arith) (omega arith) tt

output_ascends : (n : ℕ) (v : List Fraction) → n ≤ 11 → length v ≡ n + 1 →
    Ascends block_base (sizes_of n) 2000000 3000000 (output_row n v)
output_ascends zero v few taps =
    ascends_lower block_base (sizes_of 0) 2000000 (number block_base S 0 0) 3000000 (across S 0 0 v) (omega arith)
    (across_ascends block_base (sizes_of 0) 3000000 S 0 v 0 (λ j c. tt) (omega arith) (omega arith) (omega arith))
output_ascends (suc m) v few taps =
    ascends_lower block_base (sizes_of (suc m)) 2000000 (number block_base L 0 m) 3000000 (across L 0 m v) (omega arith)
    (across_ascends block_base (sizes_of (suc m)) 3000000 L 0 v m (λ j c. tt) (omega arith) (omega arith) (omega arith))

-- ---- the form

ladder_ascends : (k v : List Fraction) → length k ≤ 11 → length v ≡ length k + 1 →
    Ascends block_base (sizes_of (length k)) 0 3000000 (ladder_entries k v)
ladder_ascends k v few taps =
    let n = length k in
    let s = sizes_of n in
    let forward = joined n (forward_row k) in
    let backward = joined n (backward_row k) in
    let states = joined n (state_row n) in
    ascends_append block_base s 0 2000000 3000000 (forward ++ backward ++ states) (output_row n v)
    (ascends_append block_base s 0 1000000 2000000 (forward ++ backward) states
    (ascends_append block_base s 0 (1000 * n) 1000000 forward backward
    (subst (λ m. Ascends block_base s 0 m forward) (let e : 0 + 1000 * n ≡ 1000 * n = omega arith in e)
    (rows_ascend block_base s 0 n (forward_row k) (λ r h. forward_ascends k r few h)))
    (ascends_higher block_base s (1000 * n) (1000 * n + 1000 * n) 1000000 backward (omega arith)
    (rows_ascend block_base s (1000 * n) n (backward_row k) (λ i h. backward_ascends k i few h))))
    (ascends_higher block_base s 1000000 (1000000 + 1000 * n) 2000000 states (omega arith)
    (rows_ascend block_base s 1000000 n (state_row n) (λ i h. state_ascends n i few h))))
    (output_ascends n v few taps)

output_count : (n : ℕ) (v : List Fraction) → length (output_row n v) ≡ length v
output_count zero v = across_count S 0 0 v
output_count (suc m) v = across_count L 0 m v

ladder_count : (k v : List Fraction) → length k ≤ 11 → length v ≡ length k + 1 →
    length (ladder_entries k v) ≤ EQUATION_TERMS
ladder_count k v few taps =
    let n = length k in
    let forward = joined n (forward_row k) in
    let backward = joined n (backward_row k) in
    let states = joined n (state_row n) in
    omega (
      arith,
      length-append (forward ++ backward ++ states) (output_row n v),
      length-append (forward ++ backward) states,
      length-append forward backward,
      joined_count n 2 (forward_row k) (λ i h. omega arith),
      joined_count n 2 (backward_row k) (λ i h. omega arith),
      joined_count n 1 (state_row n) (λ i h. omega arith),
      output_count n v,
    )

pub ladder_fits : (k v : List Fraction) → length k ≤ 11 → length v ≡ length k + 1 → ImplicitFits (ladder_form k v)
ladder_fits k v few taps =
    fits_from block_base (ladder_form k v) 3000000 (counts_fit (length k) few) (ladder_ascends k v few taps)

pub ladder_never_refused : (k v : List Fraction) → length k ≤ REFLECTIONS → length v ≡ length k + 1 →
    WhatFitsHasNoFault → NeverRefused (ladder_form k v)
ladder_never_refused k v few taps law =
    never_from block_base (ladder_form k v) 3000000 (counts_fit (length k) few) (ladder_count k v few taps)
    (ladder_ascends k v few taps) law
