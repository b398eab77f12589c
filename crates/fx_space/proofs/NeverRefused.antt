-- The entries of the four blocks ascend, block after block, so none is refused.
use Rattle.std.proofs.Common.{ℕ, suc, ◌+◌, ◌*◌, ◌≤◌, List, ◌++◌, length, length-append, length-take, drop, arith}
use Rattle.std.proofs.Math.Nat.{mul-le-mul}
use Rattle.fx_math.specs.Sums.{joined}
use Rattle.fx_nums.specs.Fraction.{Fraction}
use Rattle.fx_eqs.specs.TextbookRuns.{matrix_row}
use Rattle.fx_eqs.specs.declared.limits.TheConstants.{EQUATION_TERMS}
use Rattle.fx_sif.specs.Blocks.{height, width}
use Rattle.fx_sif.specs.Entries.{across}
use Rattle.fx_sif.specs.Fits.{ImplicitFits, KeepsUnitLower}
use Rattle.fx_sif.specs.Laws.{WhatFitsHasNoFault, NeverRefused}
use Rattle.fx_sif.specs.declared.parts.Block.{Block}
use Rattle.fx_sif.specs.declared.parts.Block.TheVariants.{P, Q, R, S}
use Rattle.fx_sif.specs.declared.parts.Entry.{Entry}
use Rattle.fx_sif.specs.declared.parts.Sizes.{Sizes}
use Rattle.fx_sif.proofs.Ascending.{Ascends, CountsFit, number, fits_from, never_from, ascends_append}
use Rattle.fx_sif.proofs.Ascending.{ascends_higher, ascends_lower, across_ascends, joined_ascend}
use Rattle.fx_sif.proofs.EntryCounts.{across_count, joined_count}
use Rattle.fx_space.specs.Matrices.{SpaceFits, matrix_a, matrix_b, matrix_c, matrix_d}
use Rattle.fx_space.specs.Space.{block_of, space_entries, space_form}

-- where the entries of a block begin
abbrev base : Block → ℕ
base P = 0
base Q = 100000
base R = 200000
base S = 300000
base _ = 400000

pub row_short : (columns i : ℕ) (cs : List Fraction) → length (matrix_row columns cs i) ≤ columns
row_short columns i cs = omega (arith, length-take columns (drop (i * columns) cs))

block_ascends : (s : Sizes) (b : Block) (rows columns : ℕ) (cs : List Fraction) →
    ((i j : ℕ) (c : Fraction) → KeepsUnitLower b i j c) → rows ≤ height s b → columns ≤ width s b → columns ≤ 999 →
    Ascends base s (base b) (base b + 1000 * rows) (block_of b rows columns cs)
block_ascends s b rows columns cs free high wide narrow =
    let bound : ℕ → ℕ = λ i. base b + 1000 * i in
    let row : ℕ → List Entry = λ i. across b i 0 (matrix_row columns cs i) in
    ascends_lower base s (base b) (bound 0) (bound rows) (joined rows row) (omega arith)
    (joined_ascend base s bound rows row (λ i h.
    let short = row_short columns i cs in
    ascends_lower base s (bound i) (number base b i 0) (bound (suc i)) (row i) (omega arith)
    (across_ascends base s (bound (suc i)) b i (matrix_row columns cs i) 0 (λ j c. free i j c) (omega arith)
    (omega (arith, short)) (omega (arith, short)))))

space_ascends : (s : Sizes) (abcd : List Fraction) → SpaceFits s abcd → Ascends base s 0 400000 (space_entries s abcd)
space_ascends s abcd fits =
    let n : ℕ = s.x in
    let m : ℕ = s.u in
    let p : ℕ = s.y in
    let of_a = block_of P n n (matrix_a s abcd) in
    let of_b = block_of Q n m (matrix_b s abcd) in
    let of_c = block_of R p n (matrix_c s abcd) in
    let of_d = block_of S p m (matrix_d s abcd) in
    let few : n ≤ 16 = fits.states in
    let inputs : m ≤ 4 = fits.inputs_high in
    let outputs : p ≤ 4 = fits.outputs_high in
    let a = block_ascends s P n n (matrix_a s abcd) (λ i j c. tt) (omega arith) (omega arith) (omega arith) in
    let b = block_ascends s Q n m (matrix_b s abcd) (λ i j c. tt) (omega arith) (omega arith) (omega arith) in
    let c = block_ascends s R p n (matrix_c s abcd) (λ i j c. tt) (omega arith) (omega arith) (omega arith) in
    let d = block_ascends s S p m (matrix_d s abcd) (λ i j c. tt) (omega arith) (omega arith) (omega arith) in
    ascends_append base s 0 (200000 + 1000 * p) 400000 (of_a ++ of_b ++ of_c) of_d
    (ascends_append base s 0 (100000 + 1000 * n) (200000 + 1000 * p) (of_a ++ of_b) of_c
    (ascends_append base s 0 (0 + 1000 * n) (100000 + 1000 * n) of_a of_b a
    (ascends_lower base s (0 + 1000 * n) 100000 (100000 + 1000 * n) of_b (omega arith) b))
    (ascends_lower base s (100000 + 1000 * n) 200000 (200000 + 1000 * p) of_c (omega arith) c))
    (ascends_higher base s (200000 + 1000 * p) (300000 + 1000 * p) 400000 of_d (omega arith)
    (ascends_lower base s (200000 + 1000 * p) 300000 (300000 + 1000 * p) of_d (omega arith) d))

counts_fit : (s : Sizes) (abcd : List Fraction) → SpaceFits s abcd → CountsFit s
counts_fit s abcd fits =
    let none = fits.variables in
    let few = fits.states in
    let some = fits.outputs_low in
    let outputs = fits.outputs_high in
    record {
      rows_low = omega (arith, some);
      rows_high = omega (arith, none, few, outputs);
      inputs_low = fits.inputs_low;
      inputs_high = fits.inputs_high;
      outputs_low = some;
      outputs_high = outputs;
    }

pub space_fits : (s : Sizes) (abcd : List Fraction) → SpaceFits s abcd → ImplicitFits (space_form s abcd)
space_fits s abcd fits = fits_from base (space_form s abcd) 400000 (counts_fit s abcd fits) (space_ascends s abcd fits)

block_count : (b : Block) (rows columns : ℕ) (cs : List Fraction) → length (block_of b rows columns cs) ≤ rows * columns
block_count b rows columns cs =
    joined_count rows columns (λ i. across b i 0 (matrix_row columns cs i))
    (λ i h. omega (arith, across_count b i 0 (matrix_row columns cs i), row_short columns i cs))

space_count : (s : Sizes) (abcd : List Fraction) → SpaceFits s abcd → length (space_entries s abcd) ≤ EQUATION_TERMS
space_count s abcd fits =
    let n : ℕ = s.x in
    let m : ℕ = s.u in
    let p : ℕ = s.y in
    let of_a = block_of P n n (matrix_a s abcd) in
    let of_b = block_of Q n m (matrix_b s abcd) in
    let of_c = block_of R p n (matrix_c s abcd) in
    let of_d = block_of S p m (matrix_d s abcd) in
    let few : n ≤ 16 = fits.states in
    let inputs : m ≤ 4 = fits.inputs_high in
    let outputs : p ≤ 4 = fits.outputs_high in
    let a : n * n ≤ 16 * 16 = mul-le-mul few few in
    let b : n * m ≤ 16 * 4 = mul-le-mul few inputs in
    let c : p * n ≤ 4 * 16 = mul-le-mul outputs few in
    let d : p * m ≤ 4 * 4 = mul-le-mul outputs inputs in
    omega (
      arith,
      length-append (of_a ++ of_b ++ of_c) of_d,
      length-append (of_a ++ of_b) of_c,
      length-append of_a of_b,
      block_count P n n (matrix_a s abcd),
      block_count Q n m (matrix_b s abcd),
      block_count R p n (matrix_c s abcd),
      block_count S p m (matrix_d s abcd),
      a,
      b,
      c,
      d,
    )

pub space_never_refused : (s : Sizes) (abcd : List Fraction) → SpaceFits s abcd → WhatFitsHasNoFault →
    NeverRefused (space_form s abcd)
space_never_refused s abcd fits law =
    never_from base (space_form s abcd) 400000 (counts_fit s abcd fits) (space_count s abcd fits)
    (space_ascends s abcd fits) law
