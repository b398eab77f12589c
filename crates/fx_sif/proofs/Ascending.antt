-- Entries that stand in an ascending order: each has a greater number than those before it. So no two are in one place.
use Rattle.std.proofs.Common.{◌≡◌, ℕ, zero, suc, ◌+◌, ◌*◌, ◌<◌, ◌≤◌, Bool, true, false, ◌&&◌, eqb, List, []}
use Rattle.std.proofs.Common.{◌∷◌, ◌++◌, length, All, refl, arith, ap, subst}
use Rattle.std.specs.List.{IsDistinct}
use Rattle.std.proofs.lemmas.Bool.{and_parts, eqb-true}
use Rattle.std.proofs.lemmas.List.Elements.{All-nil, All-cons}
use Rattle.fx_math.specs.Sums.{joined}
use Rattle.fx_nums.specs.Fraction.{Fraction, one_fraction}
use Rattle.fx_eqs.proofs.Distinct.{distinct_cons, distinct_nil}
use Rattle.fx_sif.specs.Blocks.{height, width, same_block, same_place}
use Rattle.fx_sif.specs.Entries.{entry, across, delay_row, delays}
use Rattle.fx_sif.specs.Fits.{EntryFits, ImplicitFits, KeepsUnitLower}
use Rattle.fx_sif.specs.Implicit.{Implicit, rows}
use Rattle.fx_sif.specs.Laws.{WhatFitsHasNoFault, NeverRefused}
use Rattle.fx_sif.specs.declared.limits.TheConstants.{FORM_ROWS}
use Rattle.fx_eqs.specs.declared.limits.TheConstants.{EQUATION_TERMS, PORTS}
use Rattle.fx_sif.specs.declared.parts.Block.{Block}
use Rattle.fx_sif.specs.declared.parts.Block.TheVariants.{J, K, L, M, N, P, Q, R, S}
use Rattle.fx_sif.specs.declared.parts.Entry.{Entry}
use Rattle.fx_sif.specs.declared.parts.Sizes.{Sizes}
use Rattle.fx_sif.proofs.Matches.{nine}

-- ---- blocks

block_is : (a b : Block) → same_block a b ≡ true → a ≡ b
block_is J = nine (λ b. same_block J b ≡ true → J ≡ b) (λ h. refl) (λ h. cc) (λ h. cc) (λ h. cc) (λ h. cc) (λ h. cc)
    (λ h. cc) (λ h. cc) (λ h. cc)
block_is K = nine (λ b. same_block K b ≡ true → K ≡ b) (λ h. cc) (λ h. refl) (λ h. cc) (λ h. cc) (λ h. cc) (λ h. cc)
    (λ h. cc) (λ h. cc) (λ h. cc)
block_is L = nine (λ b. same_block L b ≡ true → L ≡ b) (λ h. cc) (λ h. cc) (λ h. refl) (λ h. cc) (λ h. cc) (λ h. cc)
    (λ h. cc) (λ h. cc) (λ h. cc)
block_is M = nine (λ b. same_block M b ≡ true → M ≡ b) (λ h. cc) (λ h. cc) (λ h. cc) (λ h. refl) (λ h. cc) (λ h. cc)
    (λ h. cc) (λ h. cc) (λ h. cc)
block_is N = nine (λ b. same_block N b ≡ true → N ≡ b) (λ h. cc) (λ h. cc) (λ h. cc) (λ h. cc) (λ h. refl) (λ h. cc)
    (λ h. cc) (λ h. cc) (λ h. cc)
block_is P = nine (λ b. same_block P b ≡ true → P ≡ b) (λ h. cc) (λ h. cc) (λ h. cc) (λ h. cc) (λ h. cc) (λ h. refl)
    (λ h. cc) (λ h. cc) (λ h. cc)
block_is Q = nine (λ b. same_block Q b ≡ true → Q ≡ b) (λ h. cc) (λ h. cc) (λ h. cc) (λ h. cc) (λ h. cc) (λ h. cc)
    (λ h. refl) (λ h. cc) (λ h. cc)
block_is R = nine (λ b. same_block R b ≡ true → R ≡ b) (λ h. cc) (λ h. cc) (λ h. cc) (λ h. cc) (λ h. cc) (λ h. cc)
    (λ h. cc) (λ h. refl) (λ h. cc)
block_is S = nine (λ b. same_block S b ≡ true → S ≡ b) (λ h. cc) (λ h. cc) (λ h. cc) (λ h. cc) (λ h. cc) (λ h. cc)
    (λ h. cc) (λ h. cc) (λ h. refl)

-- ---- counts within the limits

pub record CountsFit (s : Sizes) : Type 0 where
  pub rows_low : 1 ≤ rows s
  pub rows_high : rows s ≤ FORM_ROWS
  pub inputs_low : 1 ≤ s.u
  pub inputs_high : s.u ≤ PORTS
  pub outputs_low : 1 ≤ s.y
  pub outputs_high : s.y ≤ PORTS

-- ---- any numbering in which a block begins at its base, a row has 1000 numbers and a column one

module _ (base : Block → ℕ) where
  abbrev pub number : Block → ℕ → ℕ → ℕ
  number block i j = base block + 1000 * i + j

  abbrev pub number_of : Entry → ℕ
  number_of e = number e.block e.i e.j

  -- each entry fits, and its number is at least what comes behind the one before; all are below the end
  abbrev pub Ascends : Sizes → ℕ → ℕ → List Entry → Type 0
  Ascends s lo hi [] = lo ≤ hi
  Ascends s lo hi (e ∷ es) = (lo ≤ number_of e) × EntryFits s e × Ascends s (number_of e + 1) hi es

  pub ascends_within : (s : Sizes) (lo hi : ℕ) (es : List Entry) → Ascends s lo hi es → lo + length es ≤ hi
  ascends_within s lo hi [] h = omega (arith, h)
  ascends_within s lo hi (e ∷ es) h = let below : lo ≤ number_of e = h.0 in
      let rest = ascends_within s (number_of e + 1) hi es h.2 in omega arith

  pub ascends_lower : (s : Sizes) (lo mid hi : ℕ) (es : List Entry) → lo ≤ mid → Ascends s mid hi es →
      Ascends s lo hi es
  ascends_lower s lo mid hi [] h r = omega (arith, h, r)
  ascends_lower s lo mid hi (e ∷ es) h r = ((let below : mid ≤ number_of e = r.0 in omega arith), r.1, r.2)

  pub ascends_higher : (s : Sizes) (lo mid hi : ℕ) (es : List Entry) → mid ≤ hi → Ascends s lo mid es →
      Ascends s lo hi es
  ascends_higher s lo mid hi [] h r = omega (arith, h, r)
  ascends_higher s lo mid hi (e ∷ es) h r = (r.0, r.1, ascends_higher s (number_of e + 1) mid hi es h r.2)

  pub ascends_append : (s : Sizes) (lo mid hi : ℕ) (es gs : List Entry) → Ascends s lo mid es → Ascends s mid hi gs →
      Ascends s lo hi (es ++ gs)
  ascends_append s lo mid hi [] gs h k = ascends_lower s lo mid hi gs h k
  ascends_append s lo mid hi (e ∷ es) gs h k = (h.0, h.1, ascends_append s (number_of e + 1) mid hi es gs h.2 k)

  pub all_fit : (s : Sizes) (lo hi : ℕ) (es : List Entry) → Ascends s lo hi es → All (EntryFits s) es
  all_fit s lo hi [] h = All-nil (EntryFits s)
  all_fit s lo hi (e ∷ es) h = All-cons (EntryFits s) e es h.1 (all_fit s (number_of e + 1) hi es h.2)

  -- ---- no two in one place

  pub same_number : (e g : Entry) → same_place e g ≡ true → number_of g ≡ number_of e
  same_number e g h =
      let outer = and_parts (same_block g.block e.block) (eqb g.i e.i && eqb g.j e.j) h in
      let inner = and_parts (eqb g.i e.i) (eqb g.j e.j) outer.1 in
      let block : base g.block ≡ base e.block = ap base (block_is g.block e.block outer.0) in
      let row : g.i ≡ e.i = eqb-true g.i e.i inner.0 in
      let column : g.j ≡ e.j = eqb-true g.j e.j inner.1 in
      omega (arith, block, row, column)

  pub other_number : (e g : Entry) → number_of e < number_of g → same_place g e ≡ false
  other_number e g h = by_test (same_place g e) refl
    where
      by_test : (b : Bool) → same_place g e ≡ b → b ≡ false
      by_test true t = let same : number_of e ≡ number_of g = same_number g e t in absurd (omega arith)
      by_test false t = refl

  pub apart : (s : Sizes) (e : Entry) (hi : ℕ) (es : List Entry) (lo : ℕ) → number_of e < lo → Ascends s lo hi es →
      All (λ g. same_place g e ≡ false) es
  apart s e hi [] lo h r = All-nil (λ g. same_place g e ≡ false)
  apart s e hi (g ∷ es) lo h r =
      let low : lo ≤ number_of g = r.0 in
      let less : number_of e < number_of g = omega arith in
      All-cons (λ g. same_place g e ≡ false) g es (other_number e g less)
      (apart s e hi es (number_of g + 1) (omega arith) r.2)

  pub no_two : (s : Sizes) (lo hi : ℕ) (es : List Entry) → Ascends s lo hi es →
      IsDistinct (λ (e g : Entry). same_place g e) es
  no_two s lo hi [] h = distinct_nil (λ (e g : Entry). same_place g e)
  no_two s lo hi (e ∷ es) h =
      distinct_cons (λ (e g : Entry). same_place g e) e es (apart s e hi es (number_of e + 1) (omega arith) h.2)
      (no_two s (number_of e + 1) hi es h.2)

  -- ---- forms whose entries ascend

  pub fits_from : (f : Implicit) (hi : ℕ) → CountsFit f.sizes → Ascends f.sizes 0 hi f.entries → ImplicitFits f
  fits_from f hi counts h = record {
    rows_low = counts.rows_low;
    rows_high = counts.rows_high;
    inputs_low = counts.inputs_low;
    inputs_high = counts.inputs_high;
    outputs_low = counts.outputs_low;
    outputs_high = counts.outputs_high;
    entries = all_fit f.sizes 0 hi f.entries h;
    once = no_two f.sizes 0 hi f.entries h;
  }

  pub never_from : (f : Implicit) (hi : ℕ) → CountsFit f.sizes → length f.entries ≤ EQUATION_TERMS →
      Ascends f.sizes 0 hi f.entries → WhatFitsHasNoFault → NeverRefused f
  never_from f hi counts few h law = record { few = few; no_fault = law f (fits_from f hi counts h) }

  -- ---- the parts

  pub one_ascends : (s : Sizes) (lo hi : ℕ) (b : Block) (i j : ℕ) (c : Fraction) → lo ≤ number b i j →
      number b i j < hi → i < height s b → j < width s b → KeepsUnitLower b i j c → Ascends s lo hi (entry b i j c ∷ [])
  one_ascends s lo hi b i j c low high row column lower =
      (low, record { row = row; column = column; unit_lower = lower }, omega arith)

  pub across_ascends : (s : Sizes) (hi : ℕ) (b : Block) (i : ℕ) (cs : List Fraction) (j : ℕ) →
      ((j : ℕ) (c : Fraction) → KeepsUnitLower b i j c) → i < height s b → j + length cs ≤ width s b →
      number b i (j + length cs) ≤ hi → Ascends s (number b i j) hi (across b i j cs)
  across_ascends s hi b i [] j free row column high = omega (arith, high)
  across_ascends s hi b i (c ∷ cs) j free row column high =
      let next = across_ascends s hi b i cs (j + 1) free row (omega arith) (omega arith) in (
        omega arith,
        record { row = row; column = omega arith; unit_lower = free j c },
        subst
            (λ n. Ascends s n hi (across b i (j + 1) cs))
            (let e : number b i (j + 1) ≡ number b i j + 1 = omega arith in e) next,
      )

  pub rows_ascend : (s : Sizes) (lo n : ℕ) (f : ℕ → List Entry) →
      ((i : ℕ) → i < n → Ascends s (lo + 1000 * i) (lo + 1000 * (i + 1)) (f i)) →
      Ascends s lo (lo + 1000 * n) (joined n f)
  rows_ascend s lo zero f each = omega arith
  rows_ascend s lo (suc n) f each =
      ascends_append s lo (lo + 1000 * n) (lo + 1000 * suc n) (joined n f) (f n)
      (rows_ascend s lo n f (λ i h. each i (omega arith)))
      (subst (λ m. Ascends s (lo + 1000 * n) (lo + 1000 * m) (f n)) (let e : n + 1 ≡ suc n = omega arith in e)
      (each n (omega arith)))

  -- parts that end where the next begin
  pub joined_ascend : (s : Sizes) (bound : ℕ → ℕ) (n : ℕ) (f : ℕ → List Entry) →
      ((i : ℕ) → i < n → Ascends s (bound i) (bound (suc i)) (f i)) → Ascends s (bound 0) (bound n) (joined n f)
  joined_ascend s bound zero f each = omega arith
  joined_ascend s bound (suc n) f each =
      ascends_append s (bound 0) (bound n) (bound (suc n)) (joined n f) (f n)
      (joined_ascend s bound n f (λ i h. each i (omega arith))) (each n (omega arith))

-- ---- intermediate variables, then states, then outputs, row after row

-- where the entries of a block begin in row 0
abbrev pub block_base : Block → ℕ
block_base J = 50
block_base N = 0
block_base M = 100
block_base P = 1000000
block_base Q = 1000100
block_base K = 1000200
block_base L = 2000000
block_base S = 2000100
block_base R = 2000200

-- states of a block that reads an input or a variable
pub delay_ascends : (s : Sizes) (b : Block) (column at i : ℕ) → ((i j : ℕ) (c : Fraction) → KeepsUnitLower b i j c) →
    1000000 ≤ block_base b → block_base b < 1000300 → at + i < height s b → at + i < s.x → column < width s b →
    column < 100 → s.x ≤ FORM_ROWS →
    Ascends block_base s (1000000 + 1000 * at + 1000 * i) (1000000 + 1000 * at + 1000 * (i + 1))
    (delay_row b column at i)
delay_ascends s b column at zero free low high here state inside near few =
    one_ascends block_base s (1000000 + 1000 * at + 1000 * 0)
    (1000000 + 1000 * at + 1000 * (0 + 1)) b at column one_fraction
    (omega arith) (omega arith) (omega arith) inside (free at column one_fraction)
delay_ascends s b column at (suc i) free low high here state inside near few =
    one_ascends block_base s (1000000 + 1000 * at + 1000 * suc i) (1000000 + 1000 * at + 1000 * (suc i + 1)) P
    (at + i + 1)
    (at + i) one_fraction (omega arith) (omega arith) (omega arith) (omega arith) tt

pub delays_ascend : (s : Sizes) (b : Block) (column at n : ℕ) → ((i j : ℕ) (c : Fraction) → KeepsUnitLower b i j c) →
    1000000 ≤ block_base b → block_base b < 1000300 → s.x ≤ height s b → at + n ≤ s.x → column < width s b →
    column < 100 →
    s.x ≤ FORM_ROWS → Ascends block_base s (1000000 + 1000 * at) (1000000 + 1000 * (at + n)) (delays b column at n)
delays_ascend s b column at n free low high states room inside near few =
    let end : 1000000 + 1000 * at + 1000 * n ≡ 1000000 + 1000 * (at + n) = omega arith in
    subst (λ m. Ascends block_base s (1000000 + 1000 * at) m (delays b column at n)) end
    (rows_ascend block_base s (1000000 + 1000 * at) n (delay_row b column at)
    (λ i h. delay_ascends s b column at i free low high (omega arith) (omega arith) inside near few))

-- an entry, and then coefficients across another block
pub led_ascends : (s : Sizes) (lo hi : ℕ) (a b : Block) (c : Fraction) (cs : List Fraction) →
    ((i j : ℕ) (c : Fraction) → KeepsUnitLower a i j c) → ((i j : ℕ) (c : Fraction) → KeepsUnitLower b i j c) →
    lo ≤ block_base a → block_base a + 1 ≤ block_base b → 0 < height s a → 0 < width s a → 0 < height s b →
    length cs ≤ width s b → block_base b + length cs ≤ hi →
    Ascends block_base s lo hi (entry a 0 0 c ∷ across b 0 0 cs)
led_ascends s lo hi a b c cs free_a free_b low next row_a column_a row_b columns_b high = (
  omega arith,
  record { row = row_a; column = column_a; unit_lower = free_a 0 0 c },
  ascends_lower block_base s (number block_base a 0 0 + 1) (number block_base b 0 0) hi (across b 0 0 cs) (omega arith)
      (across_ascends block_base s hi b 0 cs 0 (λ j c. free_b 0 j c) row_b (omega arith) (omega arith)),
)
