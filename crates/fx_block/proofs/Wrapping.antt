-- Where numbers without wrapping are bounded, they are the words.
use Rattle.std.proofs.Common.{◌≡◌, ℕ, zero, suc, ◌+◌, ◌*◌, ◌-◌, ◌^◌, ◌<◌, ◌≤◌, List, [], ◌∷◌, length, get_or}
use Rattle.std.proofs.Common.{arith, refl, ap, ap₂, ◌∙◌, subst}
use Rattle.std.proofs.Math.IntN.{ℤ, pos, negsuc, ◌+ℤ◌, ◌*ℤ◌, neg_ℤ}
use Rattle.std.specs.Int.Signed.{◌≤ℤ◌, ◌<ℤ◌}
use Rattle.std.specs.Prelude.{unsigned_abs}
use Rattle.std.proofs.lemmas.Int.{ints}
use Rattle.std.proofs.lemmas.Nat.{pow_pos}
use Rattle.std.proofs.Math.Nat.{mul-le-mul_left}
use Rattle.fx_math.specs.Division.{floor_div}
use Rattle.fx_math.specs.Laws.{UnrolledIsItsStep}
use Rattle.fx_math.specs.Residue.{wrap, FitsBits}
use Rattle.fx_math.specs.Unroll.{fill, last, so_far}
use Rattle.fx_math.proofs.Division.{floor_below, floor_above}
use Rattle.fx_math.proofs.Residue.{wrap_fits, small_fits}
use Rattle.fx_math.proofs.Ring.{mul_comm}
use Rattle.fx_math.proofs.Unroll.{same_fill, fill_at}
use Rattle.fx_code.specs.Code.{Code, row_at, constant_of, weight}
use Rattle.fx_code.specs.Fits.{RowFits, SourceFits, CodeFits}
use Rattle.fx_code.specs.Run.{word_read, terms_sum, whole_sum, word_step, words, sum_at, IsExact}
use Rattle.fx_code.specs.declared.term.CodeTerm.{CodeTerm}
use Rattle.fx_code.specs.declared.term.Read.{Read}
use Rattle.fx_code.specs.declared.term.Read.TheVariants.{Now, Old, In}
use Rattle.fx_block.specs.Ideal.{ideal_step, ideal, WidthsHold}
use Rattle.fx_block.specs.Laws.{IdealIsFloored, WordsAreIdeal}

-- ---- numbers without wrapping are floored

same_terms : (i inputs : ℕ) (now later old input : ℕ → ℤ) (ts : List CodeTerm) →
    ((n : ℕ) (d : CodeTerm) → n < length ts → SourceFits i inputs (get_or ts n d).from) →
    ((j : ℕ) → j < i → now j ≡ later j) → terms_sum now old input ts ≡ terms_sum later old input ts
same_terms i inputs now later old input [] sources h = refl
same_terms i inputs now later old input (t ∷ ts) sources h =
    ap₂ (λ x y. weight t *ℤ x +ℤ y) (same_read t.from (sources 0 t (omega arith)))
    (same_terms i inputs now later old input ts (λ n d l. sources (suc n) d (omega arith)) h)
  where
    same_read : (from : Read) → SourceFits i inputs from → word_read now old input from ≡ word_read later old input from
    same_read (Now j) l = h j l
    same_read (Old j) l = refl
    same_read (In j) l = refl

pub ideal_is_floored : (p : Code) → CodeFits p → UnrolledIsItsStep → IdealIsFloored p
ideal_is_floored p fits law u k i row =
    law (length p.rows) (ideal_step p u)
    (λ k i now later old h same.
    ap (λ s. floor_div (pos (constant_of (row_at p i).own) +ℤ s) (2 ^ (row_at p i).own.shift))
    (same_terms i (length p.inputs) now later old (u k) (row_at p i).own.terms (fits.reads i h).sources same))
    k i row

-- ---- what fits

-- a sum whose floor is within x is within d (x + 1)
within : (a y : ℤ) (d x h : ℕ) → 0 < d → (pos d *ℤ y) ≤ℤ a → a <ℤ (pos d *ℤ y +ℤ pos d) → unsigned_abs y ≤ x →
    d * (x + 1) ≤ h →
    (neg_ℤ (pos h) ≤ℤ a) × (a <ℤ pos h)
within a (pos y) d x h p lo hi b k = (omega (arith, ints), omega (arith, ints, mul-le-mul_left d b))
within a (negsuc y) d x h p lo hi b k = (omega (arith, ints, mul-le-mul_left d b), omega (arith, ints))

-- the accumulator holds the sum of a row whose floor is within x
sum_fits : (p : Code) (i x : ℕ) (a : ℤ) → WidthsHold p i x →
    unsigned_abs (floor_div a (2 ^ (row_at p i).own.shift)) ≤ x → FitsBits p.accumulator a
sum_fits p i x a w b =
    let d : ℕ = 2 ^ (row_at p i).own.shift in
    let y : ℤ = floor_div a d in
    let some : 0 < d = pow_pos (row_at p i).own.shift in
    let turned : pos d *ℤ y ≡ y *ℤ pos d = mul_comm (pos d) y in
    let low : (pos d *ℤ y) ≤ℤ a = subst (λ s. s ≤ℤ a) (λ t. mul_comm y (pos d) t) (floor_below a d some) in
    let high : a <ℤ (pos d *ℤ y +ℤ pos d) =
    subst (λ s. a <ℤ (s +ℤ pos d)) (λ t. mul_comm y (pos d) t) (floor_above a d some) in
    let fits : d * (x + 1) ≤ 2 ^ (p.accumulator - 1) = omega (arith, ints, w.sum) in
    let h = within a y d x (2 ^ (p.accumulator - 1)) some low high b fits in
    record { low = h.0; high = h.1 }

word_fits : (p : Code) (i x : ℕ) (y : ℤ) → WidthsHold p i x → unsigned_abs y ≤ x → FitsBits (row_at p i).width y
word_fits p i x y w b =
    let some : 0 < 2 ^ ((row_at p i).width - 1) = pow_pos ((row_at p i).width - 1) in
    let h : x ≤ 2 ^ ((row_at p i).width - 1) - 1 = omega (arith, ints, w.word) in
    small_fits (row_at p i).width x y b (omega (arith, some, h))

module _ (p : Code) (fits : CodeFits p) (u : ℕ → ℕ → ℤ) (x : ℕ → ℕ)
    (bounded : (k i : ℕ) → i < length p.rows → unsigned_abs (ideal p u k i) ≤ x i)
    (widths : (i : ℕ) → i < length p.rows → WidthsHold p i (x i)) where
  -- what is stored on the way is bounded too
  on_the_way : (k i : ℕ) → i < length p.rows →
      unsigned_abs (ideal_step p u k i (so_far (length p.rows) (ideal_step p u) k i)
      (last (length p.rows) (ideal_step p u) k)) ≤ x i
  on_the_way k i l =
      subst (λ y. unsigned_abs y ≤ x i)
      (fill_at (λ i now. ideal_step p u k i now (last (length p.rows) (ideal_step p u) k)) (length p.rows) i l)
      (bounded k i l)

  accumulator_positive : 0 < p.accumulator
  accumulator_positive = let low : 16 ≤ p.accumulator = fits.accumulator_low in omega (arith, low)

  width_positive : (i : ℕ) → i < length p.rows → 0 < (row_at p i).width
  width_positive i l = let row : RowFits p.accumulator (row_at p i) = fits.rows i _ l in omega (arith, row.width.low)

  -- after the numbers without wrapping so far, the word is the next of them
  same_word : (k i : ℕ) → i < length p.rows →
      word_step p u k i (so_far (length p.rows) (ideal_step p u) k i) (last (length p.rows) (ideal_step p u) k)
      ≡ ideal_step p u k i (so_far (length p.rows) (ideal_step p u) k i) (last (length p.rows) (ideal_step p u) k)
  same_word k i l =
      let a : ℤ = whole_sum (row_at p i) (so_far (length p.rows) (ideal_step p u) k i)
      (last (length p.rows) (ideal_step p u) k) (u k) in
      let w : WidthsHold p i (x i) = widths i l in
      let e : wrap p.accumulator a ≡ a =
      wrap_fits p.accumulator a accumulator_positive (sum_fits p i (x i) a w (on_the_way k i l)) in
      ap (λ y. wrap (row_at p i).width (floor_div y (2 ^ (row_at p i).own.shift))) e
      ∙ wrap_fits (row_at p i).width (floor_div a (2 ^ (row_at p i).own.shift)) (width_positive i l)
      (word_fits p i (x i) (floor_div a (2 ^ (row_at p i).own.shift)) w (on_the_way k i l))

  same_last : (k : ℕ) → last (length p.rows) (word_step p u) k ≡ last (length p.rows) (ideal_step p u) k
  same_last zero = refl
  same_last (suc k) =
      ap (λ (old : ℕ → ℤ). fill (λ i now. word_step p u k i now old) (length p.rows)) (same_last k)
      ∙ same_fill (λ i now. word_step p u k i now (last (length p.rows) (ideal_step p u) k)) (λ i now.
      ideal_step p u k i now (last (length p.rows) (ideal_step p u) k)) (length p.rows)
      (λ i l. same_word k i l)

  same_so_far : (k i : ℕ) → i ≤ length p.rows → so_far (length p.rows) (word_step p u) k i
      ≡ so_far (length p.rows) (ideal_step p u) k i
  same_so_far k i h =
      ap (λ (old : ℕ → ℤ). fill (λ i now. word_step p u k i now old) i) (same_last k)
      ∙ same_fill (λ i now. word_step p u k i now (last (length p.rows) (ideal_step p u) k)) (λ i now.
      ideal_step p u k i now (last (length p.rows) (ideal_step p u) k)) i
      (λ j l. same_word k j (omega arith))

  exact : (k i : ℕ) → i < length p.rows → IsExact p u k i
  exact k i l =
      let e : sum_at p u k i ≡ whole_sum (row_at p i) (so_far (length p.rows) (ideal_step p u) k i)
      (last (length p.rows) (ideal_step p u) k) (u k) =
      λ t. whole_sum (row_at p i) (same_so_far k i (omega arith) t) (same_last k t) (u k) in
      let b : unsigned_abs (floor_div (sum_at p u k i) (2 ^ (row_at p i).own.shift)) ≤ x i = rw e (on_the_way k i l) in
      let w : WidthsHold p i (x i) = widths i l in
      record {
        sum = wrap_fits p.accumulator (sum_at p u k i) accumulator_positive (sum_fits p i (x i) (sum_at p u k i) w b);
        store = word_fits p i (x i) (floor_div (sum_at p u k i) (2 ^ (row_at p i).own.shift)) w b;
      }

  same : (k i : ℕ) → words p u k i ≡ ideal p u k i
  same k i = ap (λ (f : ℕ → ℤ). f i) (same_last (suc k))

pub words_are_ideal : (p : Code) → CodeFits p → WordsAreIdeal p
words_are_ideal p fits u x bounded widths k i row =
    (exact p fits u x bounded widths k i row, same p fits u x bounded widths k i)
