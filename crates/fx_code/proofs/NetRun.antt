-- In a net that holds a program, numbers that are floored as words are, and so words, are a perturbed run of its rows.
use Rattle.std.proofs.Common.{◌≡◌, ℕ, zero, suc, ◌+◌, ◌-◌, ◌*◌, ◌^◌, ◌<◌, ◌≤◌, List, [], ◌∷◌, map, length}
use Rattle.std.proofs.Common.{get_or, arith, refl, ap, ap₂, sym, ◌∙◌, subst}
use Rattle.std.proofs.Math.IntN.{ℤ, pos, ◌+ℤ◌, ◌-ℤ◌, ◌*ℤ◌, neg_ℤ}
use Rattle.std.specs.Prelude.{unsigned_abs}
use Rattle.std.proofs.lemmas.Int.{ints, unsigned_abs-mul}
use Rattle.std.proofs.lemmas.List.{get_or-map, length-map}
use Rattle.std.proofs.lemmas.Nat.{pow_pos}
use Rattle.std.proofs.Math.Nat.{mul-le-mul_right, le_of_mul-le-mul_left}
use Rattle.fx_math.specs.Division.{floor_div}
use Rattle.fx_math.specs.Laws.{UnrolledIsItsStep}
use Rattle.fx_math.specs.Residue.{wrap}
use Rattle.fx_math.specs.Unroll.{before, last, so_far}
use Rattle.fx_math.proofs.Unroll.{fill_kept, last_is_before}
use Rattle.fx_math.proofs.Ring.{mul-add, mul_assoc, mul-neg, add-mul, neg-mul}
use Rattle.fx_nums.specs.Fraction.{over, zero_fraction, IsWholeOver}
use Rattle.fx_net.specs.Net.{Net}
use Rattle.fx_net.specs.Rows.{reads_now, reads_old, reads_input, coefficient, row_of}
use Rattle.fx_net.specs.Run.{IsDenominator, row_time, row_sum}
use Rattle.fx_eqs.specs.declared.mode.Mode.{Mode}
use Rattle.fx_eqs.proofs.TermValues.{gather}
use Rattle.fx_net.proofs.Carried.{of_now, of_old, of_input, right, one_power, powers_to}
use Rattle.fx_net.proofs.Coefficients.{value_at, net_sum}
use Rattle.fx_code.specs.Code.{Code, row_at, bare, no_bare_row, constant_in, constant_of, weight, OldIsThere}
use Rattle.fx_code.specs.Code.{IsWhole}
use Rattle.fx_code.specs.Fits.{SourceFits, CodeFits}
use Rattle.fx_code.specs.Laws.{ExactWords, HasNumbers, IsWithinClass, IsFloored, FlooredRowsRun}
use Rattle.fx_code.specs.Laws.{WordsAreTheirStep, WordsRun}
use Rattle.fx_code.specs.NetRows.{net_read, net_row, class_in, class_of, bare_rows, HoldsCode}
use Rattle.fx_code.specs.Run.{word_read, terms_sum, whole_sum, word_step, words, sum_at}
use Rattle.fx_code.specs.declared.term.CodeTerm.{CodeTerm}
use Rattle.fx_code.specs.declared.term.Read.{Read}
use Rattle.fx_code.specs.declared.term.Read.TheVariants.{Now, Old, In}
use Rattle.fx_net.proofs.Terms.{HasTerms, as_terms, AllWhole, whole_terms}
use Rattle.fx_code.proofs.NetTerms.{kept, kept_term, coefficient_kept, are_once, all_fit, kept_over}
use Rattle.fx_code.proofs.Floors.{class_at}
use Rattle.fx_code.proofs.Placing.{bare_is, read_fits}

-- z is y g, and d t is s g, with d y near s: so z is near t
near : (d e g : ℕ) (z t y s : ℤ) → 0 < d → z ≡ y *ℤ pos g → pos d *ℤ t ≡ s *ℤ pos g →
    2 * unsigned_abs (pos d *ℤ y -ℤ s) ≤ e * d →
    2 * unsigned_abs (z -ℤ t) ≤ e * g
near d e g z t y s h ez et b =
    let one : pos d *ℤ (z -ℤ t) ≡ (pos d *ℤ y -ℤ s) *ℤ pos g =
    mul-add (pos d) z (neg_ℤ t)
    ∙ ap₂ (λ a c. a +ℤ c) (ap (λ x. pos d *ℤ x) ez ∙ sym (mul_assoc (pos d) y (pos g))) (mul-neg (pos d) t
    ∙ ap neg_ℤ et ∙ sym (neg-mul s (pos g)))
    ∙ sym (add-mul (pos d *ℤ y) (neg_ℤ s) (pos g)) in
    let two : d * unsigned_abs (z -ℤ t) ≡ unsigned_abs (pos d *ℤ y -ℤ s) * g =
    sym (unsigned_abs-mul (pos d) (z -ℤ t)) ∙ ap unsigned_abs one ∙ unsigned_abs-mul (pos d *ℤ y -ℤ s) (pos g) in
    let three : 2 * unsigned_abs (pos d *ℤ y -ℤ s) * g ≤ e * d * g = mul-le-mul_right g b in
    let four : d * (2 * unsigned_abs (z -ℤ t)) ≤ d * (e * g) = omega (arith, two, three) in
    le_of_mul-le-mul_left four h

-- ---- a term

term_scaled : (q shift g : ℕ) (t : CodeTerm) (x w : ℤ) → IsWholeOver q (kept shift (weight t)) →
    pos q *ℤ x ≡ w *ℤ pos g →
    pos (2 ^ shift) *ℤ (over q (kept shift (weight t)) *ℤ x) ≡ (weight t *ℤ w) *ℤ pos g
term_scaled q shift g t x w whole e =
    sym (mul_assoc (pos (2 ^ shift)) (over q (kept shift (weight t))) x)
    ∙ ap (λ y. y *ℤ x) (kept_over q shift (weight t) whole)
    ∙ mul_assoc (weight t) (pos q) x ∙ ap (λ y. weight t *ℤ y) e ∙ sym (mul_assoc (weight t) w (pos g))

module _ (p : Code) (net : Net) (at q : ℕ) (u y z : ℕ → ℕ → ℤ)
    (fits : CodeFits p) (whole : IsWhole p) (holds : HoldsCode net at p) (den : IsDenominator net q)
    (has : HasNumbers p net at q y z) where
  room : at + length p.rows ≤ net.rows
  room = let inside = holds.rows.inside in let count : length (map net_row (bare_rows p)) ≡ length p.rows =
      length-map (bare_rows p) net_row ∙ length-map p.rows bare in omega arith

  -- what reads a source of row i, over the row's denominator
  value_is : (k i : ℕ) (from : Read) → i < length p.rows → SourceFits i (length p.inputs) from →
      OldIsThere (length p.rows) from →
      pos q *ℤ value_at at (net_read from) (of_now q z k (at + i)) (of_old net q z k (at + i))
      (of_input net q u k (at + i))
      ≡ word_read (y k) (before y k) (u k) from *ℤ pos (q ^ (row_time net k (at + i) + 1))
  value_is k i (Now j) row source there =
      let b : ℕ = at + i - (at + j) - 1 in
      right q (q ^ b) (q ^ b * q) (z k (at + j)) (omega arith)
      ∙ ap (λ x. x *ℤ pos (q ^ b * q)) (has k j (omega arith))
      ∙ gather (q ^ (row_time net k (at + j) + 1)) (q ^ b * q) (q ^ (row_time net k (at + i) + 1)) (y k j)
      (powers_to q (row_time net k (at + j) + 1) b (row_time net k (at + i) + 1) (omega arith))
  value_is zero i (Old j) row source there = omega (arith, ints)
  value_is (suc k) i (Old j) row source there =
      let b : ℕ = net.rows + (at + i) - (at + j) - 1 in
      right q (q ^ b) (q ^ b * q) (z k (at + j)) (omega arith)
      ∙ ap (λ x. x *ℤ pos (q ^ b * q)) (has k j there)
      ∙ gather (q ^ (row_time net k (at + j) + 1)) (q ^ b * q) (q ^ (row_time net (suc k) (at + i) + 1))
      (y k j) (powers_to q (row_time net k (at + j) + 1) b (row_time net (suc k) (at + i) + 1) (let a =
      room in omega arith))
  value_is k i (In j) row source there =
      right q (q ^ row_time net k (at + i)) (q ^ (row_time net k (at + i) + 1)) (u k j) (let e =
      one_power q (row_time net k (at + i)) in omega arith)

  -- so the sum of terms
  sum_scaled : (k i shift : ℕ) (ts : List CodeTerm) → i < length p.rows →
      ((n : ℕ) (d : CodeTerm) → n < length ts → SourceFits i (length p.inputs) (get_or ts n d).from) →
      ((n : ℕ) (d : CodeTerm) → n < length ts → OldIsThere (length p.rows) (get_or ts n d).from) →
      AllWhole q (map (kept_term shift) ts) →
      pos (2 ^ shift) *ℤ net_sum q at (map (kept_term shift) ts) (of_now q z k (at + i))
      (of_old net q z k (at + i)) (of_input net q u k (at + i))
      ≡ terms_sum (y k) (before y k) (u k) ts *ℤ pos (q ^ (row_time net k (at + i) + 1))
  sum_scaled k i shift [] row sources there wholes = omega (arith, ints)
  sum_scaled k i shift (t ∷ ts) row sources there wholes =
      let g : ℕ = q ^ (row_time net k (at + i) + 1) in
      let x : ℤ = value_at at (net_read t.from) (of_now q z k (at + i)) (of_old net q z k (at + i))
      (of_input net q u k (at + i)) in
      let rest : ℤ = net_sum q at (map (kept_term shift) ts) (of_now q z k (at + i))
      (of_old net q z k (at + i)) (of_input net q u k (at + i)) in
      let w : ℤ = word_read (y k) (before y k) (u k) t.from in
      mul-add (pos (2 ^ shift)) (over q (kept shift (weight t)) *ℤ x) rest
      ∙ ap₂ (λ a b. a +ℤ b)
      (term_scaled q shift g t x w wholes.0
      (value_is k i t.from row (sources 0 t (omega arith)) (there 0 t (omega arith))))
      (sum_scaled k i shift ts row (λ n d l. sources (suc n) d (omega arith)) (λ n d l.
      there (suc n) d (omega arith)) wholes.1)
      ∙ sym (add-mul (weight t *ℤ w) (terms_sum (y k) (before y k) (u k) ts) (pos g))

  -- ---- a row

  count_is : length (map net_row (bare_rows p)) ≡ length p.rows
  count_is = length-map (bare_rows p) net_row ∙ length-map p.rows bare

  row_is : (i : ℕ) → i < length p.rows → row_of (map net_row (bare_rows p)) i ≡ net_row (row_at p i).own
  unfolding row_of
  row_is i row =
      get_or-map net_row (bare_rows p) i no_bare_row _ (rw (length-map p.rows bare) row)
      ∙ ap net_row (bare_is p.rows i)

  has_terms : (i : ℕ) → i < length p.rows →
      HasTerms net at i (map (kept_term (row_at p i).own.shift) (row_at p i).own.terms)
  has_terms i row =
      let shift : ℕ = (row_at p i).own.shift in
      let ts : List CodeTerm = (row_at p i).own.terms in
      let below : i < length (map net_row (bare_rows p)) = rw count_is row in
      record {
        inside = let a = room in omega arith;
        once = are_once shift ts (fits.reads i row).once;
        fits = all_fit net.rows at i shift ts (λ k d l. read_fits p net.rows at i k ts d fits whole room row refl l);
        now = λ j l. holds.rows.now i j below l ∙ ap (coefficient (reads_now at j)) (row_is i row)
            ∙ coefficient_kept (reads_now at j) shift ts zero_fraction;
        old = λ j l. holds.rows.old i j below l ∙ ap (coefficient (reads_old at j)) (row_is i row)
            ∙ coefficient_kept (reads_old at j) shift ts zero_fraction;
        input = λ j l. holds.rows.input i j below l ∙ ap (coefficient (reads_input j)) (row_is i row)
            ∙ coefficient_kept (reads_input j) shift ts zero_fraction;
      }

  row_scaled : (k i : ℕ) → i < length p.rows →
      pos (2 ^ (row_at p i).own.shift) *ℤ row_sum net q u z k (at + i)
      ≡ terms_sum (y k) (before y k) (u k) (row_at p i).own.terms *ℤ pos (q ^ (row_time net k (at + i) + 1))
  row_scaled k i row =
      let shift : ℕ = (row_at p i).own.shift in
      let ts : List CodeTerm = (row_at p i).own.terms in
      ap (λ x. pos (2 ^ shift) *ℤ x) (as_terms net at q i (map (kept_term shift) ts) u z k (has_terms i row))
      ∙ sum_scaled k i shift ts row (fits.reads i row).sources (whole.reads i _ row)
      (whole_terms net at q i (map (kept_term shift) ts) den (has_terms i row))

  pub row_near : (k i : ℕ) → i < length p.rows → IsFloored p u y k i → IsWithinClass net q u z k (at + i)
  row_near k i row floored =
      let shift : ℕ = (row_at p i).own.shift in
      let mode : Mode = (row_at p i).own.mode in
      let s : ℤ = terms_sum (y k) (before y k) (u k) (row_at p i).own.terms in
      let number : z k (at + i)
      ≡ floor_div (pos (constant_in mode shift) +ℤ s) (2 ^ shift) *ℤ pos (q ^ (row_time net k (at + i) + 1)) =
      has k i row ∙ ap (λ x. x *ℤ pos (q ^ (row_time net k (at + i) + 1))) floored in
      subst (λ n. 2 * unsigned_abs (z k (at + i) -ℤ row_sum net q u z k (at + i)) ≤ n * q ^
      (row_time net k (at + i) + 1))
      (sym (holds.classes i (rw (length-map p.rows bare) row) ∙ ap class_of (bare_is p.rows i)))
      (near (2 ^ shift) (class_in mode shift) (q ^ (row_time net k (at + i) + 1)) (z k (at + i))
      (row_sum net q u z k (at + i)) (floor_div (pos (constant_in mode shift) +ℤ s) (2 ^ shift)) s
      (pow_pos shift) number (row_scaled k i row) (class_at mode shift s))

pub floored_rows : (p : Code) → CodeFits p → FlooredRowsRun p
floored_rows p fits net at q u y z whole holds den has k i row floored =
    row_near p net at q u y z fits whole holds den has k i row floored

-- ---- words

same_terms : (i inputs : ℕ) (now now' old old' input : ℕ → ℤ) (ts : List CodeTerm) →
    ((n : ℕ) (d : CodeTerm) → n < length ts → SourceFits i inputs (get_or ts n d).from) →
    ((j : ℕ) → j < i → now j ≡ now' j) → ((j : ℕ) → old j ≡ old' j) →
    terms_sum now old input ts ≡ terms_sum now' old' input ts
same_terms i inputs now now' old old' input [] sources hn ho = refl
same_terms i inputs now now' old old' input (t ∷ ts) sources hn ho =
    ap₂ (λ x y. weight t *ℤ x +ℤ y) (same_read t.from (sources 0 t (omega arith)))
    (same_terms i inputs now now' old old' input ts (λ n d l. sources (suc n) d (omega arith)) hn ho)
  where
    same_read : (from : Read) → SourceFits i inputs from → word_read now old input from ≡ word_read now' old' input from
    same_read (Now j) h = hn j h
    same_read (Old j) h = ho j
    same_read (In j) h = refl

-- each word is its row's step of the finished moment
pub word_steps : (p : Code) → CodeFits p → UnrolledIsItsStep → WordsAreTheirStep p
word_steps p fits law u k i row =
    law (length p.rows) (word_step p u)
    (λ k i now later old h same.
    ap (λ s. wrap (row_at p i).width
    (floor_div (wrap p.accumulator (pos (constant_of (row_at p i).own) +ℤ s)) (2 ^ (row_at p i).own.shift)))
    (same_terms i (length p.inputs) now later old old (u k) (row_at p i).own.terms (fits.reads i h).sources same
    (λ j. refl)))
    k i row

sum_is : (p : Code) (u : ℕ → ℕ → ℤ) (k i : ℕ) → CodeFits p → i < length p.rows →
    sum_at p u k i ≡ whole_sum (row_at p i) (words p u k) (before (words p u) k) (u k)
sum_is p u k i fits row =
    ap (λ x. pos (constant_of (row_at p i).own) +ℤ x)
    (same_terms i (length p.inputs) (so_far (length p.rows) (word_step p u) k i) (words p u k)
    (last (length p.rows) (word_step p u) k) (before (words p u) k) (u k) (row_at p i).own.terms
    (fits.reads i row).sources
    (λ j l. fill_kept (λ i now. word_step p u k i now (last (length p.rows) (word_step p u) k)) (length p.rows)
    i j l (omega arith))
    (λ j. ap (λ (f : ℕ → ℤ). f j) (last_is_before (length p.rows) (word_step p u) k)))

pub words_run : (p : Code) → CodeFits p → ExactWords p → WordsRun p
words_run p fits floors net at q u z whole holds den has k i row exact =
    row_near p net at q u (words p u) z fits whole holds den has k i row
    (floors u k i row exact ∙ ap (λ s. floor_div s (2 ^ (row_at p i).own.shift)) (sum_is p u k i fits row))
