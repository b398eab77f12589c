-- The rows of a moment, from the last to the first.
use Rattle.std.proofs.Common.{◌≡◌, ◌≢◌, ℕ, suc, ◌+◌, ◌-◌, ◌<◌, ◌≤◌, ◌⊎◌, Option, Some}
use Rattle.std.proofs.Common.{None, refl, sym, ◌∙◌, ap, inl, inr, arith, unsigned_abs}
use Rattle.std.proofs.Math.IntN.{ℤ, pos, ◌+ℤ◌}
use Rattle.std.specs.Int.Signed.{◌≤ℤ◌}
use mathlib.Core.Path.{fun_ext}
use Rattle.std.proofs.lemmas.Bool.{lt-ltb, le-ltb, cases_lt, cases_eq}
use Rattle.std.proofs.lemmas.Int.{ints}
use Rattle.fx_math.specs.Sums.{joined}
use Rattle.fx_net.specs.Net.{Net, NetFits}
use Rattle.fx_nums.specs.Arithmetic.{width}
use Rattle.fx_nums.specs.Fraction.{Fraction}
use Rattle.fx_nums.specs.Interval.{Interval, magnitude}
use Rattle.fx_sweep.specs.Range.{first_range}
use Rattle.fx_sweep.specs.Steps.{IsRowAdded, greatest, places_of_row, row_places, row_value, with_multiples}
use Rattle.fx_sweep.specs.Weights.{hand_on, settle}
use Rattle.fx_sweep.specs.declared.target.RangeAt.{RangeAt}
use Rattle.fx_sweep.proofs.Added.{by_nothing, plus_nothing}
use Rattle.fx_sweep.proofs.Moments.{hand_on_past, settle_past}
use Rattle.fx_sweep.proofs.Ranges.{first_some, none_more}

unchanged : (net : Net) (n : ℕ) → NetFits n net → (i : ℕ) (at : ℕ → Interval) (j : ℕ) → i ≤ j →
    with_multiples (at i).lo (net.now i) at j ≡ at j
unchanged net n fits i at j h =
    plus_nothing (at j) _ (by_nothing (at i).lo (net.now i j)
    (ap (λ (c : Fraction). unsigned_abs c.num) (fits.now_earlier i j h)))

-- a row takes only earlier ones, so all its multiples are handed on
handed_on : (net : Net) (n : ℕ) → NetFits n net → (i : ℕ) (at : ℕ → Interval) →
    with_multiples (at i).lo (net.now i) at ≡ hand_on net i at
unfolding hand_on
handed_on net n fits i at = fun_ext (λ j. by_place j (cases_lt j i))
  where
    by_place : (j : ℕ) → (j < i) ⊎ (i ≤ j) → with_multiples (at i).lo (net.now i) at j ≡ hand_on net i at j
    by_place j (inl h) = rw (lt-ltb j i h) refl
    by_place j (inr h) = unchanged net n fits i at j h ∙ rw (le-ltb j i h) refl

-- rows i and on are settled, no range was met, and what they add is added
pub record IsSettling (net : Net) (n i : ℕ) (start at : ℕ → Interval) (old_widths now_widths : ℕ →
    ℤ) (old_gains now_gains : ℕ → ℕ) : Type 0 where
  pub left : settle net i at ≡ settle net n start
  pub small : (r : ℕ) → i ≤ r → magnitude (at r) ≤ greatest
  pub widths_done : (r : ℕ) → i ≤ r → now_widths r ≡ old_widths r +ℤ width (at r)
  pub widths_left : (r : ℕ) → r < i → now_widths r ≡ old_widths r
  pub gains_done : (r : ℕ) → i ≤ r → now_gains r ≡ old_gains r + unsigned_abs (at r).lo
  pub gains_left : (r : ℕ) → r < i → now_gains r ≡ old_gains r
  pub passed : first_range (row_value (settle net n start) old_gains) (joined (n - i) (row_places n)) ≡ None

-- the ranges of a row by its interval and its gain
abbrev range_of_row : ℕ → Interval → ℕ → Option RangeAt
range_of_row i x gain = first_range (row_value (λ j. x) (λ j. gain)) (places_of_row i)

-- those of the row that comes next are those of the whole
row_range : (net : Net) (n i : ℕ) (start at : ℕ → Interval) (a b : ℕ → ℤ) (g h : ℕ → ℕ) →
    IsSettling net n (suc i) start at a b g h →
    first_range (row_value at h) (places_of_row i) ≡ first_range (row_value (settle net n start) g) (places_of_row i)
row_range net n i start at a b g h s =
    let here : at i ≡ settle net n start i =
    sym (settle_past net i (hand_on net i at) i (omega arith) ∙ hand_on_past net i at i (omega arith))
    ∙ ap (λ f. f i) s.left in
    let gain : h i ≡ g i = s.gains_left i (omega arith) in
    ap (λ (x : Interval). range_of_row i x (h i)) here ∙ ap (range_of_row i (settle net n start i)) gain

its_places : (n i : ℕ) → i < n → row_places n (n - suc i) ≡ places_of_row i
its_places n i h = let e : n - (n - suc i + 1) ≡ i = omega arith in ap places_of_row e

pub settling_more : (net : Net) (n i : ℕ) → NetFits n net → i < n →
    (start at next : ℕ → Interval) (a b c : ℕ → ℤ) (g h l : ℕ → ℕ) →
    IsSettling net n (suc i) start at a b g h → IsRowAdded i (net.now i) at next b c h l →
    first_range (row_value at h) (places_of_row i) ≡ None → IsSettling net n i start next a c g l
settling_more net n i fits inside start at next a b c g h l s r none = record {
  left = ap (settle net i) (r.handed ∙ handed_on net n fits i at) ∙ s.left;
  small = λ k m. rw (same k m) (by_small k m (cases_eq k i));
  widths_done = λ k m. by_widths k m (cases_eq k i) ∙ ap (λ (x : Interval). a k +ℤ width x) (sym (same k m));
  widths_left = λ k m. r.widths_else k (omega arith) ∙ s.widths_left k (omega arith);
  gains_done = λ k m. by_gains k m (cases_eq k i) ∙ ap (λ (x : Interval). g k + unsigned_abs x.lo) (sym (same k m));
  gains_left = λ k m. r.gains_else k (omega arith) ∙ s.gains_left k (omega arith);
  passed =
      (let more : n - i ≡ suc (n - suc i) = omega arith in
      let here : first_range (row_value (settle net n start) g) (row_places n (n - suc i)) ≡ None =
      ap (first_range (row_value (settle net n start) g)) (its_places n i inside)
      ∙ sym (row_range net n i start at a b g h s) ∙ none in
      rw more (none_more (row_value (settle net n start) g) (row_places n) (n - suc i) s.passed here));
}
  where
    same : (k : ℕ) → i ≤ k → next k ≡ at k
    same k m = ap (λ f. f k) r.handed ∙ unchanged net n fits i at k m

    by_small : (k : ℕ) → i ≤ k → (k ≡ i) ⊎ (k ≡ i → ⊥) → magnitude (at k) ≤ greatest
    by_small k m (inl e) = rw e r.small
    by_small k m (inr ne) = s.small k (omega (arith, ne))

    by_widths : (k : ℕ) → i ≤ k → (k ≡ i) ⊎ (k ≡ i → ⊥) → c k ≡ a k +ℤ width (at k)
    by_widths k m (inl e) = rw e (r.width_here ∙ ap (λ x. x +ℤ width (at i)) (s.widths_left i (omega arith)))
    by_widths k m (inr ne) = r.widths_else k ne ∙ s.widths_done k (omega (arith, ne))

    by_gains : (k : ℕ) → i ≤ k → (k ≡ i) ⊎ (k ≡ i → ⊥) → l k ≡ g k + unsigned_abs (at k).lo
    by_gains k m (inl e) = rw e (r.gain_here ∙ ap (λ x. x + unsigned_abs (at i).lo) (s.gains_left i (omega arith)))
    by_gains k m (inr ne) = r.gains_else k ne ∙ s.gains_done k (omega (arith, ne))

pub settling_ends : (net : Net) (n i : ℕ) → i < n →
    (start at : ℕ → Interval) (a b : ℕ → ℤ) (g h : ℕ → ℕ) (x : RangeAt) →
    IsSettling net n (suc i) start at a b g h → first_range (row_value at h) (places_of_row i) ≡ Some x →
    first_range (row_value (settle net n start) g) (joined n (row_places n)) ≡ Some x
settling_ends net n i inside start at a b g h x s some =
    first_some (row_value (settle net n start) g) (row_places n) (n - suc i) n x (omega arith) s.passed
    (ap (first_range (row_value (settle net n start) g)) (its_places n i inside)
    ∙ sym (row_range net n i start at a b g h s) ∙ some)

-- widths of which one has grown
pub grown_fit : (i b w : ℕ) (old now next : ℕ → ℤ) → ((r : ℕ) → (pos 0 ≤ℤ old r) × (old r ≤ℤ pos b)) →
    ((r : ℕ) → (pos 0 ≤ℤ now r) × (now r ≤ℤ pos (b + w))) →
    now i ≡ old i → ((k : ℕ) → k ≢ i → next k ≡ now k) → (now i ≤ℤ next i) × (next i ≤ℤ (now i +ℤ pos w)) →
    (r : ℕ) → (pos 0 ≤ℤ next r) × (next r ≤ℤ pos (b + w))
grown_fit i b w old now next first fit same others grows r = by_place (cases_eq r i)
  where
    by_place : (r ≡ i) ⊎ (r ≡ i → ⊥) → (pos 0 ≤ℤ next r) × (next r ≤ℤ pos (b + w))
    by_place (inl e) = rw e
        (let o = first i in
        (omega (arith, ints, o.0, same, grows.0), omega (arith, ints, o.1, same, grows.1)))
    by_place (inr ne) = rw (others r ne) (fit r)
