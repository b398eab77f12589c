-- Moments that repeat the one before them.
use Rattle.std.proofs.Common.{◌≡◌, ◌≢◌, ℕ, suc, ◌+◌, ◌*◌, ◌<◌, ◌≤◌, ◌⊎◌, inl, inr, List, arith, refl, sym}
use Rattle.std.proofs.Common.{ap, ◌∙◌, subst, unsigned_abs}
use Rattle.std.proofs.Math.IntN.{ℤ, pos, ◌+ℤ◌, ◌*ℤ◌}
use Rattle.std.proofs.lemmas.Bool.{cases_lt}
use Rattle.std.proofs.lemmas.Int.{ints}
use Rattle.std.proofs.lemmas.List.{get_or-replicate, get_or_past, length-replicate}
use Rattle.std.specs.Prelude.{replicate}
use mathlib.Core.Path.{fun_ext}
use Rattle.fx_net.specs.Net.{Net}
use Rattle.fx_nums.specs.Arithmetic.{width}
use Rattle.fx_nums.specs.Interval.{Interval, magnitude, point}
use Rattle.fx_sweep.specs.Steps.{AreNarrow, IsMoved, IsRepeatedOn, carried_width, greatest, settled_rows}
use Rattle.fx_sweep.specs.Swept.{gain_in, interval_in, no_intervals, whole_in}
use Rattle.fx_sweep.specs.Weights.{carry, to_input}
use Rattle.fx_sweep.specs.declared.numbers.Numbers.{Numbers}

-- ---- lists

pub nothing_in : (n : ℕ) (xs : List Interval) → xs ≡ replicate n (point (pos 0)) → interval_in xs ≡ no_intervals
nothing_in n xs e = ap interval_in e ∙ fun_ext (λ i. by_place i (cases_lt i n))
  where
    by_place : (i : ℕ) → (i < n) ⊎ (n ≤ i) → interval_in (replicate n (point (pos 0))) i ≡ point (pos 0)
    by_place i (inl h) = get_or-replicate n i (point (pos 0)) (point (pos 0)) h
    by_place i (inr h) = get_or_past (replicate n (point (pos 0))) i (point (pos 0))
        (omega (arith, h, length-replicate n (point (pos 0))))

pub no_widths : (n : ℕ) (xs : List ℤ) → xs ≡ replicate n (pos 0) → whole_in xs ≡ (λ i. pos 0)
no_widths n xs e = ap whole_in e ∙ fun_ext (λ i. by_place i (cases_lt i n))
  where
    by_place : (i : ℕ) → (i < n) ⊎ (n ≤ i) → whole_in (replicate n (pos 0)) i ≡ pos 0
    by_place i (inl h) = get_or-replicate n i (pos 0) (pos 0) h
    by_place i (inr h) = get_or_past (replicate n (pos 0)) i (pos 0) (omega (arith, h, length-replicate n (pos 0)))

pub no_gains : (n : ℕ) (xs : List ℕ) → xs ≡ replicate n 0 → gain_in xs ≡ (λ i. 0)
no_gains n xs e = ap gain_in e ∙ fun_ext (λ i. by_place i (cases_lt i n))
  where
    by_place : (i : ℕ) → (i < n) ⊎ (n ≤ i) → gain_in (replicate n 0) i ≡ 0
    by_place i (inl h) = get_or-replicate n i 0 0 h
    by_place i (inr h) = get_or_past (replicate n 0) i 0 (omega (arith, h, length-replicate {A = ℕ} n 0))

-- an interval is its ends
pub by_ends : (a b : Interval) → a.lo ≡ b.lo → a.hi ≡ b.hi → a ≡ b
by_ends a b e f = λ i. record { lo = e i; hi = f i }

-- what is added up, with k times what these intervals add
abbrev pub widened : ℕ → (ℕ → ℤ) → (ℕ → Interval) → ℕ → ℤ
widened k w x i = w i +ℤ pos k *ℤ width (x i)

abbrev pub rows_raised : ℕ → (ℕ → ℕ) → (ℕ → Interval) → ℕ → ℕ
rows_raised k g x i = g i + k * unsigned_abs (x i).lo

abbrev pub inputs_raised : ℕ → (ℕ → ℕ) → (ℕ → Interval) → ℕ → ℕ
inputs_raised k g x j = g j + k * magnitude (x j)

pub same_widths : (k : ℕ) (xs ys : List ℤ) (us vs : List Interval) → xs ≡ ys → us ≡ vs →
    widened k (whole_in xs) (interval_in us) ≡ widened k (whole_in ys) (interval_in vs)
same_widths k xs ys us vs a b = rw (a, b) refl

pub same_rows : (k : ℕ) (xs ys : List ℕ) (us vs : List Interval) → xs ≡ ys → us ≡ vs →
    rows_raised k (gain_in xs) (interval_in us) ≡ rows_raised k (gain_in ys) (interval_in vs)
same_rows k xs ys us vs a b = rw (a, b) refl

pub same_inputs : (k : ℕ) (xs ys : List ℕ) (us vs : List Interval) → xs ≡ ys → us ≡ vs →
    inputs_raised k (gain_in xs) (interval_in us) ≡ inputs_raised k (gain_in ys) (interval_in vs)
same_inputs k xs ys us vs a b = rw (a, b) refl

-- ---- once, and k times more

once_more : (a w : ℤ) (k : ℕ) → a +ℤ w +ℤ pos k *ℤ w ≡ a +ℤ pos (1 + k) *ℤ w
once_more a w k =
    let e : 1 + k ≡ suc k = omega arith in
    let s : pos (suc k) *ℤ w ≡ pos k *ℤ w +ℤ w = grind (arith, ints) in
    rw e (omega (arith, ints, s))

once_more_nat : (a w k : ℕ) → a + w + k * w ≡ a + (1 + k) * w
once_more_nat a w k = (let s : (1 + k) * w ≡ k * w + w = grind arith in omega (arith, s))

-- a moment, and what it adds k times more
pub moved_by : (net : Net) (n : ℕ) (s t u : Numbers) (k : ℕ) →
    interval_in t.before.items ≡ interval_in s.carried.items → interval_in t.weights.items ≡ settled_rows net n s →
    interval_in t.carried.items ≡ carry net (settled_rows net n s) → AreNarrow greatest carried_width t.carried.items →
    interval_in t.inputs.items ≡ to_input net (settled_rows net n s) →
    whole_in t.widths.items ≡ (λ i. whole_in s.widths.items i +ℤ width (settled_rows net n s i)) →
    gain_in t.row_gains.items ≡ (λ i. gain_in s.row_gains.items i + unsigned_abs (settled_rows net n s i).lo) →
    gain_in t.input_gains.items
    ≡ (λ j. gain_in s.input_gains.items j + magnitude (to_input net (settled_rows net n s) j)) →
    (k ≢ 0 → interval_in t.carried.items ≡ interval_in t.before.items) → IsRepeatedOn t u k →
    IsMoved net n s u (1 + k)
moved_by net n s t u k before weights carried narrow inputs widths rows ports stands r = record {
  stands = λ several. ap (λ v. interval_in v.items) r.carried_same ∙ stands (λ e. several (ap (λ m. 1 + m) e)) ∙ before;
  carried_is = ap (λ v. interval_in v.items) r.carried_same ∙ carried;
  carried_narrow = subst (λ v. AreNarrow greatest carried_width v.items) (sym r.carried_same) narrow;
  inputs_are = ap (λ v. interval_in v.items) r.inputs_same ∙ inputs;
  widths_rise = r.widths_rise ∙ ap (widened k (whole_in t.widths.items)) weights
      ∙ ap (λ (w : ℕ → ℤ). widened k w (settled_rows net n s)) widths
      ∙ fun_ext (λ i. once_more (whole_in s.widths.items i) (width (settled_rows net n s i)) k);
  row_gains_rise = r.row_gains_rise ∙ ap (rows_raised k (gain_in t.row_gains.items)) weights
      ∙ ap (λ (g : ℕ → ℕ). rows_raised k g (settled_rows net n s)) rows
      ∙ fun_ext (λ i. once_more_nat (gain_in s.row_gains.items i) (unsigned_abs (settled_rows net n s i).lo) k);
  input_gains_rise = r.input_gains_rise ∙ ap (inputs_raised k (gain_in t.input_gains.items)) inputs
      ∙ ap (λ (g : ℕ → ℕ). inputs_raised k g (to_input net (settled_rows net n s))) ports
      ∙ fun_ext (λ j. once_more_nat (gain_in s.input_gains.items j)
      (magnitude (to_input net (settled_rows net n s) j)) k);
}
