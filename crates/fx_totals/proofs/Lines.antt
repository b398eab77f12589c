-- What is kept after the numbers of one target were put.
use Rattle.std.proofs.Common.{◌≡◌, ◌≢◌, ℕ, ◌+◌, ◌*◌, ◌<◌, List, length, arith, refl, ap, sym, ◌∙◌}
use Rattle.std.proofs.Math.IntN.{ℤ, pos}
use Rattle.std.proofs.lemmas.Nat.{mul-add-lt}
use Rattle.std.proofs.Common.{lit<}
use Rattle.fx_eqs.specs.declared.limits.TheConstants.{PORTS}
use Rattle.fx_nums.specs.Interval.{Interval, magnitude}
use Rattle.fx_math.specs.Division.{ceil_div}
use Rattle.fx_math.specs.Sums.{total}
use Rattle.fx_net.specs.Net.{Net}
use Rattle.fx_sweep.specs.Gains.{row_gain}
use Rattle.fx_sweep.specs.Swept.{State, Swept, carried_at, input_gain_at, row_gain_at, whole_in, width_at}
use Rattle.fx_sweep.specs.Target.{start_of}
use Rattle.fx_sweep.specs.declared.target.Target.{Target}
use Rattle.fx_totals.specs.Filled.{HoldsTarget}
use Rattle.fx_totals.specs.Kept.{AreEarlierSame, AreUpTo, Kept, KeptFits, greatest_gain, greatest_rounding}
use Rattle.fx_totals.specs.Kept.{greatest_sum_of_widths}

-- the numbers from place t * w on are these, and those before are the same
pub record IsLinePut (w t most : ℕ) (before after : List ℤ) (values : ℕ → ℤ) : Type 0 where
  pub count : length after ≡ length before
  pub here : (i : ℕ) → i < w → whole_in after (t * w + i) ≡ values i
  pub earlier : (k : ℕ) → k < t * w → whole_in after k ≡ whole_in before k
  pub fits : AreUpTo most after

pub line_put : (w t place most : ℕ) (before seen put after : List ℤ) (values : ℕ → ℤ) → place ≡ t * w →
    seen ≡ before → after ≡ put →
    length put ≡ length seen → ((i : ℕ) → i < w → whole_in put (place + i) ≡ values i) →
    ((k : ℕ) → k < place → whole_in put k ≡ whole_in seen k) → AreUpTo most put → IsLinePut w t most before after values
line_put w t place most before seen put after values p s a count here earlier fits = rw a (record {
  count = count ∙ ap length s;
  here = λ i h. ap (λ k. whole_in put (k + i)) (sym p) ∙ here i h;
  earlier = λ k h. earlier k (omega (arith, h, p)) ∙ ap (λ xs. whole_in xs k) s;
  fits = fits;
})

-- one number is put
pub one_put : (t most : ℕ) (v : ℤ) (before seen put after : List ℤ) → seen ≡ before → after ≡ put →
    length put ≡ length seen →
    whole_in put t ≡ v → ((k : ℕ) → k ≢ t → whole_in put k ≡ whole_in seen k) → AreUpTo most put →
    IsLinePut 1 t most before after (λ i. v)
one_put t most v before seen put after s a count here others fits =
    line_put 1 t t most before seen put after (λ i. v) (omega arith) s a count
    (λ i h. (let e : t + i ≡ t = omega (arith, h) in ap (whole_in put) e ∙ here)) (λ k h.
    others k (omega (arith, h))) fits

-- ---- all four

abbrev pub kept_of : ℕ → ℕ → ℕ → List ℤ → List ℤ → List ℤ → List ℤ → Kept
kept_of n f l rs gs ws es =
    record {
      size = n;
      filled = f;
      leading = l;
      roundings = rs;
      input_gains = gs;
      row_widths = ws;
      row_rests =
          es;
    }

module _ (n f l t : ℕ) (rs gs ws es rs2 gs2 ws2 es2 : List ℤ) (v : ℤ) (gains wides rests : ℕ → ℤ)
    (r : IsLinePut 1 t greatest_rounding rs rs2 (λ i. v)) (g : IsLinePut PORTS t greatest_gain gs gs2 gains)
    (w : IsLinePut n t greatest_sum_of_widths ws ws2 wides) (e : IsLinePut n t greatest_gain es es2 rests) where
  pub kept_fits : KeptFits (kept_of n f l rs gs ws es) → KeptFits (kept_of n f l rs2 gs2 ws2 es2)
  kept_fits k = record {
    rows_low = k.rows_low;
    rows_high = k.rows_high;
    filled_fits = k.filled_fits;
    leading_fits = k.leading_fits;
    leading_rows = k.leading_rows;
    rounding_count = r.count ∙ k.rounding_count;
    gain_count = g.count ∙ k.gain_count;
    width_count = w.count ∙ k.width_count;
    rest_count = e.count ∙ k.rest_count;
    roundings_fit = r.fits;
    gains_fit = g.fits;
    widths_fit = w.fits;
    rests_fit = e.fits;
  }

  pub kept_earlier : AreEarlierSame t (kept_of n f l rs gs ws es) (kept_of n f l rs2 gs2 ws2 es2)
  kept_earlier = record {
    sizes = refl;
    roundings_same = λ s h. r.earlier s (omega (arith, h));
    gains_same = λ s j h k. g.earlier (s * PORTS + j) (omega (arith, mul-add-lt s PORTS j t h k));
    widths_same = λ s i h k. w.earlier (s * n + i) (omega (arith, mul-add-lt s n i t h k));
    rests_same = λ s i h k. e.earlier (s * n + i) (omega (arith, mul-add-lt s n i t h k));
  }

  pub kept_holds : (s : State) (net : Net) (target : Target) (m : ℕ) → net.rows ≡ n → Swept s net target m →
      v ≡ ceil_div (total n (λ i. pos (row_gain_at s i * net.class i))) 2 →
      ((j : ℕ) → gains j ≡ pos (input_gain_at s j)) → ((i : ℕ) → wides i ≡ width_at s i) →
      ((i : ℕ) → rests i ≡ pos (magnitude (carried_at s i))) →
      HoldsTarget (kept_of n f l rs2 gs2 ws2 es2) t net (start_of target) m
  kept_holds s net target m rows swept rounded gs_are ws_are es_are = record {
    rounding_is = (let o : t ≡ t * 1 + 0 = omega arith in ap (whole_in rs2) o ∙ r.here 0 (lit< tt) ∙ rounded
        ∙ ap (λ (x : ℕ → ℕ). ceil_div (total n (λ i. pos (x i * net.class i))) 2) swept.has_row_gains
        ∙ ap (λ (k : ℕ). ceil_div (total k (λ i. pos (row_gain net (start_of target) m i * net.class i))) 2)
        (sym rows));
    gains_are = λ j k. g.here j k ∙ gs_are j ∙ ap (λ (x : ℕ → ℕ). pos (x j)) swept.has_input_gains;
    widths_are = λ i k. w.here i (omega (arith, rows, k)) ∙ ws_are i ∙ ap (λ (x : ℕ → ℤ). x i) swept.has_widths;
    rests_are = λ i k. e.here i (omega (arith, rows, k)) ∙ es_are i
        ∙ ap (λ (x : ℕ → Interval). pos (magnitude (x i))) swept.is_carried;
  }
