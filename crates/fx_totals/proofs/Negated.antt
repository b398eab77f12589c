-- A block with all signs turned is a block, and keeps its bounds.
use Rattle.std.proofs.Common.{◌≡◌, ℕ, zero, suc, arith, refl, ap, ◌∙◌, inl, inr}
use Rattle.std.proofs.Math.IntN.{ℤ, pos, ◌+ℤ◌, ◌*ℤ◌, neg_ℤ}
use Rattle.std.specs.Prelude.{unsigned_abs}
use mathlib.Core.Path.{fun_ext}
use Rattle.std.proofs.lemmas.Int.{ints}
use Rattle.fx_math.specs.Sums.{total}
use Rattle.fx_math.proofs.Ring.{mul-neg, neg-mul}
use Rattle.fx_eqs.specs.declared.limits.TheConstants.{PORTS}
use Rattle.fx_nums.specs.Fraction.{over}
use Rattle.fx_nums.specs.Interval.{Interval}
use Rattle.fx_net.specs.Blocks.{IsBlock, reads}
use Rattle.fx_net.specs.Net.{Net}
use Rattle.fx_totals.proofs.BlockLaw.{InBounds}

-- the table with the other signs
abbrev pub turned : (ℕ → ℕ → ℤ) → ℕ → ℕ → ℤ
turned v n i = neg_ℤ (v n i)

pub total_turned : (n : ℕ) (c x : ℕ → ℤ) → total n (λ j. c j *ℤ neg_ℤ (x j)) ≡ neg_ℤ (total n (λ j. c j *ℤ x j))
total_turned zero c x = refl
total_turned (suc n) c x = omega (arith, ints, total_turned n c x, mul-neg (c n) (x n))

pub abs_turned : (z : ℤ) → unsigned_abs (neg_ℤ z) ≡ unsigned_abs z
abs_turned z = omega (arith, ints)

reads_turned : (net : Net) (q i : ℕ) (v o u : ℕ → ℤ) →
    reads net q i (λ j. neg_ℤ (v j)) (λ j. neg_ℤ (o j)) (λ j. neg_ℤ (u j)) ≡ neg_ℤ (reads net q i v o u)
reads_turned net q i v o u =
    omega (
      arith,
      ints,
      total_turned i (λ j. over q (net.now i j)) v,
      total_turned net.rows (λ j. over q (net.old i j)) o,
      total_turned PORTS (λ j. over q (net.input i j)) u,
    )

row_turned : (q : ℕ) (v p r r' : ℤ) → r' ≡ neg_ℤ r → pos q *ℤ v ≡ r +ℤ pos q *ℤ p →
    pos q *ℤ neg_ℤ v ≡ r' +ℤ pos q *ℤ neg_ℤ p
row_turned q v p r r' e h = omega (arith, ints, e, h, mul-neg (pos q) v, mul-neg (pos q) p)

pub block_turned : (net : Net) (q d : ℕ) (v u p : ℕ → ℕ → ℤ) → IsBlock net q d v u p →
    IsBlock net q d (turned v) (turned u) (turned p)
block_turned net q d v u p b = record {
  row = λ n i l.
      (let e : reads net q i (λ j. neg_ℤ (v n j)) (λ j. neg_ℤ (v (suc n) j)) (λ j. neg_ℤ (u n j) *ℤ pos d)
      ≡ neg_ℤ (reads net q i (v n) (v (suc n)) (λ j. u n j *ℤ pos d)) =
      ap (λ (f : ℕ → ℤ). reads net q i (λ j. neg_ℤ (v n j)) (λ j. neg_ℤ (v (suc n) j)) f)
      (fun_ext (λ j. neg-mul (u n j) (pos d)))
      ∙ reads_turned net q i (v n) (v (suc n)) (λ j. u n j *ℤ pos d) in
      row_turned q (v n i) (p n i) (reads net q i (v n) (v (suc n)) (λ j. u n j *ℤ pos d))
      (reads net q i (λ j. neg_ℤ (v n j)) (λ j. neg_ℤ (v (suc n) j)) (λ j. neg_ℤ (u n j) *ℤ pos d)) e (b.row n i l));
}

pub bounds_turned : (net : Net) (start : ℕ → Interval) (m d : ℕ) (v p : ℕ → ℕ → ℤ) (rows : ℕ → ℕ) →
    InBounds net start m d v p rows → InBounds net start m d (turned v) (turned p) rows
bounds_turned net start m d v p rows b = record {
  small = λ n i l k. rw abs_turned (b.small n i l k);
  values = λ n i l k. (let h = b.values n i l k in elim h [ inl e ↦ inl e | inr e ↦ inr (rw abs_turned e) ]);
  ordered = b.ordered;
}
