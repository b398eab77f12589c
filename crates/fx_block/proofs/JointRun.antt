-- The values of a net that begins with a program are a run.
use Rattle.std.proofs.Common.{◌≡◌, ◌⊎◌, ℕ, ◌+◌, ◌*◌, ◌-◌, ◌^◌, ◌<◌, ◌≤◌, length, arith, ap, ◌∙◌, subst, inl}
use Rattle.std.proofs.Common.{inr, cond, ltb}
use Rattle.std.proofs.Math.IntN.{ℤ, pos, ◌+ℤ◌, ◌-ℤ◌, ◌*ℤ◌}
use Rattle.std.specs.Prelude.{unsigned_abs}
use Rattle.std.proofs.lemmas.Int.{ints}
use Rattle.std.proofs.lemmas.Bool.{cases_lt, lt-ltb, le-ltb, cond-true, cond-false}
use Rattle.std.proofs.lemmas.List.{length-map}
use Rattle.fx_math.specs.Sums.{total}
use Rattle.fx_math.specs.Unroll.{before}
use Rattle.fx_math.proofs.Sums.{total_ext}
use Rattle.fx_math.proofs.Unroll.{unrolled_step}
use Rattle.fx_eqs.specs.declared.limits.TheConstants.{PORTS}
use Rattle.fx_nums.specs.Fraction.{over}
use Rattle.fx_net.specs.Net.{Net}
use Rattle.fx_net.specs.Run.{row_reads, row_sum, row_time}
use Rattle.fx_code.specs.Code.{Code, bare}
use Rattle.fx_code.specs.Laws.{FlooredRowsRun, HasNumbers}
use Rattle.fx_code.specs.NetRows.{bare_rows, net_row, HoldsCode}
use Rattle.fx_block.specs.Ideal.{ideal}
use Rattle.fx_block.specs.Joint.{joint_step, joint_values}
use Rattle.fx_block.specs.Laws.{IdealIsFloored, JointValuesRun}

-- what a row reads depends on the rows before it alone
same_reads : (net : Net) (q : ℕ) (u : ℕ → ℕ → ℤ) (k i : ℕ) (x y old : ℕ → ℤ) → ((j : ℕ) → j < i → x j ≡ y j) →
    row_reads net q u k i x old ≡ row_reads net q u k i y old
same_reads net q u k i x y old h =
    ap (λ s. s +ℤ total net.rows (λ j. over q (net.old i j) *ℤ old j *ℤ pos (q ^ (net.rows + i - j - 1))) +ℤ
    total PORTS (λ j. over q (net.input i j) *ℤ u k j *ℤ pos (q ^ row_time net k i)))
    (total_ext i _ _ (λ j l. ap (λ v. over q (net.now i j) *ℤ v *ℤ pos (q ^ (i - j - 1))) (h j l)))

plain : (z s : ℤ) → z ≡ s +ℤ (z -ℤ s)
plain z s = omega (arith, ints)

nothing : (z s : ℤ) (n : ℕ) → z ≡ s → 2 * unsigned_abs (z -ℤ s) ≤ n
nothing z s n e = omega (arith, ints, e)

pub room : (net : Net) (p : Code) → HoldsCode net 0 p → length p.rows ≤ net.rows
room net p holds =
    let inside = holds.rows.inside in
    let count = length-map (bare_rows p) net_row ∙ length-map p.rows bare in
    omega (arith, inside, count)

module _ (p : Code) (net : Net) (q : ℕ) (u : ℕ → ℕ → ℤ) where
  value_is : (k i : ℕ) → i < net.rows → joint_values net p q u k i
      ≡ joint_step net p q u k i (joint_values net p q u k) (before (joint_values net p q u) k)
  value_is k i l =
      unrolled_step net.rows (joint_step net p q u)
      (λ k i now later old h same.
      ap (λ r. cond (ltb i (length p.rows)) (ideal p u k i *ℤ pos (q ^ (row_time net k i + 1))) r)
      (same_reads net q u k i now later old same))
      k i l

  code : length p.rows ≤ net.rows → (k i : ℕ) → i < length p.rows →
      joint_values net p q u k i ≡ ideal p u k i *ℤ pos (q ^ (row_time net k i + 1))
  code r k i l = value_is k i (omega (arith, r, l)) ∙ cond-true _ _ _ (lt-ltb i (length p.rows) l)

  others : (k i : ℕ) → length p.rows ≤ i → i < net.rows →
      joint_values net p q u k i ≡ row_sum net q u (joint_values net p q u) k i
  unfolding row_sum
  others k i h l = value_is k i l ∙ cond-false _ _ _ (le-ltb i (length p.rows) h)

  numbers : length p.rows ≤ net.rows → HasNumbers p net 0 q (ideal p u) (joint_values net p q u)
  numbers r k i l =
      let e : i ≡ 0 + i = omega arith in
      subst (λ j. joint_values net p q u k j ≡ ideal p u k i *ℤ pos (q ^ (row_time net k j + 1))) e (code r k i l)

pub joint_values_run : (p : Code) → FlooredRowsRun p → IdealIsFloored p → JointValuesRun p
joint_values_run p floored_run floored net q u whole holds den = record {
  runs = record {
    row = λ k i l. plain (z k i) (row_sum net q u z k i);
    small = λ k i l. small k i l (cases_lt i (length p.rows));
  };
  code = code p net q u fits;
  others = others p net q u;
}
  where
    z : ℕ → ℕ → ℤ
    z = joint_values net p q u

    fits : length p.rows ≤ net.rows
    fits = room net p holds

    small : (k i : ℕ) → i < net.rows → (i < length p.rows) ⊎ (length p.rows ≤ i) →
        2 * unsigned_abs (joint_values net p q u k i -ℤ row_sum net q u (joint_values net p q u) k i) ≤
        net.class i * q ^ (row_time net k i + 1)
    small k i l (inl below) =
        let e : 0 + i ≡ i = omega arith in
        subst (λ j. 2 * unsigned_abs
        (joint_values net p q u k j -ℤ row_sum net q u (joint_values net p q u) k j) ≤ net.class j * q ^
        (row_time net k j + 1)) e
        (floored_run net 0 q u (ideal p u) (joint_values net p q u) whole holds den
        (numbers p net q u (room net p holds)) k i below (floored u k i below))
    small k i l (inr behind) =
        nothing (joint_values net p q u k i) (row_sum net q u (joint_values net p q u) k i)
        (net.class i * q ^ (row_time net k i + 1)) (others p net q u k i behind l)
