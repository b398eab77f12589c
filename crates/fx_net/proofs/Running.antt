-- Rows that have just what they read make a run.
use Rattle.std.proofs.Common.{◌≡◌, ℕ, zero, suc, ◌+◌, ◌-◌, ◌^◌, ◌<◌, ◌≤◌, arith, refl, sym, ap, ◌∙◌}
use Rattle.std.proofs.Math.IntN.{ℤ, pos, ◌+ℤ◌, ◌*ℤ◌}
use Rattle.std.proofs.lemmas.Int.{ints}
use mathlib.Core.Path.{fun_ext}
use Rattle.fx_math.specs.Sums.{total}
use Rattle.fx_math.specs.Unroll.{fill, last, before}
use Rattle.fx_math.proofs.Sums.{total_ext}
use Rattle.fx_math.proofs.Unroll.{fill_at}
use Rattle.fx_eqs.specs.declared.limits.TheConstants.{PORTS}
use Rattle.fx_nums.specs.Fraction.{over}
use Rattle.fx_net.specs.Net.{Net}
use Rattle.fx_net.specs.Run.{row_reads, row_sum, row_time}
use Rattle.fx_net.specs.Running.{EachNetHasARun, run_of}

-- a row that was filled stays
fill_stays : (f : ℕ → (ℕ → ℤ) → ℤ) (i n j : ℕ) → j < i → i ≤ n → fill f n j ≡ fill f i j
fill_stays f i n j h l = fill_at f n j (omega arith) ∙ sym (fill_at f i j h)

-- what a row reads depends on the rows before it alone
same_reads : (net : Net) (q : ℕ) (u : ℕ → ℕ → ℤ) (k i : ℕ) (x y old : ℕ → ℤ) → ((j : ℕ) → j < i → x j ≡ y j) →
    row_reads net q u k i x old ≡ row_reads net q u k i y old
same_reads net q u k i x y old h =
    ap (λ s. s +ℤ total net.rows (λ j. over q (net.old i j) *ℤ old j *ℤ pos (q ^ (net.rows + i - j - 1))) +ℤ
    total PORTS (λ j. over q (net.input i j) *ℤ u k j *ℤ pos (q ^ row_time net k i)))
    (total_ext i _ _ (λ j l. ap (λ v. over q (net.now i j) *ℤ v *ℤ pos (q ^ (i - j - 1))) (h j l)))

-- the moment before
same_before : (net : Net) (q : ℕ) (u : ℕ → ℕ → ℤ) (k : ℕ) →
    last net.rows (row_reads net q u) k ≡ before (run_of net q u) k
same_before net q u zero = fun_ext (λ j. refl)
same_before net q u (suc k) = fun_ext (λ j. refl)

row_is : (net : Net) (q : ℕ) (u : ℕ → ℕ → ℤ) (k i : ℕ) → i < net.rows →
    run_of net q u k i ≡ row_sum net q u (run_of net q u) k i
unfolding row_sum
row_is net q u k i h =
    let f : ℕ → (ℕ → ℤ) → ℤ = λ i now. row_reads net q u k i now (last net.rows (row_reads net q u) k) in
    fill_at f net.rows i h
    ∙ same_reads net q u k i (fill f i) (fill f net.rows) (last net.rows (row_reads net q u) k) (λ j l.
    sym (fill_stays f i net.rows j l (omega (arith, h))))
    ∙ ap (row_reads net q u k i (run_of net q u k)) (same_before net q u k)

pub each_net_has_a_run : EachNetHasARun
each_net_has_a_run net q u = record {
  row = λ k i h. row_is net q u k i h
      ∙ (let e : row_sum net q u (run_of net q u) k i +ℤ pos 0 ≡ row_sum net q u (run_of net q u) k i =
      omega (arith, ints) in sym e);
  small = λ k i h. omega arith;
}
