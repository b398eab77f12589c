-- Bounds that serve make a program exact and near, for all time.
use Rattle.std.proofs.Common.{◌≡◌, ℕ, suc, ◌+◌, ◌*◌, ◌^◌, ◌<◌, ◌≤◌, length, arith, ap, sym, ◌∙◌, subst}
use Rattle.std.proofs.Math.IntN.{ℤ, pos, ◌+ℤ◌, ◌-ℤ◌, ◌*ℤ◌}
use Rattle.std.specs.Int.Signed.{◌≤ℤ◌}
use Rattle.std.specs.Prelude.{unsigned_abs}
use Rattle.std.proofs.lemmas.Int.{unsigned_abs-mul}
use Rattle.std.proofs.Math.Nat.{le_of_mul-le-mul_right, one-le-pow, mul-le-mul_right}
use borrow.Author.Differences.{up, down}
use Rattle.fx_eqs.specs.Denominator.{DividesEach, common}
use Rattle.fx_eqs.specs.Equations.{Equations}
use Rattle.fx_eqs.specs.ExactRun.{exact_value}
use Rattle.fx_eqs.specs.Expanded.{expanded, row_place}
use Rattle.fx_eqs.specs.Laws.{CommonDividesEach}
use Rattle.fx_nums.specs.declared.limits.TheConstants.{SCALE_BITS}
use Rattle.fx_net.specs.Blocks.{block_den, raise}
use Rattle.fx_net.specs.Laws.{ExpandedRowsAgree, RunsEquations}
use Rattle.fx_net.specs.Net.{Net}
use Rattle.fx_net.specs.Run.{IsDenominator, row_time}
use Rattle.fx_net.proofs.Blocked.{to_den}
use Rattle.fx_net.proofs.Positions.{row_inside as place_inside}
use Rattle.fx_code.specs.Code.{Code, IsWhole}
use Rattle.fx_code.specs.Fits.{CodeFits}
use Rattle.fx_code.specs.Joint.{JointCommon}
use Rattle.fx_code.specs.Run.{words}
use Rattle.fx_code.specs.declared.limits.TheConstants.{LONGEST_SHIFT}
use Rattle.fx_sweep.specs.Target.{one, power, start_of}
use Rattle.fx_sweep.specs.declared.target.Target.TheVariants.{Pair}
use Rattle.fx_totals.specs.AllTime.{BoundsHoldForAllTime, ValuesWithin}
use Rattle.fx_totals.specs.Bounds.{target_value}
use Rattle.fx_totals.specs.Laws.{PairTargets}
use Rattle.fx_totals.specs.Totals.{target_total}
use Rattle.fx_block.specs.Ideal.{ideal}
use Rattle.fx_block.specs.Joint.{count_of, joint_values, net_of, original_row, perturbations_of}
use Rattle.fx_block.specs.Laws.{BoundedRowsAreExact, ExpandedRowsAreWithin, HoldsBoth, IsJointRun}
use Rattle.fx_block.specs.Laws.{JointNetsHoldBoth, JointValuesAreExact, JointValuesRun, PairsAreNear}
use Rattle.fx_block.specs.Laws.{RowsAreExact, TotalsServeForAllTime, WordsAreIdeal}
use Rattle.fx_block.proofs.JointRun.{room}
use Rattle.fx_block.proofs.Pairs.{powers_meet, joined, swapped, near_from}

-- ---- rows of the program

pub bounded_rows_are_exact : (p : Code) → BoundsHoldForAllTime → JointValuesRun p → WordsAreIdeal p →
    BoundedRowsAreExact p
bounded_rows_are_exact p serve runs ideal_words net q u lengths bounds rows whole holds den within bounds_hold
    widths k i l =
    let z : ℕ → ℕ → ℤ = joint_values net p q u in
    let run : IsJointRun net p q u z = runs net q u whole holds den in
    let always : ValuesWithin net q rows z =
    serve net q u z (perturbations_of net q u z) lengths bounds rows den run.runs within bounds_hold in
    let fits : length p.rows ≤ net.rows = room net p holds in
    let small : (k i : ℕ) → i < length p.rows → unsigned_abs (ideal p u k i) ≤ rows i =
    λ k i l.
    (let g : 0 < q ^ (row_time net k i + 1) = one-le-pow (row_time net k i + 1) q den.positive in
    let e : unsigned_abs (z k i) ≡ unsigned_abs (ideal p u k i) * q ^ (row_time net k i + 1) =
    ap unsigned_abs (run.code k i l) ∙ unsigned_abs-mul (ideal p u k i) (pos (q ^ (row_time net k i + 1))) in
    let b : unsigned_abs (z k i) ≤ rows i * q ^ (row_time net k i + 1) = always k i (omega (arith, fits, l)) in
    let c : unsigned_abs (ideal p u k i) * q ^ (row_time net k i + 1) ≤ rows i * q ^ (row_time net k i + 1) =
    subst (λ n. n ≤ rows i * q ^ (row_time net k i + 1)) e b in
    le_of_mul-le-mul_right c g) in
    let exact = ideal_words u rows small widths k i l in
    (exact.0, exact.1, subst (λ x. unsigned_abs x ≤ rows i) (sym exact.1) (small k i l))

module _ (p : Code) (fits : CodeFits p) (common_denominator : JointCommon) (divides : CommonDividesEach)
    (hold : JointNetsHoldBoth) (runs : JointValuesRun p) (exact_values : JointValuesAreExact p) where
  -- the denominator of the net of both
  q_of : Equations → ℕ
  q_of eqs = common eqs * 2 ^ LONGEST_SHIFT

  denominator : (eqs : Equations) → IsDenominator (net_of p eqs) (q_of eqs)
  unfolding q_of
  denominator eqs = common_denominator (count_of p eqs) p eqs fits

  both : (eqs : Equations) → HoldsBoth (net_of p eqs) p eqs
  both eqs = hold (count_of p eqs) p eqs (omega arith)

  divided : (eqs : Equations) → DividesEach (common eqs) eqs.terms
  divided eqs = let once : common eqs * 1 ≡ common eqs =
      omega arith in subst (λ g. DividesEach g eqs.terms) once ((divides eqs).1 1)

  values : Equations → (ℕ → ℕ → ℤ) → ℕ → ℕ → ℤ
  values eqs u = joint_values (net_of p eqs) p (q_of eqs) u

  run_of : (eqs : Equations) (u : ℕ → ℕ → ℤ) → IsWhole p →
      IsJointRun (net_of p eqs) p (q_of eqs) u (joint_values (net_of p eqs) p (q_of eqs) u)
  run_of eqs u whole = runs (net_of p eqs) (q_of eqs) u whole (both eqs).code (denominator eqs)

  pub exact_rows : BoundedRowsAreExact p → RowsAreExact p
  exact_rows law eqs u lengths bounds rows whole system b k i l =
      (law (net_of p eqs) (q_of eqs) u lengths bounds rows whole (both eqs).code (denominator eqs)
      b.words_within b.serve b.widths k i l).0

  -- ---- pairs

  pub near_pairs : BoundedRowsAreExact p → TotalsServeForAllTime → PairTargets → PairsAreNear p
  near_pairs law serve value_of eqs u lengths bounds rows whole system b m code i shift e some row equation
      small total k =
      let net : Net = net_of p eqs in
      let q : ℕ = q_of eqs in
      let g : ℕ = common eqs in
      let z : ℕ → ℕ → ℤ = joint_values net p q u in
      let den : IsDenominator net q = denominator eqs in
      let run : IsJointRun net p q u z = run_of eqs u whole in
      let r : ℕ = original_row p eqs i in
      let d : ℕ = block_den net q k in
      let G : ℕ = g ^ (k * eqs.rows + i + 1) in
      let T : ℤ = target_total net (start_of (Pair code r shift)) m bounds rows in
      let code_inside : code < net.rows =
      (let fits : length p.rows ≤ net.rows = room net p (both eqs).code in omega (arith, fits, row)) in
      let row_inside : r < net.rows =
      (let inside : length p.rows + length (expanded eqs) ≤ net.rows = (both eqs).equations.inside in
      let place : row_place eqs i < length (expanded eqs) = place_inside eqs i equation in
      omega (arith, inside, place)) in
      let pair : pos (unsigned_abs (target_value net (Pair code r shift) q z k)) ≤ℤ (pos d *ℤ T) =
      serve net (Pair code r shift) q m u z (perturbations_of net q u z) lengths bounds rows
      (code_inside, row_inside, (λ same. omega (arith, same, row)), small) den run.runs b.words_within b.serve some k in
      let exact = law net q u lengths bounds rows whole (both eqs).code den b.words_within b.serve b.widths k
      code row in
      let word : z k code ≡ words p u k code *ℤ pos (q ^ (row_time net k code + 1)) =
      run.code k code row ∙ ap (λ y. y *ℤ pos (q ^ (row_time net k code + 1))) (sym exact.1) in
      let y : z k code *ℤ pos (raise net q 0 code) ≡ words p u k code *ℤ pos d =
      ap (λ x. x *ℤ pos (raise net q 0 code)) word
      ∙ joined (q ^ (row_time net k code + 1)) (raise net q 0 code) d (words p u k code)
      (to_den net q k k 0 code (omega arith) code_inside) in
      let x : (z k r *ℤ pos (raise net q 0 r)) *ℤ pos G ≡ exact_value eqs g u k i *ℤ pos d =
      swapped (z k r) (exact_value eqs g u k i) (raise net q 0 r) G (q ^ (row_time net k r + 1)) d
      ((exact_values eqs q g u whole system den (divided eqs)).rows k i equation)
      (to_den net q k k 0 r (omega arith) row_inside) in
      near_from (2 ^ SCALE_BITS) d G (2 ^ unsigned_abs (pos SCALE_BITS +ℤ shift)) (2 ^ down shift)
      (2 ^ up shift) (words p u k code) (z k r *ℤ pos (raise net q 0 r)) (exact_value eqs g u k i)
      T e (one-le-pow (suc k * net.rows) q den.positive)
      (subst (λ s. pos (unsigned_abs (one *ℤ s -ℤ power shift *ℤ (z k r *ℤ pos (raise net q 0 r)))) ≤ℤ (pos d *ℤ T)) y
      (subst (λ s. pos (unsigned_abs s) ≤ℤ (pos d *ℤ T)) (value_of net q z k code r shift code_inside row_inside) pair))
      total x (powers_meet shift small)

  -- ---- the rows of the equations

  -- |z| ≤ x a, and z is y at the denominator b: so |y| ≤ x b
  transferred : (z y : ℤ) (a b x : ℕ) → 0 < a → y *ℤ pos a ≡ z *ℤ pos b → unsigned_abs z ≤ x * a →
      unsigned_abs y ≤ x * b
  transferred z y a b x some e h =
      let sizes : unsigned_abs y * a ≡ unsigned_abs z * b =
      sym (unsigned_abs-mul y (pos a)) ∙ ap unsigned_abs e ∙ unsigned_abs-mul z (pos b) in
      let scaled : unsigned_abs z * b ≤ x * a * b = mul-le-mul_right b h in
      let last : unsigned_abs y * a ≤ (x * b) * a = omega (arith, sizes, scaled) in
      le_of_mul-le-mul_right last some

  pub within_rows : BoundsHoldForAllTime → ExpandedRowsAgree → ExpandedRowsAreWithin p
  within_rows serve agree eqs u lengths bounds rows whole system b net at q z other k r l =
      let own : Net = net_of p eqs in
      let s : ℕ = q_of eqs in
      let y : ℕ → ℕ → ℤ = joint_values own p s u in
      let run : IsJointRun own p s u y = run_of eqs u whole in
      let den : IsDenominator own s = denominator eqs in
      let inside : length p.rows + length (expanded eqs) ≤ own.rows = (both eqs).equations.inside in
      let mine : RunsEquations eqs own (length p.rows) s u y = record {
        holds = (both eqs).equations;
        denominator = den;
        unperturbed = λ k r l. run.others k (length p.rows + r) (omega arith) (omega (arith, inside, l));
      } in
      let always : ValuesWithin own s rows y =
      serve own s u y (perturbations_of own s u y) lengths bounds rows den run.runs b.words_within b.serve in
      transferred (y k (length p.rows + r)) (z k (at + r)) (s ^ (row_time own k (length p.rows + r) + 1))
      (q ^ (row_time net k (at + r) + 1)) (rows (length p.rows + r))
      (one-le-pow (row_time own k (length p.rows + r) + 1) s den.positive)
      (sym (agree eqs own net (length p.rows) at s q u y z system mine other k r l))
      (always k (length p.rows + r) (omega (arith, inside, l)))
