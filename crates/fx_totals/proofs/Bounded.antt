-- What the bounds of a run say of the block that ends at a moment, and both sides of its target.
use Rattle.std.proofs.Common.{◌≡◌, ◌⊎◌, ℕ, zero, suc, ◌+◌, ◌*◌, ◌^◌, ◌<◌, ◌≤◌, arith, refl, ap, ◌∙◌, subst, inl, inr}
use Rattle.std.proofs.Math.IntN.{ℤ, pos, ◌+ℤ◌, ◌-ℤ◌, ◌*ℤ◌, neg_ℤ}
use Rattle.std.specs.Int.Signed.{◌≤ℤ◌}
use Rattle.std.specs.Prelude.{unsigned_abs}
use Rattle.std.proofs.lemmas.Int.{ints}
use Rattle.std.proofs.lemmas.Bool.{cases_lt}
use Rattle.fx_math.specs.Sums.{total}
use Rattle.fx_math.specs.Unroll.{lagged}
use Rattle.fx_math.proofs.Ring.{mul_comm}
use Rattle.fx_nums.specs.Arithmetic.{width}
use Rattle.fx_net.specs.Blocks.{RunsAreBlocks, BoundsAreRaised, block_den, raise, raised}
use Rattle.fx_net.specs.Net.{Net}
use Rattle.fx_net.specs.Run.{IsDenominator, IsRun, row_time}
use Rattle.fx_sweep.specs.Target.{TargetFits, start_of, weights}
use Rattle.fx_sweep.specs.Weights.{settled}
use Rattle.fx_sweep.specs.declared.target.Target.{Target}
use Rattle.fx_sweep.specs.declared.target.Target.TheVariants.{Row, Pair}
use Rattle.fx_totals.specs.Bounds.{IsWithin, IsBounded, NeedsBound, least_sum, greatest_sum, slack, target_value}
use Rattle.fx_totals.specs.Laws.{TargetsLieBetween}
use Rattle.fx_totals.proofs.BlockLaw.{InBounds, uppers_at}
use Rattle.fx_totals.proofs.Negated.{turned, total_turned, abs_turned, block_turned, bounds_turned}
use Rattle.fx_totals.proofs.OneSide.{UpperSide, upper_side}
use Rattle.fx_totals.proofs.Starts.{starts_are_points}
use Rattle.fx_totals.proofs.TwoSides.{greatest_is, least_is, points_sum, other_side}

pub lagged_past : (f : ℕ → ℕ → ℤ) (k n i : ℕ) → k < n → lagged f k n i ≡ pos 0
lagged_past f k zero i h = absurd (omega arith)
lagged_past f zero (suc n) i h = refl
lagged_past f (suc k) (suc n) i h = lagged_past f k n i (omega arith)

pub raised_past : (net : Net) (q : ℕ) (z : ℕ → ℕ → ℤ) (k n i : ℕ) → k < n → raised net q z k n i ≡ pos 0
raised_past net q z k n i h =
    ap (λ x. x *ℤ pos (raise net q n i)) (lagged_past z k n i h) ∙ mul_comm (pos 0) (pos (raise net q n i))
    ∙ omega (arith, ints)

-- at the last moment a row has its bound, or nothing is cut off it
needed : (net : Net) (target : Target) → TargetFits net.rows target → (i : ℕ) →
    NeedsBound target i ⊎ (width (settled net (start_of target) 0 i) ≡ pos 0)
needed net (Row t) fits i = elim (cases_lt i t) [ inl l ↦ inl l | inr l ↦ inr (starts_are_points net t fits i l) ]
needed net (Pair code original shift) fits i = inl tt

module _ (net : Net) (target : Target) (q m k : ℕ) (u z p : ℕ → ℕ → ℤ) (bounds rows : ℕ → ℕ)
    (blocks : RunsAreBlocks) (raises : BoundsAreRaised) (fits : TargetFits net.rows target) (den : IsDenominator net q)
    (run : IsRun net q u z p) (some : 0 < m) (known : IsBounded net target q m k u z bounds rows) where
  value_within : (n i : ℕ) → i < net.rows → ((h : ℕ) → k ≡ h + n → IsWithin net q z h i (rows i)) →
      unsigned_abs (raised net q z k n i) ≤ rows i * block_den net q k
  value_within n i l b =
      let once : 1 * unsigned_abs (raised net q z k n i) ≤ rows i * block_den net q k =
      raises net q 1 (rows i) z k n i l (λ h e.
      let c : unsigned_abs (z h i) ≤ rows i * q ^ (row_time net h i + 1) = b h e in omega (arith, c)) in
      omega (arith, once)

  last_within : (i : ℕ) → i < net.rows → NeedsBound target i →
      unsigned_abs (raised net q z k 0 i) ≤ rows i * block_den net q k
  last_within i l n = value_within 0 i l (λ h e. subst (λ x. IsWithin net q z x i (rows i)) (let f : k ≡ h =
      omega (arith, e) in f) (known.at_last i l n))

  earlier_within : (n i : ℕ) → 0 < n → n ≤ m → i < net.rows →
      unsigned_abs (raised net q z k n i) ≤ rows i * block_den net q k
  earlier_within n i a b l = value_within n i l (λ h e. known.before h n i e a b l)

  known_in_block : InBounds net (start_of target) m (block_den net q k) (raised net q z k) (raised net q p k) rows
  known_in_block = record {
    small = λ n i l r. raises net q 2 (net.class i) p k n i r (λ h e. run.small h i r);
    values = values;
    ordered = λ j. omega (arith, ints);
  }
    where
      values : (n i : ℕ) → n < m → i < net.rows →
          (width (settled net (start_of target) n i) ≡ pos 0) ⊎
          (unsigned_abs (raised net q z k n i) ≤ rows i * block_den net q k)
      values zero i l r = elim (needed net target fits i) [ inl n ↦ inr (last_within i r n) | inr e ↦ inl e ]
      values (suc n) i l r = inr (earlier_within (suc n) i (omega arith) (omega arith) r)

  upper_of_block : UpperSide net (start_of target) m k (block_den net q k) (raised net q z k) (lagged u k) rows
  upper_of_block =
      upper_side net q (block_den net q k) (raised net q z k) (lagged u k) (raised net q p k) den
      (blocks net q u z p run k) (start_of target) m k rows known_in_block
      (λ i l. earlier_within m i some (omega arith) l) (λ b i l. raised_past net q z k m i b)

  upper_of_turned : UpperSide net (start_of target) m k (block_den net q k) (turned (raised net q z k))
      (turned (lagged u k)) rows
  upper_of_turned =
      upper_side net q (block_den net q k) (turned (raised net q z k)) (turned (lagged u k))
      (turned (raised net q p k)) den
      (block_turned net q (block_den net q k) (raised net q z k) (lagged u k) (raised net q p k)
      (blocks net q u z p run k)) (start_of target) m k rows
      (bounds_turned net (start_of target) m (block_den net q k) (raised net q z k) (raised net q p k) rows
      known_in_block)
      (λ i l. rw abs_turned (earlier_within m i some (omega arith) l)) (λ b i l. ap neg_ℤ (raised_past net q z k m i b))

  greatest_side : target_value net target q z k ≤ℤ
      (pos (block_den net q k) *ℤ
      (greatest_sum net (start_of target) m k u +ℤ slack net (start_of target) m k rows))
  greatest_side =
      subst (λ x. target_value net target q z k ≤ℤ
      (pos (block_den net q k) *ℤ (x +ℤ slack net (start_of target) m k rows)))
      (greatest_is net (start_of target) m k u)
      (subst (λ x. x ≤ℤ (pos (block_den net q k) *ℤ
      (total m (uppers_at net (start_of target) (lagged u k)) +ℤ slack net (start_of target) m k rows)))
      (points_sum net.rows (weights target) (raised net q z k 0))
      upper_of_block)

  least_side : (pos (block_den net q k) *ℤ
      (least_sum net (start_of target) m k u -ℤ slack net (start_of target) m k rows)) ≤ℤ target_value net target
      q z k
  least_side =
      other_side (block_den net q k) (target_value net target q z k) (least_sum net (start_of target) m k u)
      (slack net (start_of target) m k rows)
      (subst (λ x. neg_ℤ (target_value net target q z k) ≤ℤ
      (pos (block_den net q k) *ℤ (x +ℤ slack net (start_of target) m k rows)))
      (least_is net (start_of target) m k u)
      (subst (λ x. x ≤ℤ (pos (block_den net q k) *ℤ
      (total m (uppers_at net (start_of target) (turned (lagged u k))) +ℤ slack net (start_of target) m k
      rows)))
      (points_sum net.rows (weights target) (λ i. neg_ℤ (raised net q z k 0 i))
      ∙ total_turned net.rows (weights target) (raised net q z k 0))
      upper_of_turned))

pub targets_lie_between : RunsAreBlocks → BoundsAreRaised → TargetsLieBetween
targets_lie_between blocks raises net target q m k u z p bounds rows fits den run some known = record {
  least = least_side net target q m k u z p bounds rows blocks raises fits den run some known;
  greatest = greatest_side net target q m k u z p bounds rows blocks raises fits den run some known;
}
