-- The sums of the greatest and of the least products, as upper ends of a block and of the block with all signs turned.
use Rattle.std.proofs.Common.{◌≡◌, ℕ, zero, suc, ◌<◌, arith, refl, ◌∙◌}
use Rattle.std.proofs.Math.IntN.{ℤ, pos, ◌+ℤ◌, ◌-ℤ◌, ◌*ℤ◌, neg_ℤ}
use Rattle.std.specs.Int.Signed.{◌≤ℤ◌}
use Rattle.std.proofs.lemmas.Int.{ints, clamps}
use Rattle.fx_math.specs.Sums.{total}
use Rattle.fx_math.specs.Unroll.{lagged}
use Rattle.fx_math.proofs.Ring.{mul-add, mul-neg}
use Rattle.fx_math.proofs.Sums.{total_ext}
use Rattle.fx_eqs.specs.declared.limits.TheConstants.{PORTS}
use Rattle.fx_nums.specs.Interval.{Interval, point}
use Rattle.fx_net.specs.Net.{Net}
use Rattle.fx_sweep.specs.Weights.{inputs}
use Rattle.fx_sweep.proofs.Ordered.{inputs_ordered}
use Rattle.fx_sweep.proofs.Sides.{upper, upper_point, upper_is_greater}
use Rattle.fx_totals.specs.Bounds.{least_product, greatest_product, least_sum, greatest_sum}
use Rattle.fx_totals.proofs.BlockLaw.{uppers_at}
use Rattle.fx_totals.proofs.Negated.{turned}

pub greatest_is : (net : Net) (start : ℕ → Interval) (m k : ℕ) (u : ℕ → ℕ → ℤ) →
    total m (uppers_at net start (lagged u k)) ≡ greatest_sum net start m k u
greatest_is net start m k u =
    total_ext m (uppers_at net start (lagged u k)) (λ n.
    total PORTS (λ j. greatest_product (inputs net start n j) (lagged u k n j)))
    (λ n l. total_ext PORTS (λ j. upper (inputs net start n j) (lagged u k n j)) (λ j.
    greatest_product (inputs net start n j) (lagged u k n j))
    (λ j h. upper_is_greater (inputs net start n j) (lagged u k n j) (inputs_ordered net start n j)))

pub total_minus : (n : ℕ) (f g : ℕ → ℤ) → ((i : ℕ) → i < n → f i ≡ neg_ℤ (g i)) → total n f ≡ neg_ℤ (total n g)
total_minus zero f g h = refl
total_minus (suc n) f g h =
    let below : total n f ≡ neg_ℤ (total n g) = total_minus n f g (λ i l. h i (omega arith)) in
    let here : f n ≡ neg_ℤ (g n) = h n (omega arith) in
    omega (arith, ints, below, here)

least_turned : (a : Interval) (u : ℤ) → a.lo ≤ℤ a.hi → upper a (neg_ℤ u) ≡ neg_ℤ (least_product a u)
least_turned a u h =
    let e : upper a (neg_ℤ u) ≡ greatest_product a (neg_ℤ u) = upper_is_greater a (neg_ℤ u) h in
    let low : a.lo *ℤ neg_ℤ u ≡ neg_ℤ (a.lo *ℤ u) = mul-neg a.lo u in
    let high : a.hi *ℤ neg_ℤ u ≡ neg_ℤ (a.hi *ℤ u) = mul-neg a.hi u in
    e ∙ omega (arith, ints, clamps, low, high)

pub least_is : (net : Net) (start : ℕ → Interval) (m k : ℕ) (u : ℕ → ℕ → ℤ) →
    total m (uppers_at net start (turned (lagged u k))) ≡ neg_ℤ (least_sum net start m k u)
least_is net start m k u =
    total_minus m (uppers_at net start (turned (lagged u k))) (λ n.
    total PORTS (λ j. least_product (inputs net start n j) (lagged u k n j)))
    (λ n l. total_minus PORTS (λ j. upper (inputs net start n j) (neg_ℤ (lagged u k n j))) (λ j.
    least_product (inputs net start n j) (lagged u k n j))
    (λ j h. least_turned (inputs net start n j) (lagged u k n j) (inputs_ordered net start n j)))

pub points_sum : (n : ℕ) (w x : ℕ → ℤ) → total n (λ j. upper (point (w j)) (x j)) ≡ total n (λ j. w j *ℤ x j)
points_sum n w x = total_ext n (λ j. upper (point (w j)) (x j)) (λ j. w j *ℤ x j) (λ j l. upper_point (w j) (x j))

pub other_side : (d : ℕ) (t l s : ℤ) → neg_ℤ t ≤ℤ (pos d *ℤ (neg_ℤ l +ℤ s)) → (pos d *ℤ (l -ℤ s)) ≤ℤ t
other_side d t l s h =
    omega (
      arith,
      ints,
      h,
      mul-add (pos d) (neg_ℤ l) s,
      mul-neg (pos d) l,
      mul-add (pos d) l (neg_ℤ s),
      mul-neg (pos d) s,
    )
