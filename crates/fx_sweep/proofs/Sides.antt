-- The upper end of the products of a number with those of an interval.
use Rattle.std.proofs.Common.{◌≡◌, ℕ, zero, suc, ◌*◌, arith, ap, sym, ◌∙◌}
use Rattle.std.proofs.Math.IntN.{ℤ, pos, negsuc, ◌+ℤ◌, ◌-ℤ◌, ◌*ℤ◌, neg_ℤ}
use Rattle.std.specs.Int.Signed.{◌≤ℤ◌}
use Rattle.std.specs.Int.{int_max}
use Rattle.std.proofs.lemmas.Int.{ints, clamps}
use borrow.Author.Differences.{up, down, neg_is}
use Rattle.fx_math.specs.Sums.{total}
use Rattle.fx_math.proofs.Ring.{mul-add, add-mul, mul_assoc, mul_comm, mul-neg, mul-le}
use Rattle.fx_math.proofs.Sums.{total_ext, total_swap}
use Rattle.fx_nums.specs.Interval.{Interval, plus, point}
use Rattle.fx_sweep.specs.Weights.{sum_of}

-- linear in the interval, as the sign of v picks the end
abbrev pub upper : Interval → ℤ → ℤ
upper a v = a.hi *ℤ pos (up v) -ℤ a.lo *ℤ pos (down v)

pub upper_plus : (a b : Interval) (v : ℤ) → upper (plus a b) v ≡ upper a v +ℤ upper b v
upper_plus a b v = omega (arith, ints, add-mul a.hi b.hi (pos (up v)), add-mul a.lo b.lo (pos (down v)))

pub upper_point : (w v : ℤ) → upper (point w) v ≡ w *ℤ v
upper_point w v = omega (arith, ints)

-- the low end's product, and the width at v where v is positive
pub upper_split : (a : Interval) (v : ℤ) → upper a v ≡ a.lo *ℤ v +ℤ (a.hi -ℤ a.lo) *ℤ pos (up v)
upper_split a v =
    omega (
      arith,
      ints,
      add-mul a.hi (neg_ℤ a.lo) (pos (up v)),
      ap (λ n. n * up v) (neg_is a.lo).0,
      ap (λ n. n * up v) (neg_is a.lo).1,
    )

turn : (a b c : ℤ) → a *ℤ (b *ℤ c) ≡ c *ℤ (a *ℤ b)
turn a b c = sym (mul_assoc a b c) ∙ mul_comm (a *ℤ b) c

-- what lies between f and g times q lies there at each v
pub between_ends : (q : ℕ) (a f g v : ℤ) → (pos q *ℤ f) ≤ℤ a → a ≤ℤ (pos q *ℤ g) →
    (a *ℤ v) ≤ℤ (pos q *ℤ upper (record { lo = f; hi = g }) v)
between_ends q a f g v lo hi =
    let high : (pos (up v) *ℤ a) ≤ℤ (pos (up v) *ℤ (pos q *ℤ g)) = mul-le (up v) a (pos q *ℤ g) hi in
    let low : (pos (down v) *ℤ (pos q *ℤ f)) ≤ℤ (pos (down v) *ℤ a) = mul-le (down v) (pos q *ℤ f) a lo in
    let e : pos q *ℤ (g *ℤ pos (up v) -ℤ f *ℤ pos (down v))
    ≡ pos (up v) *ℤ (pos q *ℤ g) -ℤ pos (down v) *ℤ (pos q *ℤ f) =
    omega (
      arith,
      ints,
      mul-add (pos q) (g *ℤ pos (up v)) (neg_ℤ (f *ℤ pos (down v))),
      mul-neg (pos q) (f *ℤ pos (down v)),
      turn (pos q) g (pos (up v)),
      turn (pos q) f (pos (down v)),
    ) in
    omega (arith, ints, high, low, e)

-- it is the greater of the products with the two ends
pub upper_is_greater : (a : Interval) (u : ℤ) → a.lo ≤ℤ a.hi → upper a u ≡ int_max (a.lo *ℤ u) (a.hi *ℤ u)
upper_is_greater a (pos n) h = omega (arith, ints, clamps, mul-le n a.lo a.hi h)
upper_is_greater a (negsuc n) h = omega (arith, ints, clamps, mul-le (suc n) a.lo a.hi h)

pub upper_nothing : (a : Interval) (v : ℤ) → v ≡ pos 0 → upper a v ≡ pos 0
upper_nothing a v e = ap (upper a) e ∙ omega (arith, ints)

pub factor_out : (d : ℕ) (w : ℤ) (x : ℕ) → w *ℤ pos (x * d) ≡ pos d *ℤ (w *ℤ pos x)
factor_out d w x = sym (mul_assoc w (pos x) (pos d)) ∙ mul_comm (w *ℤ pos x) (pos d)

pub upper_scaled : (d : ℕ) (a : Interval) (u : ℤ) → upper a (u *ℤ pos d) ≡ pos d *ℤ upper a u
upper_scaled d a u =
    let hi : a.hi *ℤ pos (up (u *ℤ pos d)) ≡ pos d *ℤ (a.hi *ℤ pos (up u)) =
    ap (λ n. a.hi *ℤ pos n) (let e : up (u *ℤ pos d) ≡ up u * d = omega (arith, ints) in e)
    ∙ factor_out d a.hi (up u) in
    let lo : a.lo *ℤ pos (down (u *ℤ pos d)) ≡ pos d *ℤ (a.lo *ℤ pos (down u)) =
    ap (λ n. a.lo *ℤ pos n) (let e : down (u *ℤ pos d) ≡ down u * d = omega (arith, ints) in e)
    ∙ factor_out d a.lo (down u) in
    omega (
      arith,
      ints,
      hi,
      lo,
      mul-add (pos d) (a.hi *ℤ pos (up u)) (neg_ℤ (a.lo *ℤ pos (down u))),
      mul-neg (pos d) (a.lo *ℤ pos (down u)),
    )

-- ---- sums of intervals

pub upper_sum : (n : ℕ) (f : ℕ → Interval) (v : ℤ) → total n (λ i. upper (f i) v) ≡ upper (sum_of n f) v
upper_sum zero f v = omega (arith, ints)
upper_sum (suc n) f v = ap (λ x. x +ℤ upper (f n) v) (upper_sum n f v) ∙ sym (upper_plus (sum_of n f) (f n) v)

-- a table of intervals, row by row or column by column
pub uppers_gather : (n m : ℕ) (f : ℕ → ℕ → Interval) (x : ℕ → ℤ) →
    total n (λ i. total m (λ j. upper (f i j) (x j))) ≡ total m (λ j. upper (sum_of n (λ i. f i j)) (x j))
uppers_gather n m f x =
    total_swap n m (λ i j. upper (f i j) (x j))
    ∙ total_ext m (λ j. total n (λ i. upper (f i j) (x j))) (λ j. upper (sum_of n (λ i. f i j)) (x j)) (λ j l.
    upper_sum n (λ i. f i j) (x j))
