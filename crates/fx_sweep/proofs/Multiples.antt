-- Products of a weight with a coefficient: they enclose the exact product, they are in order, and one with 0 is 0.
use Rattle.std.proofs.Common.{◌≡◌, ℕ, ◌*◌, ◌/◌, arith, refl, ap, sym, ◌∙◌, true}
use Rattle.std.proofs.Math.IntN.{ℤ, pos, ◌*ℤ◌, neg_ℤ}
use Rattle.std.specs.Int.Signed.{◌≤ℤ◌}
use Rattle.std.proofs.lemmas.Int.{ints}
use Rattle.fx_math.specs.Division.{floor_div, ceil_div}
use Rattle.fx_math.proofs.Lines.{le_trans, mul_le_back}
use Rattle.fx_math.proofs.Ring.{mul_assoc, mul_comm, mul-le}
use Rattle.fx_nums.specs.Arithmetic.{multiple}
use Rattle.fx_nums.specs.Fraction.{Fraction, den_value, over, IsWholeOver, zero_fraction}
use Rattle.fx_nums.specs.Interval.{Interval, point}
use Rattle.fx_nums.specs.Products.{is_exact, product_down, product_up}
use Rattle.fx_nums.proofs.Denominators.{den_positive}
use Rattle.fx_nums.proofs.ProductLaws.{down_below, up_above, down_exact, up_exact}

pub multiple_ordered : (w : ℤ) (c : Fraction) → (multiple w c).lo ≤ℤ (multiple w c).hi
multiple_ordered w c =
    mul_le_back (multiple w c).lo (multiple w c).hi (den_value c.den) (den_positive c.den)
    (le_trans _ _ _ (down_below w c.num (den_value c.den) (den_positive c.den))
    (up_above w c.num (den_value c.den) (den_positive c.den)))

-- ---- over a common denominator

lo_step : (q m d : ℕ) (w n f : ℤ) → d * m ≡ q → (pos d *ℤ f) ≤ℤ (w *ℤ n) → (pos q *ℤ f) ≤ℤ (w *ℤ (n *ℤ pos m))
lo_step q m d w n f e h =
    let one : pos q *ℤ f ≡ pos m *ℤ (pos d *ℤ f) = ap (λ k. pos k *ℤ f) (omega (arith, e))
    ∙ mul_assoc (pos m) (pos d) f in
    let two : w *ℤ (n *ℤ pos m) ≡ pos m *ℤ (w *ℤ n) = sym (mul_assoc w n (pos m)) ∙ mul_comm (w *ℤ n) (pos m) in
    omega (arith, ints, one, two, mul-le m (pos d *ℤ f) (w *ℤ n) h)

hi_step : (q m d : ℕ) (w n f : ℤ) → d * m ≡ q → (w *ℤ n) ≤ℤ (pos d *ℤ f) → (w *ℤ (n *ℤ pos m)) ≤ℤ (pos q *ℤ f)
hi_step q m d w n f e h =
    let one : pos q *ℤ f ≡ pos m *ℤ (pos d *ℤ f) = ap (λ k. pos k *ℤ f) (omega (arith, e))
    ∙ mul_assoc (pos m) (pos d) f in
    let two : w *ℤ (n *ℤ pos m) ≡ pos m *ℤ (w *ℤ n) = sym (mul_assoc w n (pos m)) ∙ mul_comm (w *ℤ n) (pos m) in
    omega (arith, ints, one, two, mul-le m (w *ℤ n) (pos d *ℤ f) h)

pub multiple_low : (q : ℕ) (w : ℤ) (c : Fraction) → IsWholeOver q c → (pos q *ℤ (multiple w c).lo) ≤ℤ (w *ℤ over q c)
multiple_low q w c e =
    let d : ℕ = den_value c.den in
    lo_step q (q / d) d w c.num (product_down w c.num d) e
    (rw (mul_comm (pos d) (product_down w c.num d)) (down_below w c.num d (den_positive c.den)))

pub multiple_high : (q : ℕ) (w : ℤ) (c : Fraction) → IsWholeOver q c → (w *ℤ over q c) ≤ℤ (pos q *ℤ (multiple w c).hi)
multiple_high q w c e =
    let d : ℕ = den_value c.den in
    hi_step q (q / d) d w c.num (product_up w c.num d) e
    (rw (mul_comm (pos d) (product_up w c.num d)) (up_above w c.num d (den_positive c.den)))

-- ---- products that are 0

exact_zero : (p num : ℤ) → p *ℤ num ≡ pos 0 → is_exact p num ≡ true
exact_zero p num e = rw e refl

down_zero : (p num : ℤ) (d : ℕ) → p *ℤ num ≡ pos 0 → product_down p num d ≡ pos 0
down_zero p num d e =
    down_exact p num d (exact_zero p num e) ∙ ap (λ x. floor_div x d) e ∙ ap pos (omega arith)

up_zero : (p num : ℤ) (d : ℕ) → p *ℤ num ≡ pos 0 → product_up p num d ≡ pos 0
up_zero p num d e =
    up_exact p num d (exact_zero p num e) ∙ ap (λ x. ceil_div x d) e
    ∙ (let none : 0 / d ≡ 0 = omega arith in ap (λ n. neg_ℤ (pos n)) none)

pub ends_are : {a b c d : ℤ} → a ≡ c → b ≡ d → (let x : Interval = record { lo = a; hi = b } in x)
    ≡ record { lo = c; hi = d }
ends_are p q = λ i. record { lo = p i; hi = q i }

pub multiple_nothing : (w : ℤ) (c : Fraction) → w *ℤ c.num ≡ pos 0 → multiple w c ≡ point (pos 0)
multiple_nothing w c e = ends_are (down_zero w c.num (den_value c.den) e) (up_zero w c.num (den_value c.den) e)

pub weight_zero : (w : ℤ) (c : Fraction) → w ≡ pos 0 → multiple w c ≡ point (pos 0)
weight_zero w c e = multiple_nothing w c (ap (λ x. x *ℤ c.num) e ∙ (omega (arith, ints)))

pub coefficient_zero : (w : ℤ) (c : Fraction) → c ≡ zero_fraction → multiple w c ≡ point (pos 0)
coefficient_zero w c e = multiple_nothing w c (ap (λ (x : Fraction). w *ℤ x.num) e ∙ (omega (arith, ints)))
