-- A word near an exact value.
use Rattle.std.proofs.Common.{◌≡◌, ℕ, ◌+◌, ◌*◌, ◌^◌, ◌<◌, ◌≤◌, arith, refl, ap, ap₂, sym, ◌∙◌}
use Rattle.std.proofs.Math.IntN.{ℤ, pos, negsuc, ◌+ℤ◌, ◌-ℤ◌, ◌*ℤ◌, neg_ℤ}
use Rattle.std.specs.Int.Signed.{◌≤ℤ◌}
use Rattle.std.specs.Prelude.{unsigned_abs}
use Rattle.std.proofs.lemmas.Int.{ints, unsigned_abs-mul}
use Rattle.std.proofs.lemmas.Nat.{pow-add}
use borrow.Author.Differences.{up, down}
use Rattle.fx_math.proofs.Ring.{mul-add, add-mul, mul-neg, neg-mul, mul_comm, mul_assoc, mul-le, mul-le-back}
use Rattle.fx_nums.specs.declared.limits.TheConstants.{SCALE_BITS}

-- ---- the powers of two on both sides

pub powers_meet : (shift : ℤ) → unsigned_abs shift ≤ 16 →
    2 ^ unsigned_abs (pos SCALE_BITS +ℤ shift) * 2 ^ down shift ≡ 2 ^ SCALE_BITS * 2 ^ up shift
powers_meet shift h =
    sym (pow-add 2 (unsigned_abs (pos SCALE_BITS +ℤ shift)) (down shift))
    ∙ (let e : unsigned_abs (pos SCALE_BITS +ℤ shift) + down shift ≡ SCALE_BITS + up shift =
    exponents shift h in ap (λ n. 2 ^ n) e)
    ∙ pow-add 2 SCALE_BITS (up shift)
  where
    exponents : (s : ℤ) → unsigned_abs s ≤ 16 → unsigned_abs (pos SCALE_BITS +ℤ s) + down s ≡ SCALE_BITS + up s
    exponents (pos n) l = omega (arith, ints)
    exponents (negsuc n) l = omega (arith, ints)

-- ---- natural factors gathered at the right

pub right : (n m k : ℕ) (y : ℤ) → n * m ≡ k → pos n *ℤ (y *ℤ pos m) ≡ y *ℤ pos k
right n m k y e = mul_comm (pos n) (y *ℤ pos m) ∙ mul_assoc y (pos m) (pos n)
    ∙ ap (λ x. y *ℤ pos x) (let f : m * n ≡ k = omega (arith, e) in f)

pub joined : (m n k : ℕ) (y : ℤ) → m * n ≡ k → (y *ℤ pos m) *ℤ pos n ≡ y *ℤ pos k
joined m n k y e = mul_assoc y (pos m) (pos n) ∙ ap (λ x. y *ℤ pos x) e

pub swapped : (z x : ℤ) (a g t d : ℕ) → z *ℤ pos g ≡ x *ℤ pos t → t * a ≡ d → (z *ℤ pos a) *ℤ pos g ≡ x *ℤ pos d
swapped z x a g t d e f = joined a g (a * g) z refl ∙ sym (joined g a (a * g) z (omega arith))
    ∙ ap (λ y. y *ℤ pos a) e ∙ joined t a d x f

first_part : (w d c : ℕ) (y : ℤ) → (pos w *ℤ (y *ℤ pos d)) *ℤ pos c ≡ (pos w *ℤ pos d) *ℤ (y *ℤ pos c)
first_part w d c y =
    ap (λ x. x *ℤ pos c) (right w d (w * d) y refl) ∙ joined (w * d) c (w * d * c) y refl
    ∙ sym (right (w * d) c (w * d * c) y refl)

second_part : (w d g f a b : ℕ) (v x : ℤ) → v *ℤ pos g ≡ x *ℤ pos d → f * a ≡ w * b →
    (pos f *ℤ v) *ℤ pos (g * a) ≡ (pos w *ℤ pos d) *ℤ (x *ℤ pos b)
second_part w d g f a b v x ev ef =
    ap (λ y. y *ℤ pos (g * a)) (mul_comm (pos f) v) ∙ joined f (g * a) (g * (f * a)) v (omega arith)
    ∙ sym (joined g (f * a) (g * (f * a)) v refl) ∙ ap (λ y. y *ℤ pos (f * a)) ev ∙ ap (λ n. (x *ℤ pos d) *ℤ pos n) ef
    ∙ joined d (w * b) (w * d * b) x (omega arith) ∙ sym (right (w * d) b (w * d * b) x refl)

-- ---- near

-- w y - f v at the denominator d is at most t, and v is x over g: so y is near x
pub near_from : (w d g f a b : ℕ) (y v x t e : ℤ) → 0 < d →
    pos (unsigned_abs (pos w *ℤ (y *ℤ pos d) -ℤ pos f *ℤ v)) ≤ℤ (pos d *ℤ t) → t ≤ℤ e →
    v *ℤ pos g ≡ x *ℤ pos d → f * a ≡ w * b →
    pos (w * unsigned_abs (y *ℤ pos (g * a) -ℤ x *ℤ pos b)) ≤ℤ (e *ℤ pos (g * a))
near_from w d g f a b y v x t e h k l ev ef =
    let split : (pos w *ℤ (y *ℤ pos d) -ℤ pos f *ℤ v) *ℤ pos (g * a)
    ≡ (pos w *ℤ pos d) *ℤ (y *ℤ pos (g * a) -ℤ x *ℤ pos b) =
    add-mul (pos w *ℤ (y *ℤ pos d)) (neg_ℤ (pos f *ℤ v)) (pos (g * a))
    ∙ ap₂ (λ s r. s +ℤ r) (first_part w d (g * a) y) (neg-mul (pos f *ℤ v) (pos (g * a))
    ∙ ap neg_ℤ (second_part w d g f a b v x ev ef) ∙ sym (mul-neg (pos w *ℤ pos d) (x *ℤ pos b)))
    ∙ sym (mul-add (pos w *ℤ pos d) (y *ℤ pos (g * a)) (neg_ℤ (x *ℤ pos b))) in
    let sizes : unsigned_abs (pos w *ℤ (y *ℤ pos d) -ℤ pos f *ℤ v) * (g * a)
    ≡ (w * d) * unsigned_abs (y *ℤ pos (g * a) -ℤ x *ℤ pos b) =
    sym (unsigned_abs-mul (pos w *ℤ (y *ℤ pos d) -ℤ pos f *ℤ v) (pos (g * a))) ∙ ap unsigned_abs split
    ∙ unsigned_abs-mul (pos w *ℤ pos d) (y *ℤ pos (g * a) -ℤ x *ℤ pos b) in
    let bound : (pos (g * a) *ℤ pos (unsigned_abs (pos w *ℤ (y *ℤ pos d) -ℤ pos f *ℤ v))) ≤ℤ
    (pos (g * a) *ℤ (pos d *ℤ t)) =
    mul-le (g * a) (pos (unsigned_abs (pos w *ℤ (y *ℤ pos d) -ℤ pos f *ℤ v))) (pos d *ℤ t) k in
    let higher : (pos (g * a) *ℤ (pos d *ℤ t)) ≤ℤ (pos (g * a) *ℤ (pos d *ℤ e)) =
    mul-le (g * a) (pos d *ℤ t) (pos d *ℤ e) (mul-le d t e l) in
    let turned : pos (g * a) *ℤ (pos d *ℤ e) ≡ pos d *ℤ (e *ℤ pos (g * a)) =
    mul_comm (pos (g * a)) (pos d *ℤ e) ∙ mul_assoc (pos d) e (pos (g * a)) in
    mul-le-back d (pos (w * unsigned_abs (y *ℤ pos (g * a) -ℤ x *ℤ pos b))) (e *ℤ pos (g * a)) h
    (omega (arith, ints, sizes, bound, higher, turned))
