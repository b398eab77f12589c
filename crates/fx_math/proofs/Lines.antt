-- Inequalities between products of whole numbers, and the lesser and the greater of two.
use Rattle.std.proofs.Common.{◌≡◌, ℕ, suc, ◌+◌, ◌*◌, ◌<◌, ◌≤◌, sym, ◌∙◌, arith, ap, ℤ, pos, negsuc, ◌*ℤ◌, ◌≤ℤ◌}
use Rattle.std.proofs.Common.{unsigned_abs}
use Rattle.std.specs.Int.{int_min, int_max}
use Rattle.std.proofs.Math.Nat.{mul-le-mul_right}
use Rattle.std.proofs.lemmas.Int.{ints, clamps}
use borrow.Author.Differences.{le_out}
use Rattle.fx_math.proofs.Ring.{mul_assoc, mul_comm, mul-le-back}
use Rattle.fx_math.proofs.Division.{mul_le_nat}

pub le_trans : (a b c : ℤ) → a ≤ℤ b → b ≤ℤ c → a ≤ℤ c
le_trans a b c h k = omega (arith, ints)

-- a positive factor is cancelled
pub mul_le_back : (a b : ℤ) (k : ℕ) → 0 < k → (a *ℤ pos k) ≤ℤ (b *ℤ pos k) → a ≤ℤ b
mul_le_back a b k h e = mul-le-back k a b h (rw (mul_comm (pos k) a, mul_comm (pos k) b) e)

-- factors change places
pub swapped : (a b c : ℤ) → a *ℤ b *ℤ c ≡ a *ℤ c *ℤ b
swapped a b c = mul_assoc a b c ∙ ap (λ x. a *ℤ x) (mul_comm b c) ∙ sym (mul_assoc a c b)

pub split_factor : (a : ℤ) (m n : ℕ) → a *ℤ pos (m * n) ≡ a *ℤ pos n *ℤ pos m
split_factor a m n = sym (mul_assoc a (pos m) (pos n)) ∙ swapped a (pos m) (pos n)

-- what is at most the products at both ends is at most the product between them
pub line_low : (l x h c t : ℤ) → l ≤ℤ x → x ≤ℤ h → t ≤ℤ (l *ℤ c) → t ≤ℤ (h *ℤ c) → t ≤ℤ (x *ℤ c)
line_low l x h (pos n) t a b p q = omega (arith, ints, mul-le-mul_right n (le_out l x a))
line_low l x h (negsuc n) t a b p q = omega (arith, ints, mul-le-mul_right (suc n) (le_out x h b))

pub line_high : (l x h c t : ℤ) → l ≤ℤ x → x ≤ℤ h → (l *ℤ c) ≤ℤ t → (h *ℤ c) ≤ℤ t → (x *ℤ c) ≤ℤ t
line_high l x h (pos n) t a b p q = omega (arith, ints, mul-le-mul_right n (le_out x h b))
line_high l x h (negsuc n) t a b p q = omega (arith, ints, mul-le-mul_right (suc n) (le_out l x a))

-- the same of two factors that lie between ends
pub corners_low : (l x h m y k t : ℤ) → l ≤ℤ x → x ≤ℤ h → m ≤ℤ y → y ≤ℤ k → t ≤ℤ (l *ℤ m) → t ≤ℤ (l *ℤ k) →
    t ≤ℤ (h *ℤ m) → t ≤ℤ (h *ℤ k) → t ≤ℤ (x *ℤ y)
corners_low l x h m y k t a b c d p q r s =
    line_low l x h y t a b
    (rw (mul_comm l y) (line_low m y k l t c d (rw (mul_comm m l) p) (rw (mul_comm k l) q)))
    (rw (mul_comm h y) (line_low m y k h t c d (rw (mul_comm m h) r) (rw (mul_comm k h) s)))

pub corners_high : (l x h m y k t : ℤ) → l ≤ℤ x → x ≤ℤ h → m ≤ℤ y → y ≤ℤ k → (l *ℤ m) ≤ℤ t → (l *ℤ k) ≤ℤ t →
    (h *ℤ m) ≤ℤ t → (h *ℤ k) ≤ℤ t → (x *ℤ y) ≤ℤ t
corners_high l x h m y k t a b c d p q r s =
    line_high l x h y t a b
    (rw (mul_comm l y) (line_high m y k l t c d (rw (mul_comm m l) p) (rw (mul_comm k l) q)))
    (rw (mul_comm h y) (line_high m y k h t c d (rw (mul_comm m h) r) (rw (mul_comm k h) s)))

-- a rounded product, at a number that is b times as large
pub rounded_low : (m f lo num : ℤ) (b d : ℕ) → m ≤ℤ f → (f *ℤ pos d) ≤ℤ (lo *ℤ num) →
    (m *ℤ pos (b * d)) ≤ℤ (lo *ℤ pos b *ℤ num)
rounded_low m f lo num b d h k =
    rw (split_factor m b d, swapped lo (pos b) num)
    (mul_le_nat (m *ℤ pos d) (lo *ℤ num) b (le_trans (m *ℤ pos d) (f *ℤ pos d) (lo *ℤ num) (mul_le_nat m f d h) k))

pub rounded_high : (m f lo num : ℤ) (b d : ℕ) → f ≤ℤ m → (lo *ℤ num) ≤ℤ (f *ℤ pos d) →
    (lo *ℤ pos b *ℤ num) ≤ℤ (m *ℤ pos (b * d))
rounded_high m f lo num b d h k =
    rw (split_factor m b d, swapped lo (pos b) num)
    (mul_le_nat (lo *ℤ num) (m *ℤ pos d) b (le_trans (lo *ℤ num) (f *ℤ pos d) (m *ℤ pos d) k (mul_le_nat f m d h)))

-- ---- the lesser and the greater

pub min_left : (x y : ℤ) → int_min x y ≤ℤ x
min_left x y = omega (arith, ints, clamps)

pub min_right : (x y : ℤ) → int_min x y ≤ℤ y
min_right x y = omega (arith, ints, clamps)

pub max_left : (x y : ℤ) → x ≤ℤ int_max x y
max_left x y = omega (arith, ints, clamps)

pub max_right : (x y : ℤ) → y ≤ℤ int_max x y
max_right x y = omega (arith, ints, clamps)

pub min_within : (x y : ℤ) (b : ℕ) → unsigned_abs x ≤ b → unsigned_abs y ≤ b → unsigned_abs (int_min x y) ≤ b
min_within x y b h k = omega (arith, ints, clamps)

pub max_within : (x y : ℤ) (b : ℕ) → unsigned_abs x ≤ b → unsigned_abs y ≤ b → unsigned_abs (int_max x y) ≤ b
max_within x y b h k = omega (arith, ints, clamps)
