-- Laws of sums over the first places.
use Rattle.std.proofs.Common.{◌≡◌, ℕ, zero, suc, ◌<◌, arith, refl, ap, sym, ◌∙◌}
use Rattle.std.proofs.Math.IntN.{ℤ, pos, ◌+ℤ◌, ◌*ℤ◌}
use Rattle.std.specs.Int.Signed.{◌≤ℤ◌}
use Rattle.std.proofs.lemmas.Int.{ints}
use Rattle.fx_math.specs.Sums.{total}
use Rattle.fx_math.proofs.Ring.{mul-add, mul_comm}

pub total_add : (n : ℕ) (f g : ℕ → ℤ) → total n (λ i. f i +ℤ g i) ≡ total n f +ℤ total n g
total_add zero f g = refl
total_add (suc n) f g = omega (arith, ints, total_add n f g)

pub total_mul : (c : ℤ) (n : ℕ) (f : ℕ → ℤ) → c *ℤ total n f ≡ total n (λ i. c *ℤ f i)
total_mul c zero f = omega (arith, ints)
total_mul c (suc n) f = mul-add c (total n f) (f n) ∙ ap (λ x. x +ℤ c *ℤ f n) (total_mul c n f)

pub total_le : (n : ℕ) (f g : ℕ → ℤ) → ((i : ℕ) → i < n → f i ≤ℤ g i) → total n f ≤ℤ total n g
total_le zero f g h = omega (arith, ints)
total_le (suc n) f g h =
    let below : total n f ≤ℤ total n g = total_le n f g (λ i l. h i (omega arith)) in
    let here : f n ≤ℤ g n = h n (omega arith) in
    omega (arith, ints, below, here)

pub total_ext : (n : ℕ) (f g : ℕ → ℤ) → ((i : ℕ) → i < n → f i ≡ g i) → total n f ≡ total n g
total_ext zero f g h = refl
total_ext (suc n) f g h =
    let below : total n f ≡ total n g = total_ext n f g (λ i l. h i (omega arith)) in
    let here : f n ≡ g n = h n (omega arith) in
    omega (arith, ints, below, here)

pub total_zero : (n : ℕ) → total n (λ i. pos 0) ≡ pos 0
total_zero zero = refl
total_zero (suc n) = omega (arith, ints, total_zero n)

pub total_swap : (n m : ℕ) (f : ℕ → ℕ → ℤ) → total n (λ i. total m (λ j. f i j)) ≡ total m (λ j. total n (λ i. f i j))
total_swap zero m f = sym (total_zero m)
total_swap (suc n) m f =
    ap (λ x. x +ℤ total m (λ j. f n j)) (total_swap n m f) ∙ sym (total_add m (λ j. total n (λ i. f i j)) (λ j. f n j))

-- ---- a factor that one range does not change

pub collect : (m n : ℕ) (f : ℕ → ℕ → ℤ) (x : ℕ → ℤ) → total m (λ k. total n (λ i. f k i *ℤ x i))
    ≡ total n (λ i. total m (λ k. f k i) *ℤ x i)
collect m n f x =
    total_swap m n (λ k i. f k i *ℤ x i)
    ∙ total_ext n (λ i. total m (λ k. f k i *ℤ x i)) (λ i. total m (λ k. f k i) *ℤ x i)
    (λ i l. total_ext m (λ k. f k i *ℤ x i) (λ k. x i *ℤ f k i) (λ k r. mul_comm (f k i) (x i))
    ∙ sym (total_mul (x i) m (λ k. f k i)) ∙ mul_comm (x i) (total m (λ k. f k i)))
