-- The block of a run that ends at moment k, over one denominator.
use Rattle.std.proofs.Common.{◌≡◌, ◌⊎◌, ℕ, zero, suc, ◌+◌, ◌*◌, ◌-◌, ◌^◌, ◌<◌, ◌≤◌, arith, refl, ap, ap₂, sym}
use Rattle.std.proofs.Common.{◌∙◌, inl, inr}
use Rattle.std.proofs.Math.IntN.{ℤ, pos, ◌+ℤ◌, ◌*ℤ◌}
use Rattle.std.proofs.Math.Nat.{pow-succ', mul-le-mul_right}
use Rattle.std.specs.Prelude.{unsigned_abs}
use Rattle.std.proofs.lemmas.Int.{ints, unsigned_abs-mul}
use Rattle.std.proofs.lemmas.Nat.{pow-add}
use mathlib.Core.Path.{fun_ext}
use Rattle.fx_math.specs.Sums.{total}
use Rattle.fx_math.specs.Unroll.{before, lagged}
use Rattle.fx_math.proofs.Ring.{mul-add, add-mul, mul_comm, mul_assoc}
use Rattle.fx_math.proofs.Sums.{total_zero, total_ext, total_mul}
use Rattle.fx_nums.specs.Fraction.{over}
use Rattle.fx_eqs.specs.declared.limits.TheConstants.{PORTS}
use Rattle.fx_net.specs.Blocks.{IsBlock, block_den, raise, raised, reads}
use Rattle.fx_net.specs.Net.{Net}
use Rattle.fx_net.specs.Run.{IsRun, row_sum, row_time}
use Rattle.fx_net.proofs.Coefficients.{zero-mul}

-- the moment n before k: a moment of the run, or one before its start
abbrev LagCases : ℕ → ℕ → Type 0
LagCases k n =
    ((h : ℕ) × (k ≡ h + n) × ((f : ℕ → ℕ → ℤ) (i : ℕ) → lagged f k n i ≡ f h i)
    × ((f : ℕ → ℕ → ℤ) (i : ℕ) → lagged f k (suc n) i ≡ before f h i))
    ⊎ (((f : ℕ → ℕ → ℤ) (i : ℕ) → lagged f k n i ≡ pos 0) × ((f : ℕ → ℕ → ℤ) (i : ℕ) → lagged f k (suc n) i ≡ pos 0))

lag_cases : (k n : ℕ) → LagCases k n
lag_cases zero zero = inl (0, refl, (λ f i. refl), (λ f i. refl))
lag_cases (suc k) zero = inl (suc k, omega arith, (λ f i. refl), (λ f i. refl))
lag_cases zero (suc n) = inr ((λ f i. refl), (λ f i. refl))
lag_cases (suc k) (suc n) = elim (lag_cases k n) [
  | inl c ↦ inl (c.0, (let e : k ≡ c.0 + n = c.1 in omega arith), c.2, c.3)
  | inr c ↦ inr c
]

-- one source of a row, brought to the block's denominator
lifted : (c z : ℤ) (q a r s : ℕ) → q * (r * a) ≡ s → pos q *ℤ ((c *ℤ z *ℤ pos a) *ℤ pos r) ≡ c *ℤ (z *ℤ pos s)
lifted c z q a r s e =
    ap (λ x. pos q *ℤ x) (mul_assoc (c *ℤ z) (pos a) (pos r) ∙ mul_comm (c *ℤ z) (pos (a * r)))
    ∙ sym (mul_assoc (pos q) (pos (a * r)) (c *ℤ z))
    ∙ mul_comm (pos (q * (a * r))) (c *ℤ z)
    ∙ ap (λ n. (c *ℤ z) *ℤ pos n) (ap (λ n. q * n) (omega arith) ∙ e)
    ∙ mul_assoc c z (pos s)

powers : (q a b c : ℕ) → suc (a + b) ≡ c → q * (q ^ a * q ^ b) ≡ q ^ c
powers q a b c e = ap (λ n. q * n) (sym (pow-add q a b)) ∙ sym (pow-succ' q (a + b)) ∙ ap (λ n. q ^ n) e

raise_sum : (q r : ℤ) (n : ℕ) (f : ℕ → ℤ) → q *ℤ (total n f *ℤ r) ≡ total n (λ j. q *ℤ (f j *ℤ r))
raise_sum q r n f =
    ap (λ x. q *ℤ x) (mul_comm (total n f) r ∙ total_mul r n f
    ∙ total_ext n (λ j. r *ℤ f j) (λ j. f j *ℤ r) (λ j l. mul_comm r (f j)))
    ∙ total_mul q n (λ j. f j *ℤ r)

four_parts : (q r a b c k : ℤ) → q *ℤ ((a +ℤ b +ℤ c +ℤ k) *ℤ r)
    ≡ q *ℤ (a *ℤ r) +ℤ q *ℤ (b *ℤ r) +ℤ q *ℤ (c *ℤ r) +ℤ q *ℤ (k *ℤ r)
four_parts q r a b c k =
    let one : (a +ℤ b +ℤ c +ℤ k) *ℤ r ≡ a *ℤ r +ℤ b *ℤ r +ℤ c *ℤ r +ℤ k *ℤ r =
    omega (arith, ints, add-mul (a +ℤ b +ℤ c) k r, add-mul (a +ℤ b) c r, add-mul a b r) in
    ap (λ x. q *ℤ x) one
    ∙ (omega (
      arith,
      ints,
      mul-add q (a *ℤ r +ℤ b *ℤ r +ℤ c *ℤ r) (k *ℤ r),
      mul-add q (a *ℤ r +ℤ b *ℤ r) (c *ℤ r),
      mul-add q (a *ℤ r) (b *ℤ r),
    ))

-- the row of a run, brought to it
pub lifted_row : (net : Net) (q : ℕ) (u z perturbations : ℕ → ℕ → ℤ) → IsRun net q u z perturbations →
    (h n i : ℕ) → i < net.rows →
    pos q *ℤ (z h i *ℤ pos (raise net q n i))
    ≡ reads net q i (λ j. z h j *ℤ pos (raise net q n j)) (λ j.
    before z h j *ℤ pos (raise net q (suc n) j)) (λ j. u h j *ℤ pos (q ^ (suc (h + n) * net.rows)))
    +ℤ pos q *ℤ (perturbations h i *ℤ pos (raise net q n i))
unfolding row_sum
lifted_row net q u z perturbations run h n i l =
    ap (λ x. pos q *ℤ (x *ℤ pos (raise net q n i))) (run.row h i l)
    ∙ four_parts (pos q) (pos (raise net q n i))
    (total i (λ j. over q (net.now i j) *ℤ z h j *ℤ pos (q ^ (i - j - 1))))
    (total net.rows (λ j. over q (net.old i j) *ℤ before z h j *ℤ pos (q ^ (net.rows + i - j - 1))))
    (total PORTS (λ j. over q (net.input i j) *ℤ u h j *ℤ pos (q ^ row_time net h i)))
    (perturbations h i)
    ∙ ap₂ (λ x y. x +ℤ y +ℤ pos q *ℤ (total PORTS (λ j.
    over q (net.input i j) *ℤ u h j *ℤ pos (q ^ row_time net h i)) *ℤ pos (raise net q n i)) +ℤ pos q *ℤ
    (perturbations h i *ℤ pos (raise net q n i)))
    (raise_sum (pos q) (pos (raise net q n i)) i (λ j. over q (net.now i j) *ℤ z h j *ℤ pos (q ^ (i - j - 1)))
    ∙ total_ext i (λ j. pos q *ℤ
    ((over q (net.now i j) *ℤ z h j *ℤ pos (q ^ (i - j - 1))) *ℤ pos (raise net q n i))) (λ j.
    over q (net.now i j) *ℤ (z h j *ℤ pos (raise net q n j)))
    (λ j k. lifted (over q (net.now i j)) (z h j) q (q ^ (i - j - 1)) (raise net q n i) (raise net q n j)
    (powers q (n * net.rows + (net.rows - (i + 1))) (i - j - 1) (n * net.rows + (net.rows - (j + 1))) (omega arith))))
    (raise_sum (pos q) (pos (raise net q n i)) net.rows (λ j.
    over q (net.old i j) *ℤ before z h j *ℤ pos (q ^ (net.rows + i - j - 1)))
    ∙ total_ext net.rows (λ j.
    pos q *ℤ ((over q (net.old i j) *ℤ before z h j *ℤ pos (q ^ (net.rows + i - j - 1))) *ℤ pos
    (raise net q n i))) (λ j. over q (net.old i j) *ℤ (before z h j *ℤ pos (raise net q (suc n) j)))
    (λ j k. lifted (over q (net.old i j)) (before z h j) q (q ^ (net.rows + i - j - 1)) (raise net q n i)
    (raise net q (suc n) j)
    (powers q (n * net.rows + (net.rows - (i + 1))) (net.rows + i - j - 1) (suc n * net.rows
    + (net.rows - (j + 1))) (omega arith))))
    ∙ ap (λ x. total i (λ j. over q (net.now i j) *ℤ (z h j *ℤ pos (raise net q n j))) +ℤ total net.rows (λ j.
    over q (net.old i j) *ℤ (before z h j *ℤ pos (raise net q (suc n) j))) +ℤ x +ℤ pos q *ℤ
    (perturbations h i *ℤ pos (raise net q n i)))
    (raise_sum (pos q) (pos (raise net q n i)) PORTS (λ j.
    over q (net.input i j) *ℤ u h j *ℤ pos (q ^ row_time net h i))
    ∙ total_ext PORTS (λ j. pos q *ℤ
    ((over q (net.input i j) *ℤ u h j *ℤ pos (q ^ row_time net h i)) *ℤ pos (raise net q n i))) (λ j.
    over q (net.input i j) *ℤ (u h j *ℤ pos (q ^ (suc (h + n) * net.rows))))
    (λ j k. lifted (over q (net.input i j)) (u h j) q (q ^ row_time net h i) (raise net q n i)
    (q ^ (suc (h + n) * net.rows))
    (powers q (n * net.rows + (net.rows - (i + 1))) (row_time net h i) (suc (h + n) * net.rows) (omega arith))))

-- ---- the block that ends at moment k

same_row : (net : Net) (q i : ℕ) (a a' k k' : ℤ) (v v' o o' u u' : ℕ → ℤ) → a ≡ a' → v ≡ v' → o ≡ o' → u ≡ u' → k ≡ k' →
    pos q *ℤ a' ≡ reads net q i v' o' u' +ℤ pos q *ℤ k' → pos q *ℤ a ≡ reads net q i v o u +ℤ pos q *ℤ k
same_row net q i a a' k k' v v' o o' u u' ea ev eo eu ek h =
    let last : reads net q i v o u +ℤ pos q *ℤ k ≡ reads net q i v' o' u' +ℤ pos q *ℤ k' =
    λ t. reads net q i (ev t) (eo t) (eu t) +ℤ pos q *ℤ ek t in
    ap (λ x. pos q *ℤ x) ea ∙ h ∙ sym last

nothing : (n : ℕ) (c : ℕ → ℤ) → total n (λ j. c j *ℤ pos 0) ≡ pos 0
nothing n c = total_ext n (λ j. c j *ℤ pos 0) (λ j. pos 0) (λ j l. mul_comm (c j) (pos 0) ∙ zero-mul (c j))
    ∙ total_zero n

reads_nothing : (net : Net) (q i : ℕ) →
    pos q *ℤ pos 0 ≡ reads net q i (λ j. pos 0) (λ j. pos 0) (λ j. pos 0) +ℤ pos q *ℤ pos 0
reads_nothing net q i = omega (
  arith,
  ints,
  nothing i (λ j. over q (net.now i j)),
  nothing net.rows (λ j. over q (net.old i j)),
  nothing PORTS (λ j. over q (net.input i j)),
)

pub block_of_run : (net : Net) (q : ℕ) (u z perturbations : ℕ → ℕ → ℤ) → IsRun net q u z perturbations → (k : ℕ) →
    IsBlock net q (block_den net q k) (raised net q z k) (lagged u k) (raised net q perturbations k)
block_of_run net q u z perturbations run k = record { row = λ n i l. row n i l }
  where
    row : (n i : ℕ) → i < net.rows →
        pos q *ℤ raised net q z k n i
        ≡ reads net q i (raised net q z k n) (raised net q z k (suc n)) (λ j.
        lagged u k n j *ℤ pos (block_den net q k)) +ℤ pos q *ℤ raised net q perturbations k n i
    row n i l = elim (lag_cases k n) [
      | inl c ↦ same_row net q i (raised net q z k n i) (z c.0 i *ℤ pos (raise net q n i))
          (raised net q perturbations k n i) (perturbations c.0 i *ℤ pos (raise net q n i))
          (raised net q z k n) (λ j. z c.0 j *ℤ pos (raise net q n j))
          (raised net q z k (suc n)) (λ j. before z c.0 j *ℤ pos (raise net q (suc n) j))
          (λ j. lagged u k n j *ℤ pos (block_den net q k)) (λ j. u c.0 j *ℤ pos (q ^ (suc (c.0 + n) * net.rows)))
          (ap (λ x. x *ℤ pos (raise net q n i)) (c.2 z i))
          (fun_ext (λ j. ap (λ x. x *ℤ pos (raise net q n j)) (c.2 z j)))
          (fun_ext (λ j. ap (λ x. x *ℤ pos (raise net q (suc n) j)) (c.3 z j)))
          (fun_ext (λ j. ap₂ (λ x y. x *ℤ pos (q ^ (suc y * net.rows))) (c.2 u j) c.1))
          (ap (λ x. x *ℤ pos (raise net q n i)) (c.2 perturbations i))
          (lifted_row net q u z perturbations run c.0 n i l)
      | inr c ↦ same_row net q i (raised net q z k n i) (pos 0) (raised net q perturbations k n i) (pos 0)
          (raised net q z k n) (λ j. pos 0) (raised net q z k (suc n)) (λ j. pos 0) (λ j.
          lagged u k n j *ℤ pos (block_den net q k)) (λ j. pos 0)
          (ap (λ x. x *ℤ pos (raise net q n i)) (c.0 z i) ∙ zero-mul (pos (raise net q n i)))
          (fun_ext (λ j. ap (λ x. x *ℤ pos (raise net q n j)) (c.0 z j) ∙ zero-mul (pos (raise net q n j))))
          (fun_ext (λ j. ap (λ x. x *ℤ pos (raise net q (suc n) j)) (c.1 z j) ∙ zero-mul (pos (raise net q (suc n) j))))
          (fun_ext (λ j. ap (λ x. x *ℤ pos (block_den net q k)) (c.0 u j) ∙ zero-mul (pos (block_den net q k))))
          (ap (λ x. x *ℤ pos (raise net q n i)) (c.0 perturbations i) ∙ zero-mul (pos (raise net q n i)))
          (reads_nothing net q i)
    ]

-- ---- bounds on values of the run, as bounds on the block
lift_le : (c x : ℕ) (z : ℤ) (a b d : ℕ) → c * unsigned_abs z ≤ x * a → a * b ≡ d → c * unsigned_abs (z *ℤ pos b) ≤ x * d
lift_le c x z a b d h e =
    let one : unsigned_abs (z *ℤ pos b) ≡ unsigned_abs z * b = unsigned_abs-mul z (pos b) in
    let two : c * unsigned_abs z * b ≤ x * a * b = mul-le-mul_right b h in
    let three : x * d ≡ x * (a * b) = ap (λ n. x * n) (sym e) in
    rw (one, three) (omega (arith, two))

pub to_den : (net : Net) (q k h n i : ℕ) → k ≡ h + n → i < net.rows →
    q ^ (row_time net h i + 1) * raise net q n i ≡ block_den net q k
to_den net q k h n i e l =
    sym (pow-add q (row_time net h i + 1) (n * net.rows + (net.rows - (i + 1))))
    ∙ ap (λ m. q ^ m) (let f : suc k * net.rows ≡ suc (h + n) * net.rows =
    ap (λ m. suc m * net.rows) e in omega (arith, f))

-- a bound of row i at moment n before k, where it is one at the moment of the run
pub raised_le : (net : Net) (q c x : ℕ) (z : ℕ → ℕ → ℤ) (k n i : ℕ) → i < net.rows →
    ((h : ℕ) → k ≡ h + n → c * unsigned_abs (z h i) ≤ x * q ^ (row_time net h i + 1)) →
    c * unsigned_abs (raised net q z k n i) ≤ x * block_den net q k
raised_le net q c x z k n i l b = elim (lag_cases k n) [
  | inl s ↦ (let e : raised net q z k n i ≡ z s.0 i *ℤ pos (raise net q n i) =
      ap (λ y. y *ℤ pos (raise net q n i)) (s.2 z i) in
      rw e (lift_le c x (z s.0 i) (q ^ (row_time net s.0 i + 1)) (raise net q n i) (block_den net q k)
      (b s.0 s.1) (to_den net q k s.0 n i s.1 l)))
  | inr s ↦ (let e : raised net q z k n i ≡ pos 0 = ap (λ y. y *ℤ pos (raise net q n i)) (s.0 z i)
      ∙ zero-mul (pos (raise net q n i)) in
      rw e (omega arith))
]

pub word_le : (u : ℕ → ℕ → ℤ) (k n j b : ℕ) → ((h : ℕ) → unsigned_abs (u h j) ≤ b) → unsigned_abs (lagged u k n j) ≤ b
word_le u k n j b h = elim (lag_cases k n) [
  | inl s ↦ rw (s.2 u j) (h s.0)
  | inr s ↦ rw (s.0 u j) (omega arith)
]
