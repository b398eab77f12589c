-- One row of a block: its weight times its value is at most what the weight hands to the row's sources.
use Rattle.std.proofs.Common.{◌≡◌, ℕ, ◌<◌, arith, ap, sym, ◌∙◌}
use Rattle.std.proofs.Math.IntN.{ℤ, pos, ◌+ℤ◌, ◌*ℤ◌}
use Rattle.std.specs.Int.Signed.{◌≤ℤ◌}
use Rattle.std.proofs.lemmas.Int.{ints}
use Rattle.fx_math.specs.Sums.{total}
use Rattle.fx_math.proofs.Ring.{mul-add, mul_assoc, left_comm, mul-le-back}
use Rattle.fx_math.proofs.Sums.{total_mul, total_le}
use Rattle.fx_eqs.specs.declared.limits.TheConstants.{PORTS}
use Rattle.fx_nums.specs.Arithmetic.{multiple}
use Rattle.fx_nums.specs.Fraction.{Fraction, over, IsWholeOver}
use Rattle.fx_net.specs.Blocks.{reads}
use Rattle.fx_net.specs.Net.{Net}
use Rattle.fx_net.specs.Run.{IsDenominator}
use Rattle.fx_sweep.proofs.Multiples.{multiple_low, multiple_high}
use Rattle.fx_sweep.proofs.Sides.{upper, between_ends}

enclosed : (q : ℕ) (w : ℤ) (c : Fraction) (v : ℤ) → IsWholeOver q c →
    (w *ℤ (over q c *ℤ v)) ≤ℤ (pos q *ℤ upper (multiple w c) v)
enclosed q w c v e =
    let one : w *ℤ (over q c *ℤ v) ≡ (w *ℤ over q c) *ℤ v = sym (mul_assoc w (over q c) v) in
    rw one (between_ends q (w *ℤ over q c) (multiple w c).lo (multiple w c).hi v (multiple_low q w c e)
    (multiple_high q w c e))

-- a weight times a sum over sources, by the sources' products
one_side : (q : ℕ) (w : ℤ) (n : ℕ) (c : ℕ → Fraction) (x : ℕ → ℤ) → ((j : ℕ) → j < n → IsWholeOver q (c j)) →
    (w *ℤ total n (λ j. over q (c j) *ℤ x j)) ≤ℤ (pos q *ℤ total n (λ j. upper (multiple w (c j)) (x j)))
one_side q w n c x e =
    rw (total_mul w n (λ j. over q (c j) *ℤ x j), total_mul (pos q) n (λ j. upper (multiple w (c j)) (x j)))
    (total_le n (λ j. w *ℤ (over q (c j) *ℤ x j)) (λ j. pos q *ℤ upper (multiple w (c j)) (x j))
    (λ j l. enclosed q w (c j) (x j) (e j l)))

-- what row i at weight w hands to the moment before, to the inputs and to its perturbation
abbrev pub handed_on : Net → ℕ → ℤ → (ℕ → ℤ) → (ℕ → ℤ) → (ℕ → ℤ) → ℤ
handed_on net i w o u p =
    total net.rows (λ j. upper (multiple w (net.old i j)) (o j))
    +ℤ total PORTS (λ j. upper (multiple w (net.input i j)) (u j))
    +ℤ w *ℤ p i

three_parts : (q : ℕ) (w v a b c p a' b' c' : ℤ) → 0 < q → pos q *ℤ v ≡ a +ℤ b +ℤ c +ℤ pos q *ℤ p →
    (w *ℤ a) ≤ℤ (pos q *ℤ a') → (w *ℤ b) ≤ℤ (pos q *ℤ b') → (w *ℤ c) ≤ℤ (pos q *ℤ c') →
    (w *ℤ v) ≤ℤ (a' +ℤ (b' +ℤ c' +ℤ w *ℤ p))
three_parts q w v a b c p a' b' c' h e ha hb hc =
    let two : w *ℤ (pos q *ℤ v) ≡ w *ℤ a +ℤ w *ℤ b +ℤ w *ℤ c +ℤ w *ℤ (pos q *ℤ p) =
    ap (λ x. w *ℤ x) e ∙ (omega (
      arith,
      ints,
      mul-add w (a +ℤ b +ℤ c) (pos q *ℤ p),
      mul-add w (a +ℤ b) c,
      mul-add w a b,
    )) in
    let four : pos q *ℤ (a' +ℤ (b' +ℤ c' +ℤ w *ℤ p))
    ≡ pos q *ℤ a' +ℤ (pos q *ℤ b' +ℤ pos q *ℤ c' +ℤ pos q *ℤ (w *ℤ p)) =
    omega (
      arith,
      ints,
      mul-add (pos q) a' (b' +ℤ c' +ℤ w *ℤ p),
      mul-add (pos q) (b' +ℤ c') (w *ℤ p),
      mul-add (pos q) b' c',
    ) in
    mul-le-back q (w *ℤ v) (a' +ℤ (b' +ℤ c' +ℤ w *ℤ p)) h
    (omega (arith, ints, left_comm (pos q) w v, two, left_comm w (pos q) p, four, ha, hb, hc))

pub row_law : (net : Net) (q : ℕ) → IsDenominator net q → (i : ℕ) → i < net.rows → (w : ℤ) (v o u p : ℕ → ℤ) →
    pos q *ℤ v i ≡ reads net q i v o u +ℤ pos q *ℤ p i →
    (w *ℤ v i) ≤ℤ (total i (λ j. upper (multiple w (net.now i j)) (v j)) +ℤ handed_on net i w o u p)
row_law net q d i r w v o u p e =
    three_parts q w (v i)
    (total i (λ j. over q (net.now i j) *ℤ v j))
    (total net.rows (λ j. over q (net.old i j) *ℤ o j))
    (total PORTS (λ j. over q (net.input i j) *ℤ u j))
    (p i)
    (total i (λ j. upper (multiple w (net.now i j)) (v j)))
    (total net.rows (λ j. upper (multiple w (net.old i j)) (o j)))
    (total PORTS (λ j. upper (multiple w (net.input i j)) (u j)))
    d.positive e
    (one_side q w i (net.now i) v (λ j l. d.now i j r l))
    (one_side q w net.rows (net.old i) o (λ j l. d.old i j r l))
    (one_side q w PORTS (net.input i) u (λ j l. d.input i j r l))
