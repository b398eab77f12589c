-- Values of one denominator brought to another, in a net's rows.
use Rattle.std.proofs.Common.{◌≡◌, ℕ, suc, ◌+◌, ◌-◌, ◌*◌, ◌/◌, ◌^◌, ◌<◌, arith, refl, ap, ap₂, sym, ◌∙◌}
use Rattle.std.proofs.Math.IntN.{ℤ, pos, ◌*ℤ◌}
use Rattle.std.proofs.Math.Nat.{pow-suc, pow-zero}
use Rattle.std.proofs.lemmas.Int.{ints}
use Rattle.std.proofs.lemmas.Nat.{pow-add}
use Rattle.fx_math.proofs.Lines.{swapped}
use Rattle.fx_math.proofs.Ring.{mul_comm, mul_assoc}
use Rattle.fx_math.specs.Unroll.{lagged, before}
use Rattle.fx_math.specs.Ratio.{Ratio, SameValue, whole}
use Rattle.fx_nums.specs.Fraction.{Fraction, over, IsWholeOver, den_value}
use Rattle.fx_eqs.proofs.TermValues.{gather}
use Rattle.fx_net.specs.Net.{Net}
use Rattle.fx_net.specs.Run.{net_value, row_time}

-- what row r reads at moment k, each source brought to the row's denominator
abbrev pub of_now : ℕ → (ℕ → ℕ → ℤ) → ℕ → ℕ → ℕ → ℤ
of_now q z k r s = z k s *ℤ pos (q ^ (r - s - 1))

abbrev pub of_old : Net → ℕ → (ℕ → ℕ → ℤ) → ℕ → ℕ → ℕ → ℤ
of_old net q z k r s = before z k s *ℤ pos (q ^ (net.rows + r - s - 1))

abbrev pub of_input : Net → ℕ → (ℕ → ℕ → ℤ) → ℕ → ℕ → ℕ → ℤ
of_input net q u k r j = u k j *ℤ pos (q ^ row_time net k r)

-- ---- factors and powers

-- natural factors gathered at the right
pub right : (n m k : ℕ) (y : ℤ) → n * m ≡ k → pos n *ℤ (y *ℤ pos m) ≡ y *ℤ pos k
right n m k y e = mul_comm (pos n) (y *ℤ pos m) ∙ mul_assoc y (pos m) (pos n)
    ∙ ap (λ x. y *ℤ pos x) (let f : m * n ≡ k = omega (arith, e) in f)

pub power : (q a b c : ℕ) → a + b ≡ c → q ^ a * q ^ b ≡ q ^ c
power q a b c e = sym (pow-add q a b) ∙ ap (λ n. q ^ n) e

pub powers_to : (q a b c : ℕ) → a + b + 1 ≡ c → q ^ a * (q ^ b * q) ≡ q ^ c
powers_to q a b c e =
    ap (λ n. q ^ a * n) (sym (pow-suc q b)) ∙ sym (pow-add q a (suc b))
    ∙ (let f : a + suc b ≡ c = omega arith in ap (λ n. q ^ n) f)

pub one_power : (g n : ℕ) → g ^ (n + 1) ≡ g ^ n * g
one_power g n = ap (λ m. g ^ m) (let e : n + 1 ≡ suc n = omega arith in e) ∙ pow-suc g n

pub no_power : (g n : ℕ) → g ^ (0 * n) ≡ 1
no_power g n = ap (λ m. g ^ m) (let e : 0 * n ≡ 0 = omega arith in e) ∙ pow-zero g

pub rearrange : (a b c d x y : ℕ) → a * c ≡ x → b * d ≡ y → (a * b) * (c * d) ≡ x * y
rearrange a b c d x y e f = (let t : (a * b) * (c * d) ≡ (a * c) * (b * d) = omega arith in t) ∙ ap₂ (λ m n. m * n) e f

-- z a = x b, so z p times c is x d
pub extend : (z x : ℤ) (a b m p c d : ℕ) → z *ℤ pos a ≡ x *ℤ pos b → p * c ≡ a * m → b * m ≡ d →
    (z *ℤ pos p) *ℤ pos c ≡ x *ℤ pos d
extend z x a b m p c d e f h =
    gather p c (a * m) z f ∙ sym (gather a m (a * m) z refl) ∙ ap (λ y. y *ℤ pos m) e ∙ gather b m d x h

-- a coefficient over q and over g
pub crossed : (q g : ℕ) (c : Fraction) → IsWholeOver q c → IsWholeOver g c → over q c *ℤ pos g ≡ over g c *ℤ pos q
crossed q g c eq eg =
    let d = den_value c.den in
    mul_assoc c.num (pos (q / d)) (pos g) ∙ ap (λ n. c.num *ℤ pos n) (product (q / d) (g / d) d q g eq eg)
    ∙ sym (mul_assoc c.num (pos (g / d)) (pos q))
  where
    product : (a b d q g : ℕ) → d * a ≡ q → d * b ≡ g → a * g ≡ b * q
    product a b d q g eq eg = (let e : a * g ≡ a * (d * b) = ap (λ n. a * n) (sym eg) in e)
        ∙ (let f : a * (d * b) ≡ b * (d * a) = omega arith in f) ∙ ap (λ n. b * n) eq

pub one_term : (o o' x r : ℤ) (q g a b : ℕ) → o *ℤ pos g ≡ o' *ℤ pos q → x *ℤ pos a ≡ r *ℤ pos b →
    (o *ℤ x) *ℤ pos (a * g) ≡ (o' *ℤ r) *ℤ pos (b * q)
one_term o o' x r q g a b e f = both o x a g ∙ ap₂ (λ s t. s *ℤ t) e f ∙ sym (both o' r b q)
  where
    both : (o x : ℤ) (a g : ℕ) → (o *ℤ x) *ℤ pos (a * g) ≡ (o *ℤ pos g) *ℤ (x *ℤ pos a)
    both o x a g =
        mul_assoc o x (pos (a * g))
        ∙ ap (λ w. o *ℤ w) (sym (gather a g (a * g) x refl) ∙ mul_comm (x *ℤ pos a) (pos g))
        ∙ sym (mul_assoc o (pos g) (x *ℤ pos a))

-- ---- rows that carry values

-- row s of the net has row j of the equations, a moments before; these have n rows
pub Carries : Net → ℕ → ℕ → ℕ → (ℕ → ℕ → ℤ) → (ℕ → ℕ → ℤ) → ℕ → ℕ → ℕ → ℕ → Type 0
Carries net q g n y z k s j a = z k s *ℤ pos (g ^ (k * n + j + 1))
    ≡ lagged y k a j *ℤ pos (g ^ (a * n) * q ^ (row_time net k s + 1))

pub carries : (net : Net) (q g n : ℕ) (y z : ℕ → ℕ → ℤ) (k s j a : ℕ) →
    z k s *ℤ pos (g ^ (k * n + j + 1)) ≡ lagged y k a j *ℤ pos (g ^ (a * n) * q ^ (row_time net k s + 1)) →
    Carries net q g n y z k s j a
unfolding Carries
carries net q g n y z k s j a e = e

pub carried : (net : Net) (q g n : ℕ) (y z : ℕ → ℕ → ℤ) (k s j a : ℕ) → Carries net q g n y z k s j a →
    z k s *ℤ pos (g ^ (k * n + j + 1)) ≡ lagged y k a j *ℤ pos (g ^ (a * n) * q ^ (row_time net k s + 1))
unfolding Carries
carried net q g n y z k s j a e = e

-- row s has input j, a moments before
pub CarriesInput : Net → ℕ → (ℕ → ℕ → ℤ) → (ℕ → ℕ → ℤ) → ℕ → ℕ → ℕ → ℕ → Type 0
CarriesInput net q u z k s j a = z k s ≡ lagged u k a j *ℤ pos (q ^ (row_time net k s + 1))

pub carried_input : (net : Net) (q : ℕ) (u z : ℕ → ℕ → ℤ) (k s j a : ℕ) → CarriesInput net q u z k s j a →
    z k s ≡ lagged u k a j *ℤ pos (q ^ (row_time net k s + 1))
unfolding CarriesInput
carried_input net q u z k s j a e = e

-- a source of this moment
pub now_source : (net : Net) (q g n : ℕ) (y z : ℕ → ℕ → ℤ) (k r s i j : ℕ) → s < r → j < i →
    Carries net q g n y z k s j 0 →
    of_now q z k r s *ℤ pos (g ^ (k * n + i))
    ≡ (lagged y k 0 j *ℤ pos (g ^ (0 * n + i - j - 1))) *ℤ pos (q ^ row_time net k r)
unfolding Carries
now_source net q g n y z k r s i j h l c =
    extend (z k s) (y k j) (g ^ (k * n + j + 1)) (g ^ (0 * n) * q ^ (row_time net k s + 1))
    (g ^ (i - j - 1) * q ^ (r - s - 1)) (q ^ (r - s - 1)) (g ^ (k * n + i))
    (g ^ (0 * n + i - j - 1) * q ^ row_time net k r)
    c
    (let e : g ^ (k * n + j + 1) * g ^ (i - j - 1) ≡ g ^ (k * n + i) =
    power g (k * n + j + 1) (i - j - 1) (k * n + i) (omega arith) in
    omega (arith, ap (λ m. m * q ^ (r - s - 1)) e))
    (let e : g ^ (0 * n) * g ^ (i - j - 1) ≡ g ^ (0 * n + i - j - 1) =
    power g (0 * n) (i - j - 1) (0 * n + i - j - 1) (omega arith) in
    let f : q ^ (row_time net k s + 1) * q ^ (r - s - 1) ≡ q ^ row_time net k r =
    power q (row_time net k s + 1) (r - s - 1) (row_time net k r) (omega arith) in
    rearrange (g ^ (0 * n)) (q ^ (row_time net k s + 1)) (g ^ (i - j - 1)) (q ^ (r - s - 1))
    (g ^ (0 * n + i - j - 1)) (q ^ row_time net k r) e f)
    ∙ sym (gather (g ^ (0 * n + i - j - 1)) (q ^ row_time net k r)
    (g ^ (0 * n + i - j - 1) * q ^ row_time net k r) (y k j) refl)

-- a source of the moment before, which has a row
pub old_source : (net : Net) (q g n : ℕ) (y z : ℕ → ℕ → ℤ) (k r s i j a : ℕ) → s < net.rows → j < n →
    Carries net q g n y z k s j a →
    of_old net q z (suc k) r s *ℤ pos (g ^ (suc k * n + i))
    ≡ (lagged y k a j *ℤ pos (g ^ (suc a * n + i - j - 1))) *ℤ pos (q ^ row_time net (suc k) r)
unfolding Carries
old_source net q g n y z k r s i j a h l c =
    extend (z k s) (lagged y k a j) (g ^ (k * n + j + 1)) (g ^ (a * n) * q ^ (row_time net k s + 1))
    (g ^ (n + i - j - 1) * q ^ (net.rows + r - s - 1)) (q ^ (net.rows + r - s - 1)) (g ^ (suc k * n + i))
    (g ^ (suc a * n + i - j - 1) * q ^ row_time net (suc k) r)
    c
    (let e : g ^ (k * n + j + 1) * g ^ (n + i - j - 1) ≡ g ^ (suc k * n + i) =
    power g (k * n + j + 1) (n + i - j - 1) (suc k * n + i) (omega arith) in
    omega (arith, ap (λ m. m * q ^ (net.rows + r - s - 1)) e))
    (let e : g ^ (a * n) * g ^ (n + i - j - 1) ≡ g ^ (suc a * n + i - j - 1) =
    power g (a * n) (n + i - j - 1) (suc a * n + i - j - 1) (omega arith) in
    let f : q ^ (row_time net k s + 1) * q ^ (net.rows + r - s - 1) ≡ q ^ row_time net (suc k) r =
    power q (row_time net k s + 1) (net.rows + r - s - 1) (row_time net (suc k) r) (omega arith) in
    rearrange (g ^ (a * n)) (q ^ (row_time net k s + 1)) (g ^ (n + i - j - 1)) (q ^ (net.rows + r - s - 1))
    (g ^ (suc a * n + i - j - 1)) (q ^ row_time net (suc k) r) e f)
    ∙ sym (gather (g ^ (suc a * n + i - j - 1)) (q ^ row_time net (suc k) r)
    (g ^ (suc a * n + i - j - 1) * q ^ row_time net (suc k) r) (lagged y k a j) refl)

-- one which has an input
pub held_source : (net : Net) (q c : ℕ) (u z : ℕ → ℕ → ℤ) (k r s j a : ℕ) → s < net.rows →
    CarriesInput net q u z k s j a →
    of_old net q z (suc k) r s *ℤ pos c ≡ (lagged u k a j *ℤ pos c) *ℤ pos (q ^ row_time net (suc k) r)
unfolding CarriesInput
held_source net q c u z k r s j a h e =
    let f : q ^ (row_time net k s + 1) * q ^ (net.rows + r - s - 1) ≡ q ^ row_time net (suc k) r =
    power q (row_time net k s + 1) (net.rows + r - s - 1) (row_time net (suc k) r) (omega arith) in
    ap (λ x. x *ℤ pos c) (ap (λ x. x *ℤ pos (q ^ (net.rows + r - s - 1))) e
    ∙ gather (q ^ (row_time net k s + 1)) (q ^ (net.rows + r - s - 1)) (q ^ row_time net (suc k) r)
    (lagged u k a j) f)
    ∙ swapped (lagged u k a j) (pos (q ^ row_time net (suc k) r)) (pos c)

-- ---- rows that hold

-- a row that holds an input of this moment
pub hold_input : (net : Net) (q : ℕ) (u z : ℕ → ℕ → ℤ) (k r j : ℕ) → z k r ≡ pos q *ℤ of_input net q u k r j →
    CarriesInput net q u z k r j 0
unfolding CarriesInput
hold_input net q u z k r j e =
    e ∙ right q (q ^ row_time net k r) (q ^ (row_time net k r + 1)) (u k j)
    (sym (one_power q (row_time net k r) ∙ (let o : q ^ row_time net k r * q ≡ q * q ^ row_time net k r =
    omega arith in o)))

-- a row that holds what a row held before, an input
pub hold_held : (net : Net) (q : ℕ) (u z : ℕ → ℕ → ℤ) (k r s j a : ℕ) → s < net.rows →
    z (suc k) r ≡ pos q *ℤ of_old net q z (suc k) r s → CarriesInput net q u z k s j a →
    CarriesInput net q u z (suc k) r j (suc a)
unfolding CarriesInput
hold_held net q u z k r s j a h e c =
    let t : row_time net k s + 1 + (net.rows + r - s - 1) + 1 ≡ row_time net (suc k) r + 1 = omega arith in
    e ∙ right q (q ^ (net.rows + r - s - 1)) (q ^ (net.rows + r - s - 1) * q) (z k s) (omega arith)
    ∙ ap (λ x. x *ℤ pos (q ^ (net.rows + r - s - 1) * q)) c
    ∙ gather (q ^ (row_time net k s + 1)) (q ^ (net.rows + r - s - 1) * q) (q ^ (row_time net (suc k) r + 1))
    (lagged u k a j) (powers_to q (row_time net k s + 1) (net.rows + r - s - 1) (row_time net (suc k) r + 1)
    t)

-- at moment 0 it holds 0
pub hold_first : (net : Net) (q : ℕ) (u z : ℕ → ℕ → ℤ) (r s j a : ℕ) → z 0 r ≡ pos q *ℤ of_old net q z 0 r s →
    CarriesInput net q u z 0 r j (suc a)
unfolding CarriesInput
hold_first net q u z r s j a e = e ∙ omega (arith, ints)

-- a row that holds a row
pub keep_held : (net : Net) (q g n : ℕ) (y z : ℕ → ℕ → ℤ) (k r s j a : ℕ) → s < net.rows →
    z (suc k) r ≡ pos q *ℤ of_old net q z (suc k) r s → Carries net q g n y z k s j a →
    Carries net q g n y z (suc k) r j (suc a)
unfolding Carries
keep_held net q g n y z k r s j a h e c =
    let t : row_time net k s + 1 + (net.rows + r - s - 1) + 1 ≡ row_time net (suc k) r + 1 = omega arith in
    ap (λ x. x *ℤ pos (g ^ (suc k * n + j + 1))) (e
    ∙ right q (q ^ (net.rows + r - s - 1)) (q * q ^ (net.rows + r - s - 1)) (z k s) refl)
    ∙ extend (z k s) (lagged y k a j) (g ^ (k * n + j + 1)) (g ^ (a * n) * q ^ (row_time net k s + 1))
    (g ^ n * (q * q ^ (net.rows + r - s - 1))) (q * q ^ (net.rows + r - s - 1)) (g ^ (suc k * n + j + 1))
    (g ^ (suc a * n) * q ^ (row_time net (suc k) r + 1))
    c
    (let e : g ^ (k * n + j + 1) * g ^ n ≡ g ^ (suc k * n + j + 1) =
    power g (k * n + j + 1) n (suc k * n + j + 1) (omega arith) in
    omega (arith, ap (λ m. m * (q * q ^ (net.rows + r - s - 1))) e))
    (rearrange (g ^ (a * n)) (q ^ (row_time net k s + 1)) (g ^ n) (q * q ^ (net.rows + r - s - 1))
    (g ^ (suc a * n)) (q ^ (row_time net (suc k) r + 1))
    (power g (a * n) n (suc a * n) (omega arith))
    ((let o : q ^ (row_time net k s + 1) * (q * q ^ (net.rows + r - s - 1))
    ≡ q ^ (row_time net k s + 1) * (q ^ (net.rows + r - s - 1) * q) = omega arith in o)
    ∙ powers_to q (row_time net k s + 1) (net.rows + r - s - 1) (row_time net (suc k) r + 1) t))

pub keep_first : (net : Net) (q g n : ℕ) (y z : ℕ → ℕ → ℤ) (r s j a : ℕ) →
    z 0 r ≡ pos q *ℤ of_old net q z 0 r s → Carries net q g n y z 0 r j (suc a)
unfolding Carries
keep_first net q g n y z r s j a e = ap (λ x. x *ℤ pos (g ^ (0 * n + j + 1))) e ∙ omega (arith, ints)

-- ---- values of rows that hold

-- a row that holds what row s held before has its value
pub kept_value : (net : Net) (q : ℕ) (z : ℕ → ℕ → ℤ) (k r s : ℕ) (value : Ratio) → s < net.rows →
    z (suc k) r ≡ pos q *ℤ of_old net q z (suc k) r s →
    SameValue (net_value net q z k s) value → SameValue (net_value net q z (suc k) r) value
kept_value net q z k r s value h e same =
    let d = q ^ (net.rows + r - s - 1) * q in
    let t : row_time net k s + 1 + (net.rows + r - s - 1) + 1 ≡ row_time net (suc k) r + 1 = omega arith in
    ap (λ x. x *ℤ pos value.den) (e ∙ right q (q ^ (net.rows + r - s - 1)) d (z k s) (omega arith))
    ∙ swapped (z k s) (pos d) (pos value.den)
    ∙ ap (λ x. x *ℤ pos d) same
    ∙ gather (q ^ (row_time net k s + 1)) d (q ^ (row_time net (suc k) r + 1)) value.num
    (powers_to q (row_time net k s + 1) (net.rows + r - s - 1) (row_time net (suc k) r + 1) t)

-- at the first moment that is nothing
pub kept_first : (net : Net) (q : ℕ) (z : ℕ → ℕ → ℤ) (r s : ℕ) → z 0 r ≡ pos q *ℤ of_old net q z 0 r s →
    SameValue (net_value net q z 0 r) (whole (pos 0))
kept_first net q z r s e = ap (λ x. x *ℤ pos 1) e ∙ omega (arith, ints)
