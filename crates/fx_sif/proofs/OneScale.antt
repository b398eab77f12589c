-- A run of a form without perturbation, brought to one scale, at which no powers of its denominator are left. What lies
-- behind
-- the last moment of interest is free.
use Rattle.std.proofs.Common.{◌≡◌, ℕ, zero, suc, ◌+◌, ◌-◌, ◌*◌, ◌^◌, ◌<◌, ◌≤◌, Bool, true, false, cond, eqb}
use Rattle.std.proofs.Common.{unsigned_abs, List, [], ◌∷◌, map, filter, All, refl, arith, sym, ap, ap₂, ◌∙◌}
use Rattle.std.proofs.Math.IntN.{ℤ, pos, ◌+ℤ◌, ◌*ℤ◌}
use Rattle.std.proofs.Math.Nat.{pow-succ'}
use Rattle.std.proofs.lemmas.Int.{ints}
use Rattle.std.proofs.lemmas.Nat.{pow-add}
use Rattle.std.proofs.lemmas.Bool.{and_parts, eqb-true}
use Rattle.std.proofs.lemmas.List.Elements.{All-head, All-tail, All-nil, All-cons}
use Rattle.fx_math.proofs.Polynomials.{int, nat, add, mul, same_value}
use Rattle.fx_math.proofs.Ring.{mul-le-back}
use Rattle.fx_math.specs.Unroll.{before}
use Rattle.fx_nums.specs.Fraction.{Fraction, over}
use Rattle.fx_eqs.specs.Expanded.{NetRead, NetTerm}
use Rattle.fx_eqs.specs.Expanded.NetRead.{Now, Old, In}
use Rattle.fx_net.specs.Rows.{ReadFits}
use Rattle.fx_net.specs.Run.{IsRun}
use Rattle.fx_sif.specs.Fits.{EntryFits, ImplicitFits}
use Rattle.fx_sif.specs.Implicit.{Implicit, rows}
use Rattle.fx_sif.specs.Rows.{row_place, is_read, term_of, is_in_row, net_row}
use Rattle.fx_sif.specs.Runs.{read_value, terms_value}
use Rattle.fx_sif.specs.SameOutputs.{net_alone}
use Rattle.fx_eqs.specs.declared.limits.TheConstants.{PORTS}
use Rattle.fx_sif.specs.declared.parts.Entry.{Entry}
use Rattle.fx_sif.specs.declared.parts.Sizes.{Sizes}
use Rattle.fx_sif.proofs.Kept.{is_zero-value}
use Rattle.fx_sif.proofs.Summing.{reads_there, runs_are_sums}

-- ---- the scale

-- a coefficient over q and g
abbrev pub weight : ℕ → ℕ → Fraction → ℤ
weight q g c = over q c *ℤ pos g

-- a coefficient of value 0 has no weight
pub no_weight : (q g : ℕ) (c : Fraction) → eqb (unsigned_abs c.num) 0 ≡ true → weight q g c ≡ pos 0
no_weight q g c e =
    let none : c.num ≡ pos 0 = is_zero-value c.num e in
    rw none (omega (arith, ints))

-- what row i of n at moment k is raised by
abbrev pub raise : ℕ → ℕ → ℕ → ℕ → ℕ → ℕ
raise last n q k i = q ^ ((last - k) * n + (n - (i + 1)))

abbrev pub lifted : ℕ → ℕ → ℕ → ℕ → (ℕ → ℕ → ℤ) → ℕ → ℕ → ℤ
lifted last n q e z k i = z k i *ℤ pos (raise last n q k i * e)

abbrev pub lifted_input : ℕ → ℕ → ℕ → ℕ → (ℕ → ℕ → ℤ) → ℕ → ℕ → ℤ
lifted_input last n q e u k j = u k j *ℤ pos (q ^ (suc last * n) * e)

-- what a term reads at moment k
abbrev pub read_of : (ℕ → ℕ → ℤ) → (ℕ → ℕ → ℤ) → ℕ → NetRead → ℤ
read_of x u k (Now j) = x k j
read_of x u k (Old j) = before x k j
read_of x u k (In j) = u k j

abbrev pub reads_sum : (Fraction → ℤ) → (ℕ → ℕ → ℤ) → (ℕ → ℕ → ℤ) → ℕ → List NetTerm → ℤ
reads_sum w x u k [] = pos 0
reads_sum w x u k (t ∷ ts) = w t.coef *ℤ read_of x u k t.from +ℤ reads_sum w x u k ts

-- ---- one source

pub powers : (q a b c : ℕ) → suc (a + b) ≡ c → q * (q ^ a * q ^ b) ≡ q ^ c
powers q a b c e = ap (λ n. q * n) (sym (pow-add q a b)) ∙ sym (pow-succ' q (a + b)) ∙ ap (λ n. q ^ n) e

pub raised : (y : ℤ) (q a r s e : ℕ) → q * (a * r) ≡ s → pos q *ℤ ((y *ℤ pos a) *ℤ pos (r * e)) ≡ y *ℤ pos (s * e)
raised y q a r s e h =
    same_value (mul (nat q) (mul (mul (int y) (nat a)) (nat (r * e)))) (mul (int y) (nat (q * (a * r) * e)))
    (omega arith)
    ∙ ap (λ m. y *ℤ pos (m * e)) h

now_exponent : (d n r j : ℕ) → j < r → r < n → suc ((r - j - 1) + (d * n + (n - (r + 1)))) ≡ d * n + (n - (j + 1))
now_exponent d n r j h l = omega arith

old_exponent : (d n r j : ℕ) → j < n → r < n →
    suc ((n + r - j - 1) + (d * n + (n - (r + 1)))) ≡ suc d * n + (n - (j + 1))
old_exponent d n r j h l = omega arith

input_exponent : (d k n r : ℕ) → r < n → suc ((k * n + r) + (d * n + (n - (r + 1)))) ≡ suc (k + d) * n
input_exponent d k n r l = omega arith

nothing : (q a r : ℕ) → pos q *ℤ ((pos 0 *ℤ pos a) *ℤ pos r) ≡ pos 0
nothing q a r = ap pos (omega arith)

lifted_read : (last n q e : ℕ) (u z : ℕ → ℕ → ℤ) (k r : ℕ) (from : NetRead) → ReadFits n 0 r from → r < n → k ≤ last →
    pos q *ℤ (read_value n q u z k r from *ℤ pos (raise last n q k r * e))
    ≡ read_of (lifted last n q e z) (lifted_input last n q e u) k from
lifted_read last n q e u z k r (Now j) fit l h =
    raised (z k j) q (q ^ (r - j - 1)) (raise last n q k r) (raise last n q k j) e
    (powers q (r - j - 1) ((last - k) * n + (n - (r + 1))) ((last - k) * n + (n - (j + 1)))
    (now_exponent (last - k) n r j fit l))
lifted_read last n q e u z zero r (Old j) fit l h = nothing q (q ^ (n + r - j - 1)) (raise last n q 0 r * e)
lifted_read last n q e u z (suc k) r (Old j) fit l h =
    let step : last - k ≡ suc (last - suc k) = omega arith in
    let below : j < n = omega (arith, fit) in
    raised (z k j) q (q ^ (n + r - j - 1)) (raise last n q (suc k) r) (raise last n q k j) e
    (powers q (n + r - j - 1) ((last - suc k) * n + (n - (r + 1))) ((last - k) * n + (n - (j + 1)))
    (old_exponent (last - suc k) n r j below l ∙ ap (λ d. d * n + (n - (j + 1))) (sym step)))
lifted_read last n q e u z k r (In j) fit l h =
    let all : k + (last - k) ≡ last = omega arith in
    raised (u k j) q (q ^ (k * n + r)) (raise last n q k r) (q ^ (suc last * n)) e
    (powers q (k * n + r) ((last - k) * n + (n - (r + 1))) (suc last * n)
    (input_exponent (last - k) k n r l ∙ ap (λ m. suc m * n) all))

-- ---- a row

split_off : (o v w : ℤ) (q g r : ℕ) →
    pos (q * g) *ℤ ((o *ℤ v +ℤ w) *ℤ pos r) ≡ (o *ℤ pos g) *ℤ (pos q *ℤ (v *ℤ pos r)) +ℤ pos (q * g) *ℤ (w *ℤ pos r)
split_off o v w q g r =
    same_value (mul (nat (q * g)) (mul (add (mul (int o) (int v)) (int w)) (nat r)))
    (add (mul (mul (int o) (nat g)) (mul (nat q) (mul (int v) (nat r)))) (mul (nat (q * g)) (mul (int w) (nat r))))
    (omega arith)

no_terms : (d r : ℕ) → pos d *ℤ (pos 0 *ℤ pos r) ≡ pos 0
no_terms d r = ap pos (omega arith)

lifted_terms : (last n q g e : ℕ) (u z : ℕ → ℕ → ℤ) (k r : ℕ) (ts : List NetTerm) →
    All (λ (t : NetTerm). ReadFits n 0 r t.from) ts → r < n → k ≤ last →
    pos (q * g) *ℤ (terms_value n q u z k r ts *ℤ pos (raise last n q k r * e))
    ≡ reads_sum (weight q g) (lifted last n q e z) (lifted_input last n q e u) k ts
lifted_terms last n q g e u z k r [] fits l h = no_terms (q * g) (raise last n q k r * e)
lifted_terms last n q g e u z k r (t ∷ ts) fits l h =
    split_off (over q t.coef) (read_value n q u z k r t.from) (terms_value n q u z k r ts) q g (raise last n q k r * e)
    ∙ ap₂ (λ x y. weight q g t.coef *ℤ x +ℤ y)
    (lifted_read last n q e u z k r t.from (All-head (λ (t : NetTerm). ReadFits n 0 r t.from) t ts fits) l h)
    (lifted_terms last n q g e u z k r ts (All-tail (λ (t : NetTerm). ReadFits n 0 r t.from) t ts fits) l h)

all_there : (s : Sizes) (r : ℕ) (es : List Entry) → s.u ≤ PORTS → All (EntryFits s) es →
    All (λ (t : NetTerm). ReadFits (rows s) 0 r t.from) (net_row s es r)
all_there s r [] few fits = All-nil (λ (t : NetTerm). ReadFits (rows s) 0 r t.from)
all_there s r (e ∷ es) few fits =
    by_test (is_in_row s r e) refl (all_there s r es few (All-tail (EntryFits s) e es fits))
  where
    by_test : (b : Bool) → is_in_row s r e ≡ b → All (λ (t : NetTerm). ReadFits (rows s) 0 r t.from) (net_row s es r) →
        All (λ (t : NetTerm). ReadFits (rows s) 0 r t.from)
        (map (term_of s) (cond b (e ∷ filter (is_in_row s r) es) (filter (is_in_row s r) es)))
    by_test true h rest =
        let p = and_parts (is_read e.block e.i e.j) (eqb (row_place s e.block e.i) r) h in
        let here = All-head (EntryFits s) e es fits in
        All-cons (λ (t : NetTerm). ReadFits (rows s) 0 r t.from) (term_of s e) (net_row s es r)
        (reads_there s r e.block e.i e.j few here.row here.column p.0 (eqb-true (row_place s e.block e.i) r p.1)) rest
    by_test false h rest = rest

-- each row is the sum of its terms, at one scale
abbrev pub RowsMeet : Implicit → ℕ → ℕ → ℕ → (ℕ → ℕ → ℤ) → (ℕ → ℕ → ℤ) → Type 0
RowsMeet f q g last x u =
    (k r : ℕ) → k ≤ last → r < rows f.sizes →
    pos (q * g) *ℤ x k r ≡ reads_sum (weight q g) x u k (net_row f.sizes f.entries r)

pub rows_meet : (f : Implicit) → ImplicitFits f → (q g last e : ℕ) (u z : ℕ → ℕ → ℤ) →
    IsRun (net_alone f) q u z (λ k i. pos 0) →
    RowsMeet f q g last (lifted last (rows f.sizes) q e z) (lifted_input last (rows f.sizes) q e u)
rows_meet f fits q g last e u z run k r h l =
    ap (λ v. pos (q * g) *ℤ (v *ℤ pos (raise last (rows f.sizes) q k r * e))) (runs_are_sums f fits q u z run k r l)
    ∙ lifted_terms last (rows f.sizes) q g e u z k r (net_row f.sizes f.entries r)
    (all_there f.sizes r f.entries fits.inputs_high fits.entries) l h

-- what is the same at a positive scale is the same
pub cancelled : (d : ℕ) (a b : ℤ) → 0 < d → pos d *ℤ a ≡ pos d *ℤ b → a ≡ b
cancelled d a b h e =
    let below = mul-le-back d a b h (omega (arith, ints, e)) in
    let above = mul-le-back d b a h (omega (arith, ints, e)) in
    omega (arith, ints, below, above)
