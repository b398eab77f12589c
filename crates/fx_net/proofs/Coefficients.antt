-- Terms that read each source once: the coefficient of a source, and sums over the sources.
use Rattle.std.proofs.Common.{◌≡◌, ℕ, zero, suc, ◌+◌, ◌<◌, ◌≤◌, List, [], ◌∷◌, arith, refl, ap, ap₂, ◌∙◌, inl}
use Rattle.std.proofs.Common.{inr, Bool, true, false, cond, eqb}
use Rattle.std.proofs.Math.IntN.{ℤ, pos, ◌+ℤ◌, ◌*ℤ◌}
use Rattle.std.proofs.lemmas.Int.{ints}
use Rattle.std.proofs.lemmas.Bool.{cases_lt, eq-eqb, ne_eqb, eqb-true}
use Rattle.fx_math.specs.Sums.{total}
use Rattle.fx_math.proofs.Ring.{add-mul}
use Rattle.fx_math.proofs.Sums.{total_add, total_ext, total_zero}
use Rattle.fx_eqs.specs.declared.limits.TheConstants.{PORTS}
use Rattle.fx_nums.specs.Fraction.{Fraction, over, IsWholeOver, zero_fraction}
use Rattle.fx_eqs.specs.Expanded.{NetRead, NetTerm}
use Rattle.fx_eqs.specs.Expanded.NetRead.{Now, Old, In}
use Rattle.fx_net.specs.Net.{plain}
use Rattle.fx_net.specs.Rows.{reads_now, reads_old, reads_input, coefficient_or, coefficient, ReadFits}

-- ---- each source once

-- no term reads this
abbrev pub NotRead : NetRead → List NetTerm → Type 0
NotRead r [] = Unit {0}
NotRead r (t ∷ ts) = (t.from ≡ r → ⊥) × NotRead r ts

-- no two terms read the same, and no coefficient has another form
abbrev pub AreOnce : List NetTerm → Type 0
AreOnce [] = Unit {0}
AreOnce (t ∷ ts) = NotRead t.from ts × (plain t.coef ≡ t.coef) × AreOnce ts

-- a test that one source passes at most
abbrev pub PicksOne : (NetRead → Bool) → Type 0
PicksOne reads = (a b : NetRead) → reads a ≡ true → reads b ≡ true → a ≡ b

pub now_picks : (at j : ℕ) → PicksOne (reads_now at j)
now_picks at j (Now a) (Now b) e f = let x = eqb-true j (at + a) e in let y =
    eqb-true j (at + b) f in ap Now (omega arith)
now_picks at j (Now a) (Old b) e f = cc
now_picks at j (Now a) (In b) e f = cc
now_picks at j (Old a) b e f = cc
now_picks at j (In a) b e f = cc

pub old_picks : (at j : ℕ) → PicksOne (reads_old at j)
old_picks at j (Old a) (Old b) e f = let x = eqb-true j (at + a) e in let y =
    eqb-true j (at + b) f in ap Old (omega arith)
old_picks at j (Old a) (Now b) e f = cc
old_picks at j (Old a) (In b) e f = cc
old_picks at j (Now a) b e f = cc
old_picks at j (In a) b e f = cc

pub input_picks : (j : ℕ) → PicksOne (reads_input j)
input_picks j (In a) (In b) e f = let x = eqb-true j a e in let y = eqb-true j b f in ap In (omega arith)
input_picks j (In a) (Now b) e f = cc
input_picks j (In a) (Old b) e f = cc
input_picks j (Now a) b e f = cc
input_picks j (Old a) b e f = cc

-- what the terms take of the source, over q
abbrev pub taken : (NetRead → Bool) → ℕ → List NetTerm → ℤ
taken reads q [] = pos 0
taken reads q (t ∷ ts) = cond (reads t.from) (over q t.coef) (pos 0) +ℤ taken reads q ts

module _ (reads : NetRead → Bool) (one : PicksOne reads) where
  -- what is read by none of the others
  pub none_reads : (r : NetRead) → reads r ≡ true → (ts : List NetTerm) → NotRead r ts → (c : Fraction) →
      coefficient_or c reads ts ≡ c
  none_reads r e [] n c = refl
  none_reads r e (t ∷ ts) n c = by_test (none_reads r e ts n.1 c) (reads t.from) refl
    where
      by_test : coefficient_or c reads ts ≡ c → (b : Bool) → reads t.from ≡ b →
          coefficient_or (cond b (plain t.coef) c) reads ts ≡ c
      by_test rest true h = absurd (n.0 (one t.from r h e))
      by_test rest false h = rest

  taken_none : (q : ℕ) (r : NetRead) → reads r ≡ true → (ts : List NetTerm) → NotRead r ts → taken reads q ts ≡ pos 0
  taken_none q r e [] n = refl
  taken_none q r e (t ∷ ts) n = by_test (taken_none q r e ts n.1) (reads t.from) refl
    where
      by_test : taken reads q ts ≡ pos 0 → (b : Bool) → reads t.from ≡ b →
          cond b (over q t.coef) (pos 0) +ℤ taken reads q ts ≡ pos 0
      by_test rest true h = absurd (n.0 (one t.from r h e))
      by_test rest false h = omega (arith, ints)

  pub coefficient_over : (q : ℕ) (ts : List NetTerm) → AreOnce ts → over q (coefficient reads ts) ≡ taken reads q ts
  coefficient_over q [] h = omega (arith, ints)
  coefficient_over q (t ∷ ts) h = by_test (coefficient_over q ts h.2) (reads t.from) refl
    where
      by_test : over q (coefficient reads ts) ≡ taken reads q ts → (b : Bool) → reads t.from ≡ b →
          over q (coefficient_or (cond b (plain t.coef) zero_fraction) reads ts)
          ≡ cond b (over q t.coef) (pos 0) +ℤ taken reads q ts
      by_test rest true e =
          ap (over q) (none_reads t.from e ts h.0 (plain t.coef) ∙ h.1)
          ∙ (let none = taken_none q t.from e ts h.0 in omega (arith, ints))
      by_test rest false e = omega (arith, ints)

  -- where q is whole for the source's coefficient, it is for the term that reads it, and for the rest
  pub whole_here : (q : ℕ) (t : NetTerm) (ts : List NetTerm) → AreOnce (t ∷ ts) → reads t.from ≡ true →
      IsWholeOver q (coefficient reads (t ∷ ts)) → IsWholeOver q t.coef
  whole_here q t ts h e w =
      let same : coefficient reads (t ∷ ts) ≡ t.coef =
      ap (λ b. coefficient_or (cond b (plain t.coef) zero_fraction) reads ts) e
      ∙ none_reads t.from e ts h.0 (plain t.coef) ∙ h.1 in
      rw same at w

  pub whole_rest : (q : ℕ) (t : NetTerm) (ts : List NetTerm) → AreOnce (t ∷ ts) → IsWholeOver q zero_fraction →
      IsWholeOver q (coefficient reads (t ∷ ts)) → IsWholeOver q (coefficient reads ts)
  whole_rest q t ts h z = by_test (reads t.from) refl
    where
      by_test : (b : Bool) → reads t.from ≡ b →
          IsWholeOver q (coefficient_or (cond b (plain t.coef) zero_fraction) reads ts) →
          IsWholeOver q (coefficient reads ts)
      by_test true e w = let none = none_reads t.from e ts h.0 zero_fraction in rw none z
      by_test false e w = w

-- ---- a sum over terms is a sum over sources

-- what is read, of the values of this moment, those of the moment before and the inputs
abbrev pub value_at : ℕ → NetRead → (ℕ → ℤ) → (ℕ → ℤ) → (ℕ → ℤ) → ℤ
value_at at (Now s) now old u = now (at + s)
value_at at (Old s) now old u = old (at + s)
value_at at (In s) now old u = u s

abbrev pub net_sum : ℕ → ℕ → List NetTerm → (ℕ → ℤ) → (ℕ → ℤ) → (ℕ → ℤ) → ℤ
net_sum q at [] now old u = pos 0
net_sum q at (t ∷ ts) now old u = over q t.coef *ℤ value_at at t.from now old u +ℤ net_sum q at ts now old u

abbrev pub AllFit : ℕ → ℕ → ℕ → List NetTerm → Type 0
AllFit n at r [] = Unit {0}
AllFit n at r (t ∷ ts) = ReadFits n at r t.from × AllFit n at r ts

pub zero-mul : (z : ℤ) → pos 0 *ℤ z ≡ pos 0
zero-mul z = omega (arith, ints)

-- w at place t, 0 elsewhere
only_here : (n t : ℕ) (w : ℤ) → n ≡ t → cond (eqb n t) w (pos 0) ≡ w
only_here n t w e = rw (eq-eqb n t e) refl

only_not : (n t : ℕ) (w : ℤ) → (n ≡ t → ⊥) → cond (eqb n t) w (pos 0) ≡ pos 0
only_not n t w ne = rw (ne_eqb n t ne) refl

only_past : (n t : ℕ) (w : ℤ) (x : ℕ → ℤ) → n ≤ t → total n (λ j. cond (eqb j t) w (pos 0) *ℤ x j) ≡ pos 0
only_past n t w x h =
    total_ext n (λ j. cond (eqb j t) w (pos 0) *ℤ x j) (λ j. pos 0) (λ j l.
    ap (λ y. y *ℤ x j) (only_not j t w (λ e. omega arith)) ∙ zero-mul (x j))
    ∙ total_zero n

only_at : (n t : ℕ) (w : ℤ) (x : ℕ → ℤ) → t < n → total n (λ j. cond (eqb j t) w (pos 0) *ℤ x j) ≡ w *ℤ x t
only_at zero t w x h = absurd (omega arith)
only_at (suc n) t w x h =
    elim (cases_lt t n) [
      | inl below ↦
          let none : cond (eqb n t) w (pos 0) *ℤ x n ≡ pos 0 =
          ap (λ y. y *ℤ x n) (only_not n t w (λ e. omega arith)) ∙ zero-mul (x n) in
          let rest = only_at n t w x below in
          omega (arith, ints)
      | inr from ↦
          let e : n ≡ t = omega arith in
          let here : cond (eqb n t) w (pos 0) *ℤ x n ≡ w *ℤ x t = ap₂ (λ y z. y *ℤ z) (only_here n t w e) (ap x e) in
          let rest = only_past n t w x (omega arith) in
          omega (arith, ints)
    ]

nothing : (n : ℕ) (x : ℕ → ℤ) → total n (λ j. pos 0 *ℤ x j) ≡ pos 0
nothing n x = total_ext n (λ j. pos 0 *ℤ x j) (λ j. pos 0) (λ j l. zero-mul (x j)) ∙ total_zero n

one_more : (n : ℕ) (a b x : ℕ → ℤ) → total n (λ j. (a j +ℤ b j) *ℤ x j)
    ≡ total n (λ j. a j *ℤ x j) +ℤ total n (λ j. b j *ℤ x j)
one_more n a b x =
    total_ext n (λ j. (a j +ℤ b j) *ℤ x j) (λ j. a j *ℤ x j +ℤ b j *ℤ x j) (λ j l. add-mul (a j) (b j) (x j))
    ∙ total_add n (λ j. a j *ℤ x j) (λ j. b j *ℤ x j)

one_source : (n at r : ℕ) (from : NetRead) (w : ℤ) (now old u : ℕ → ℤ) → ReadFits n at r from →
    w *ℤ value_at at from now old u
    ≡ total (at + r) (λ j. cond (reads_now at j from) w (pos 0) *ℤ now j) +ℤ total n (λ j.
    cond (reads_old at j from) w (pos 0) *ℤ old j)
    +ℤ total PORTS (λ j. cond (reads_input j from) w (pos 0) *ℤ u j)
one_source n at r (Now s) w now old u h =
    let a = only_at (at + r) (at + s) w now (omega arith) in
    let b = nothing n old in
    let c = nothing PORTS u in
    omega (arith, ints)
one_source n at r (Old s) w now old u h =
    let a = nothing (at + r) now in
    let b = only_at n (at + s) w old h in
    let c = nothing PORTS u in
    omega (arith, ints)
one_source n at r (In s) w now old u h =
    let a = nothing (at + r) now in
    let b = nothing n old in
    let c = only_at PORTS s w u h in
    omega (arith, ints)

pub sum_by_source : (q n at r : ℕ) (ts : List NetTerm) (now old u : ℕ → ℤ) → AllFit n at r ts →
    net_sum q at ts now old u
    ≡ total (at + r) (λ j. taken (reads_now at j) q ts *ℤ now j) +ℤ total n (λ j. taken (reads_old at j) q ts *ℤ old j)
    +ℤ total PORTS (λ j. taken (reads_input j) q ts *ℤ u j)
sum_by_source q n at r [] now old u h = omega (arith, ints, nothing (at + r) now, nothing n old, nothing PORTS u)
sum_by_source q n at r (t ∷ ts) now old u h =
    omega (
      arith,
      ints,
      one_source n at r t.from (over q t.coef) now old u h.0,
      sum_by_source q n at r ts now old u h.1,
      one_more (at + r) (λ j. cond (reads_now at j t.from) (over q t.coef) (pos 0)) (λ j.
          taken (reads_now at j) q ts) now,
      one_more n (λ j. cond (reads_old at j t.from) (over q t.coef) (pos 0)) (λ j. taken (reads_old at j) q ts) old,
      one_more PORTS (λ j. cond (reads_input j t.from) (over q t.coef) (pos 0)) (λ j. taken (reads_input j) q ts) u,
    )
