-- The terms of a program's row as a net keeps them.
use Rattle.std.proofs.Common.{◌≡◌, ℕ, suc, ◌/◌, ◌^◌, ◌<◌, Bool, true, false, cond, eqb, List, [], ◌∷◌, map}
use Rattle.std.proofs.Common.{length, get_or, arith, refl, ap, sym, ◌∙◌}
use Rattle.std.proofs.Math.IntN.{ℤ, pos, ◌*ℤ◌}
use Rattle.std.specs.Prelude.{unsigned_abs}
use Rattle.std.specs.List.{AllByRecursion, IsDistinct}
use Rattle.std.proofs.lemmas.Int.{ints}
use Rattle.std.proofs.lemmas.Bool.{eq-eqb, eqb-true, cond-false}
use Rattle.std.proofs.lemmas.Map.Keys.{IsDistinct-head, IsDistinct-tail}
use Rattle.fx_nums.specs.Fraction.{Fraction, over, zero_fraction, IsWholeOver}
use Rattle.fx_nums.specs.declared.fraction.Den.TheVariants.{Two}
use Rattle.fx_eqs.specs.Expanded.{NetRead, NetTerm}
use Rattle.fx_net.specs.Net.{plain}
use Rattle.fx_net.specs.Rows.{coefficient_or, ReadFits}
use Rattle.fx_net.proofs.Carried.{right}
use Rattle.fx_net.proofs.Coefficients.{NotRead, AreOnce, AllFit}
use Rattle.fx_code.specs.Code.{weight}
use Rattle.fx_code.specs.Limits.{same_source}
use Rattle.fx_code.specs.NetRows.{net_read, net_term}
use Rattle.fx_code.specs.declared.term.CodeTerm.{CodeTerm}
use Rattle.fx_code.specs.declared.term.Read.{Read}
use Rattle.fx_code.specs.declared.term.Read.TheVariants.{Now, Old, In}

-- ---- as they are kept

-- a coefficient of value 0 is kept as 0 over one
abbrev pub kept : ℕ → ℤ → Fraction
kept shift w = plain (record { num = w; den = Two shift })

abbrev pub kept_term : ℕ → CodeTerm → NetTerm
kept_term shift t = record { coef = kept shift (weight t); from = net_read t.from }

plain_twice : (c : Fraction) → plain (plain c) ≡ plain c
plain_twice c = by_test (eqb (unsigned_abs c.num) 0) refl
  where
    by_test : (b : Bool) → eqb (unsigned_abs c.num) 0 ≡ b → plain (cond b zero_fraction c) ≡ cond b zero_fraction c
    by_test true e = refl
    by_test false e = cond-false _ _ _ e

pub coefficient_kept : (reads : NetRead → Bool) (shift : ℕ) (ts : List CodeTerm) (c : Fraction) →
    coefficient_or c reads (map (net_term shift) ts) ≡ coefficient_or c reads (map (kept_term shift) ts)
coefficient_kept reads shift [] c = refl
coefficient_kept reads shift (t ∷ ts) c =
    ap (λ x. coefficient_or (cond (reads (net_read t.from)) x c) reads (map (net_term shift) ts))
    (sym (plain_twice (record { num = weight t; den = Two shift })))
    ∙ coefficient_kept reads shift ts (cond (reads (net_read t.from)) (plain (kept shift (weight t))) c)

-- ---- each source once

read_apart : (a b : Read) → same_source a b ≡ false → net_read b ≡ net_read a → ⊥
read_apart (Now i) (Now j) e h = let same : i ≡ j = cc in let yes : eqb i j ≡ true = eq-eqb i j same in cc
read_apart (Now i) (Old j) e h = cc
read_apart (Now i) (In j) e h = cc
read_apart (Old i) (Now j) e h = cc
read_apart (Old i) (Old j) e h = let same : i ≡ j = cc in let yes : eqb i j ≡ true = eq-eqb i j same in cc
read_apart (Old i) (In j) e h = cc
read_apart (In i) (Now j) e h = cc
read_apart (In i) (Old j) e h = cc
read_apart (In i) (In j) e h = let same : i ≡ j = cc in let yes : eqb i j ≡ true = eq-eqb i j same in cc

not_read : (shift : ℕ) (a : Read) (ts : List CodeTerm) →
    AllByRecursion (λ (t : CodeTerm). same_source a t.from ≡ false) ts →
    NotRead (net_read a) (map (kept_term shift) ts)
not_read shift a [] h = tt
not_read shift a (t ∷ ts) h = (read_apart a t.from h.0, not_read shift a ts h.1)

pub are_once : (shift : ℕ) (ts : List CodeTerm) →
    IsDistinct (λ (e t : CodeTerm). same_source e.from t.from) ts → AreOnce (map (kept_term shift) ts)
are_once shift [] h = tt
are_once shift (t ∷ ts) h = (
  not_read shift t.from ts (IsDistinct-head (λ (e t : CodeTerm). same_source e.from t.from) t ts h),
  plain_twice (record { num = weight t; den = Two shift }),
  are_once shift ts (IsDistinct-tail (λ (e t : CodeTerm). same_source e.from t.from) t ts h),
)

pub all_fit : (n at i shift : ℕ) (ts : List CodeTerm) →
    ((k : ℕ) (d : CodeTerm) → k < length ts → ReadFits n at i (net_read (get_or ts k d).from)) →
    AllFit n at i (map (kept_term shift) ts)
all_fit n at i shift [] h = tt
all_fit n at i shift (t ∷ ts) h = (h 0 t (omega arith), all_fit n at i shift ts (λ k d l. h (suc k) d (omega arith)))

-- ---- a coefficient over the denominator

pub kept_over : (q shift : ℕ) (w : ℤ) → IsWholeOver q (kept shift w) →
    pos (2 ^ shift) *ℤ over q (kept shift w) ≡ w *ℤ pos q
kept_over q shift w = by_test (eqb (unsigned_abs w) 0) refl
  where
    coefficient_of : Fraction
    coefficient_of = record { num = w; den = Two shift }

    by_test : (b : Bool) → eqb (unsigned_abs w) 0 ≡ b → IsWholeOver q (cond b zero_fraction coefficient_of) →
        pos (2 ^ shift) *ℤ over q (cond b zero_fraction coefficient_of) ≡ w *ℤ pos q
    by_test true e h =
        let none : w ≡ pos 0 = let a = eqb-true (unsigned_abs w) 0 e in omega (arith, ints) in
        let left : over q zero_fraction ≡ pos 0 = omega (arith, ints) in
        ap (λ x. pos (2 ^ shift) *ℤ x) left ∙ (let zero : pos (2 ^ shift) *ℤ pos 0 ≡ pos 0 *ℤ pos q =
        omega (arith, ints) in zero) ∙ sym (ap (λ x. x *ℤ pos q) none)
    by_test false e h = right (2 ^ shift) (q / 2 ^ shift) q w h
