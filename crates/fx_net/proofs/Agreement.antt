-- Nets that run the same equations agree in each of the expanded rows.
use Rattle.std.proofs.Common.{◌≡◌, ◌⊎◌, ℕ, zero, suc, ◌+◌, ◌-◌, ◌*◌, ◌<◌, ◌≤◌, length, arith, sym}
use Rattle.std.proofs.Common.{inl, inr}
use Rattle.std.proofs.Math.IntN.{ℤ}
use Rattle.std.proofs.Math.Nat.{one-le-pow}
use Rattle.std.proofs.lemmas.Bool.{cases_lt}
use Rattle.fx_math.specs.Ratio.{Ratio, SameValue, whole}
use Rattle.fx_math.specs.Sums.{sum_below}
use Rattle.fx_math.specs.Unroll.{lagged}
use Rattle.fx_math.proofs.Values.{same_chains}
use Rattle.fx_eqs.proofs.Expanding.{length-expanded}
use Rattle.fx_eqs.specs.Equations.{Equations}
use Rattle.fx_eqs.specs.ExactRun.{row_value}
use Rattle.fx_eqs.specs.Expanded.{expanded, input_hold_place, row_hold_place, row_place}
use Rattle.fx_eqs.specs.Lags.{greatest_lag}
use Rattle.fx_eqs.specs.Values.{earlier}
use Rattle.fx_eqs.specs.declared.term.Source.TheVariants.{Row, In}
use Rattle.fx_net.specs.Laws.{HasExactValues}
use Rattle.fx_net.specs.Net.{Net}
use Rattle.fx_net.specs.Run.{net_value}

-- a place in consecutive parts is one in a part
record InPart (f : ℕ → ℕ) (n r : ℕ) : Type 0 where
  part : ℕ
  place : ℕ
  low : part < n
  inside : place < f part
  is : r ≡ sum_below part f + place

in_part : (f : ℕ → ℕ) (n r : ℕ) → r < sum_below n f → InPart f n r
in_part f zero r h = absurd (omega arith)
in_part f (suc n) r h = elim (cases_lt r (sum_below n f)) [
  | inl below ↦ (let p = in_part f n r below in
      record { part = p.part; place = p.place; low = let l = p.low in omega arith; inside = p.inside; is = p.is })
  | inr from ↦ record { part = n; place = r - sum_below n f; low = omega arith; inside = omega arith; is = omega arith }
]

-- values that are the same as a value over a positive denominator
both : (a b c : Ratio) → 0 < b.den → SameValue a b → SameValue c b → SameValue a c
both a b c h x y = same_chains a b c h x (sym y)

earlier_positive : (value : ℕ → Ratio) → ((k : ℕ) → 0 < (value k).den) → (k l : ℕ) → 0 < (earlier value k l).den
earlier_positive value h k zero = h k
earlier_positive value h zero (suc l) = omega arith
earlier_positive value h (suc k) (suc l) = earlier_positive value h k l

module _ (s : Equations) (g : ℕ) (a b : Net) (at place q p : ℕ) (u y z : ℕ → ℕ → ℤ) (positive : 0 < g)
    (one : HasExactValues s g a q at u y) (other : HasExactValues s g b p place u z) where
  row_positive : (i k : ℕ) → 0 < (row_value s g u k i).den
  row_positive i k = one-le-pow (k * s.rows + i + 1) g positive

  abbrev Agrees : ℕ → ℕ → Type 0
  Agrees k r = SameValue (net_value a q y k (at + r)) (net_value b p z k (place + r))

  at_row : (k i r : ℕ) → i < s.rows → r ≡ row_place s i → Agrees k r
  at_row k i r h e = rw e (both (net_value a q y k (at + row_place s i)) (row_value s g u k i)
      (net_value b p z k (place + row_place s i)) (row_positive i k) (one.rows k i h) (other.rows k i h))

  at_input_hold : (k j l r : ℕ) → j < s.inputs → l < greatest_lag (In j) s.terms →
      r ≡ input_hold_place s j + l → Agrees k r
  at_input_hold k j l r h m e =
      rw e
      (both (net_value a q y k (at + (input_hold_place s j + l))) (whole (lagged u k l j))
      (net_value b p z k (place + (input_hold_place s j + l))) (omega arith)
      (one.input_holds k j l h m) (other.input_holds k j l h m))

  at_row_hold : (k j l r : ℕ) → j < s.rows → l < greatest_lag (Row j) s.terms - 1 →
      r ≡ row_hold_place s j + l → Agrees k r
  at_row_hold k j l r h m e =
      rw e
      (both (net_value a q y k (at + (row_hold_place s j + l))) (earlier (λ m. row_value s g u m j) k (suc l))
      (net_value b p z k (place + (row_hold_place s j + l)))
      (earlier_positive (λ m. row_value s g u m j) (λ m. row_positive j m) k (suc l)) (one.row_holds k j l h m)
      (other.row_holds k j l h m))

  pub all_agree : (k r : ℕ) → r < length (expanded s) → Agrees k r
  all_agree k r h = by_part (cases_lt r (row_place s 0)) (cases_lt r (row_place s s.rows))
    where
      by_part : (r < row_place s 0) ⊎ (row_place s 0 ≤ r) →
          (r < row_place s s.rows) ⊎ (row_place s s.rows ≤ r) → Agrees k r
      by_part (inl before) _ =
          let i = in_part (λ j. greatest_lag (In j) s.terms) s.inputs r (omega arith) in
          at_input_hold k i.part i.place r i.low i.inside i.is
      by_part (inr from) (inl below) = at_row k (r - row_place s 0) r (omega arith) (omega arith)
      by_part (inr from) (inr behind) =
          let all = length-expanded s in
          let i = in_part (λ j. greatest_lag (Row j) s.terms - 1) s.rows (r - row_place s s.rows) (omega arith) in
          at_row_hold k i.part i.place r i.low i.inside (let e = i.is in omega arith)
