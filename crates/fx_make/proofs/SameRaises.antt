-- Raises of the same bounds are the same, whatever the caps past the rows.
use Rattle.std.proofs.Common.{◌≡◌, ℕ, zero, suc, ◌<◌, arith, refl, ap, ap₂, sym, ◌∙◌}
use Rattle.std.proofs.Common.{cond, Bool, true, false, not, eqb, ltb}
use Rattle.std.specs.Prelude.{Option, Some, None}
use Rattle.std.specs.Option.{option_or}
use Rattle.fx_block.specs.Raising.{first_row, Raises, ended, ended_by, raises_by}
use Rattle.fx_block.specs.Raising.Raises.{Over, Slow}

-- the first row that passes a test is one of the rows
pub first_inside : (n : ℕ) (test : ℕ → Bool) (j : ℕ) → first_row n test ≡ Some j → j < n
first_inside zero test j e = cc
first_inside (suc n) test j e = by (first_inside n test j) (first_row n test) refl (test n) refl
  where
    by : (first_row n test ≡ Some j → j < n) → (o : Option ℕ) → first_row n test ≡ o →
        (b : Bool) → test n ≡ b → j < suc n
    by again (Some i) f b g =
        let same : Some i ≡ Some j = sym (ap (λ x. option_or x (cond (test n) (Some n) None)) f) ∙ e in
        let at = again (f ∙ same) in
        omega (arith, at)
    by again None f true g =
        let same : Some n ≡ Some j =
        sym (ap (λ x. option_or x (cond (test n) (Some n) None)) f ∙ ap (λ b. cond b (Some n) None) g) ∙ e in
        let at : n ≡ j = cc in
        omega (arith, at)
    by again None f false g =
        let same : None ≡ Some j =
        sym (ap (λ x. option_or x (cond (test n) (Some n) None)) f ∙ ap (λ b. cond b (Some n) None) g) ∙ e in
        cc

pub first_row_same : (n : ℕ) (f g : ℕ → Bool) → ((j : ℕ) → j < n → f j ≡ g j) → first_row n f ≡ first_row n g
first_row_same zero f g same = refl
first_row_same (suc n) f g same =
    ap₂ (λ a b. option_or a b) (first_row_same n f g (λ j l. same j (omega arith)))
    (ap (λ b. cond b (Some n) None) (same n (omega arith)))

module _ (n : ℕ) (caps others : ℕ → ℕ) (same : (j : ℕ) → j < n → caps j ≡ others j) where
  end_same : (rows next : ℕ → ℕ) (go_on : ℕ → Raises) (over : Option ℕ) (changed : Option ℕ) →
      first_row n (λ j. ltb (caps j) (next j)) ≡ over →
      ended caps rows next over changed go_on ≡ ended others rows next over changed go_on
  end_same rows next go_on (Some j) changed e =
      ap (Over j (next j)) (same j (first_inside n (λ j. ltb (caps j) (next j)) j e))
  end_same rows next go_on None None e = refl
  end_same rows next go_on None (Some j) e = refl

  ended_same : (rows next : ℕ → ℕ) (go_on : ℕ → Raises) →
      ended_by n caps rows next go_on ≡ ended_by n others rows next go_on
  ended_same rows next go_on =
      end_same rows next go_on (first_row n (λ j. ltb (caps j) (next j)))
      (first_row n (λ j. not (eqb (next j) (rows j)))) refl
      ∙ ap (λ o. ended others rows next o (first_row n (λ j. not (eqb (next j) (rows j)))) go_on)
      (first_row_same n (λ j. ltb (caps j) (next j)) (λ j. ltb (others j) (next j)) (λ j l.
      ap (λ c. ltb c (next j)) (same j l)))

  pub caps_same : (raise : (ℕ → ℕ) → ℕ → ℕ) (more : ℕ) (rows : ℕ → ℕ) →
      raises_by raise n caps more rows ≡ raises_by raise n others more rows
  caps_same raise zero rows =
      ended_same rows (raise rows) (λ j. Slow j (rows j) (raise rows j))
  caps_same raise (suc more) rows =
      ended_same rows (raise rows) (λ j. raises_by raise n caps more (raise rows))
      ∙ ap (λ (r : Raises). ended_by n others rows (raise rows) (λ j. r)) (caps_same raise more (raise rows))
