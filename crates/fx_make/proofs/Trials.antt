-- What a trial says that passes.
use Rattle.std.proofs.Common.{◌≡◌, ℕ, zero, suc, ◌+◌, ◌<◌, arith, refl, ap, ◌∙◌, subst, inl, inr, length}
use Rattle.std.proofs.Common.{cond, Bool, true, false, List}
use Rattle.std.proofs.Math.IntN.{ℤ}
use Rattle.std.specs.Int.Signed.{◌≤ℤ◌}
use Rattle.std.specs.Prelude.{Option, Some, None, int_le}
use Rattle.std.specs.Option.{option_or, option_map}
use Rattle.std.proofs.lemmas.Bool.{cases_lt}
use Rattle.std.proofs.lemmas.Int.{ints}
use Rattle.fx_files.specs.Filter.{Filter}
use Rattle.fx_code.specs.Code.{BareRow}
use Rattle.fx_sweep.specs.declared.target.RangeAt.{RangeAt}
use Rattle.fx_block.specs.Candidate.{Trial, candidate_count, candidate_net, candidate_range, candidate_total}
use Rattle.fx_block.specs.Candidate.{cap_of, first_above, first_target, trial, with_bounds, with_errors, with_range}
use Rattle.fx_block.specs.Candidate.Trial.{Passed, OutOfRange, OverCap, TooSlow, AboveTarget}
use Rattle.fx_block.specs.Formats.{bound_of, output_at}
use Rattle.fx_block.specs.Raising.{Raises, least_by_raises}
use Rattle.fx_block.specs.Raising.Raises.{Rest, Over, Slow}

-- ---- the first of some

pub neither : {A : Type 0} (x y : Option A) → option_or x y ≡ None → (x ≡ None) × (y ≡ None)
neither (Some a) y e = cc
neither None y e = (refl, e)

not_mapped : {A B : Type 0} (f : A → B) (x : Option A) → option_map f x ≡ None → x ≡ None
not_mapped f (Some a) e = cc
not_mapped f None e = refl

-- no target meets a range where none is told as the first
pub no_target : (n from : ℕ) (range : ℕ → Option RangeAt) → first_target n from range ≡ None → (j : ℕ) → j < n →
    range j ≡ None
no_target zero from range e j l = absurd (omega arith)
no_target (suc n) from range e j l =
    let both = neither (first_target n from range) (option_map (λ (at : RangeAt). (from + n, at)) (range n)) e in
    elim (cases_lt j n) [
      | inl below ↦ no_target n from range both.0 j below
      | inr last ↦ subst (λ i. range i ≡ None) (let same : n ≡ j = omega arith in same)
          (not_mapped (λ (at : RangeAt). (from + n, at)) (range n) both.1)
    ]

not_above : (n : ℕ) (a b : ℤ) → cond (int_le a b) None (Some n) ≡ None → a ≤ℤ b
not_above n a b e = by (int_le a b) refl e
  where
    by : (t : Bool) → int_le a b ≡ t → cond t None (Some n) ≡ None → a ≤ℤ b
    by true f g = omega (arith, ints, f)
    by false f g = cc

-- no total is above its target where none is told as the first
pub none_above : (n : ℕ) (total target : ℕ → ℤ) → first_above n total target ≡ None → (o : ℕ) → o < n →
    total o ≤ℤ target o
none_above zero total target e o l = absurd (omega arith)
none_above (suc n) total target e o l =
    let both = neither (first_above n total target) (cond (int_le (total n) (target n)) None (Some n)) e in
    elim (cases_lt o n) [
      | inl below ↦ none_above n total target both.0 o below
      | inr last ↦ subst (λ i. total i ≤ℤ target i) (let same : n ≡ o = omega arith in same)
          (not_above n (total n) (target n) both.1)
    ]

-- ---- a trial that passes

abbrev rests_at : Filter → List BareRow → ℕ → Raises
rests_at f rows m =
    least_by_raises (candidate_net f rows) (candidate_count f rows) (λ j. m) (bound_of f) (cap_of f rows)

abbrev above_at : Filter → List BareRow → ℕ → (ℕ → ℕ) → Option ℕ
above_at f rows m x = first_above (length f.outputs) (candidate_total f rows m x) (λ o. (output_at f o).target)

-- no target met a range, the raises came to rest, and no total is above its target
pub record HasPassed (f : Filter) (rows : List BareRow) (m : ℕ) (x : ℕ → ℕ) : Type 0 where
  pub range : candidate_range f rows m ≡ None
  pub rest : rests_at f rows m ≡ Rest x
  pub above : above_at f rows m x ≡ None

bounds_of : Trial → ℕ → ℕ
bounds_of (Passed x) = x
bounds_of (OutOfRange target at) = λ j. 0
bounds_of (OverCap row value cap) = λ j. 0
bounds_of (TooSlow row before after) = λ j. 0
bounds_of (AboveTarget output total target) = λ j. 0

module _ (f : Filter) (rows : List BareRow) (m : ℕ) (x : ℕ → ℕ) where
  by_above : (y : ℕ → ℕ) (o : Option ℕ) → above_at f rows m y ≡ o →
      with_errors f y (candidate_total f rows m y) o ≡ Passed x → (y ≡ x) × (above_at f rows m y ≡ None)
  unfolding bounds_of
  by_above y None e h = (ap bounds_of h, e)
  by_above y (Some o) e h = cc

  by_rest : (r : Raises) → rests_at f rows m ≡ r → candidate_range f rows m ≡ None →
      with_bounds f rows m r ≡ Passed x → HasPassed f rows m x
  by_rest (Rest y) e none h =
      let at : (y ≡ x) × (above_at f rows m y ≡ None) = by_above y (above_at f rows m y) refl h in
      record {
        range = none;
        rest = e ∙ ap Rest at.0;
        above = subst (λ z. above_at f rows m z ≡ None) at.0 at.1;
      }
  by_rest (Over row value cap) e none h = cc
  by_rest (Slow row before after) e none h = cc

  by_range : (found : Option (ℕ × RangeAt)) → candidate_range f rows m ≡ found →
      with_range f rows m found ≡ Passed x → HasPassed f rows m x
  by_range (Some found) e h = cc
  by_range None e h = by_rest (rests_at f rows m) refl e h

  pub has_passed : trial f rows m ≡ Passed x → HasPassed f rows m x
  has_passed h = by_range (candidate_range f rows m) refl h
