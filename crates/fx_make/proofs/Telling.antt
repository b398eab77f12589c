-- What is told of the steps of a trial is told of the trial.
use Rattle.std.proofs.Common.{◌≡◌, ℕ, zero, suc, ◌+◌, ◌<◌, arith, refl, ap, ap₂, sym, ◌∙◌, subst, inl, inr}
use Rattle.std.proofs.Common.{cond, Bool, true, false, List, length}
use Rattle.std.proofs.Math.IntN.{ℤ, pos}
use Rattle.std.specs.Int.Signed.{◌≤ℤ◌, ◌<ℤ◌}
use Rattle.std.specs.Prelude.{Option, Some, None, int_le}
use Rattle.std.specs.Option.{option_or}
use Rattle.std.proofs.lemmas.Bool.{cases_lt}
use Rattle.std.proofs.lemmas.Int.{ints}
use Rattle.fx_files.specs.Filter.{Filter}
use Rattle.fx_code.specs.Code.{BareRow}
use Rattle.fx_sweep.specs.declared.target.RangeAt.{RangeAt}
use Rattle.fx_totals.specs.declared.target_range.TargetRange.{TargetRange}
use Rattle.fx_block.specs.Candidate.{candidate_range, candidate_total, first_above, trial, with_bounds, with_errors}
use Rattle.fx_block.specs.Candidate.{with_range}
use Rattle.fx_block.specs.Candidate.Trial.{Passed}
use Rattle.fx_block.specs.Formats.{output_at}
use Rattle.fx_block.specs.Raising.{Raises}
use Rattle.fx_block.specs.Raising.Raises.{Rest, Over as OverCap, Slow as TooSlow}
use Rattle.fx_block.specs.Told.{Tells}
use Rattle.fx_block.specs.declared.least.Least.{Least}
use Rattle.fx_make.specs.Candidates.{trial_fail}
use Rattle.fx_make.specs.Lengths.{TellsRaises, TellsTrial, above_fail, first_above_fail, least_fail}
use Rattle.fx_make.specs.Lengths.{raises_of}
use Rattle.fx_make.specs.declared.fail.Fail.{Fail}
use Rattle.fx_make.specs.declared.fail.Fail.TheVariants.{Over, Range, Slow, Error}
use Rattle.fx_make.proofs.Sweeps.{told_range}

-- ---- raises

pub raises_told : (r : Raises) (least : Least) (fail : Option Fail) (x : ℕ → ℕ) → Tells r least x →
    fail ≡ least_fail least → TellsRaises r fail x
raises_told (Rest rows) least fail x h e = (e ∙ ap least_fail h.0, h.1)
raises_told (OverCap row value cap) least fail x h e = e ∙ ap least_fail h
raises_told (TooSlow row before after) least fail x h e = e ∙ ap least_fail h

-- ---- totals above their targets

is_above : (n : ℕ) (a b : ℤ) → b <ℤ a → cond (int_le a b) None (Some n) ≡ Some n
is_above n a b l = by (int_le a b) refl
  where
    by : (t : Bool) → int_le a b ≡ t → cond t None (Some n) ≡ Some n
    by true e = absurd (omega (arith, ints, e, l))
    by false e = refl

is_within : (n : ℕ) (a b : ℤ) → a ≤ℤ b → cond (int_le a b) None (Some n) ≡ None
is_within n a b l = by (int_le a b) refl
  where
    by : (t : Bool) → int_le a b ≡ t → cond t None (Some n) ≡ None
    by true e = refl
    by false e = absurd (omega (arith, ints, e, l))

pub none_yet : (o : ℕ) (total target : ℕ → ℤ) → first_above o total target ≡ None → total o ≤ℤ target o →
    first_above (o + 1) total target ≡ None
none_yet o total target none here =
    (let s : o + 1 ≡ suc o = omega arith in rw (s, none) (is_within o (total o) (target o) here))

pub first_found : (o n : ℕ) (total target : ℕ → ℤ) → o < n → first_above o total target ≡ None →
    target o <ℤ total o → first_above n total target ≡ Some o
first_found o zero total target l none here = absurd (omega arith)
first_found o (suc n) total target l none here = elim (cases_lt o n) [
  | inl below ↦ ap (λ a. option_or a (cond (int_le (total n) (target n)) None (Some n)))
      (first_found o n total target below none here)
  | inr last ↦ (
      let same : o ≡ n = omega (arith, l, last) in
      ap (λ a. option_or a (cond (int_le (total n) (target n)) None (Some n)))
      (subst (λ k. first_above k total target ≡ None) same none)
      ∙ subst (λ k. cond (int_le (total k) (target k)) None (Some k) ≡ Some o) same
      (is_above o (total o) (target o) here))
]

first_inside : (n : ℕ) (total target : ℕ → ℤ) (o : ℕ) → first_above n total target ≡ Some o → o < n
first_inside zero total target o e = cc
first_inside (suc n) total target o e =
    by (first_inside n total target o) (first_above n total target) refl (int_le (total n) (target n)) refl
  where
    by : (first_above n total target ≡ Some o → o < n) → (a : Option ℕ) → first_above n total target ≡ a →
        (t : Bool) → int_le (total n) (target n) ≡ t → o < suc n
    by again (Some i) h t g =
        let same : Some i ≡ Some o =
        sym (ap (λ x. option_or x (cond (int_le (total n) (target n)) None (Some n))) h) ∙ e in
        let at = again (h ∙ same) in
        omega (arith, at)
    by again None h true g =
        let same : None ≡ Some o =
        sym (ap (λ x. option_or x (cond (int_le (total n) (target n)) None (Some n))) h
        ∙ ap (λ b. cond b None (Some n)) g) ∙ e in
        cc
    by again None h false g =
        let same : Some n ≡ Some o =
        sym (ap (λ x. option_or x (cond (int_le (total n) (target n)) None (Some n))) h
        ∙ ap (λ b. cond b None (Some n)) g) ∙ e in
        let at : n ≡ o = cc in
        omega (arith, at)

first_same : (n : ℕ) (total other target : ℕ → ℤ) → ((o : ℕ) → o < n → total o ≡ other o) →
    first_above n total target ≡ first_above n other target
first_same zero total other target same = refl
first_same (suc n) total other target same =
    ap₂ (λ a b. option_or a b) (first_same n total other target (λ o l. same o (omega arith)))
    (ap (λ t. cond (int_le t (target n)) None (Some n)) (same n (omega arith)))

fail_same : (f : Filter) (n : ℕ) (total other : ℕ → ℤ) → ((o : ℕ) → o < n → total o ≡ other o) → (a : Option ℕ) →
    first_above n total (λ o. (output_at f o).target) ≡ a → above_fail f total a ≡ above_fail f other a
fail_same f n total other same None e = refl
fail_same f n total other same (Some o) e =
    ap (λ t. Some (Error o t (output_at f o).target))
    (same o (first_inside n total (λ o. (output_at f o).target) o e))

pub above_same : (f : Filter) (n : ℕ) (total other : ℕ → ℤ) → ((o : ℕ) → o < n → total o ≡ other o) →
    first_above_fail f total n ≡ first_above_fail f other n
above_same f n total other same =
    fail_same f n total other same (first_above n total (λ o. (output_at f o).target)) refl
    ∙ ap (above_fail f other) (first_same n total other (λ o. (output_at f o).target) same)

-- ---- the trial

module _ (f : Filter) (rows : List BareRow) (m : ℕ) where
  by_raises : candidate_range f rows m ≡ None → trial f rows m ≡ with_bounds f rows m (raises_of f rows m)
  by_raises none = ap (with_range f rows m) none

  bounds_fail : (r : Raises) (fail : Fail) (x : ℕ → ℕ) → TellsRaises r (Some fail) x →
      Some fail ≡ trial_fail (with_bounds f rows m r)
  bounds_fail (Rest rows) fail x h = (let never : Some fail ≡ None = h.0 in cc)
  bounds_fail (OverCap row value cap) fail x h = h
  bounds_fail (TooSlow row before after) fail x h = h

  -- bounds that do not come to rest
  pub told_by_bounds : (fail : Fail) (x : ℕ → ℕ) (e : ℕ → ℤ) → candidate_range f rows m ≡ None →
      TellsRaises (raises_of f rows m) (Some fail) x → TellsTrial f rows m (Some fail) x e
  told_by_bounds fail x e none h = record {
    told = bounds_fail (raises_of f rows m) fail x h ∙ sym (ap trial_fail (by_raises none));
    bounds = λ never. (let no : Some fail ≡ None = never in cc);
    errors = λ never o l. (let no : Some fail ≡ None = never in cc);
  }

  -- bounds at rest
  at_rest : (r : Raises) (x : ℕ → ℕ) → TellsRaises r None x → r ≡ Rest x
  at_rest (Rest y) x h = ap Rest (sym h.1)
  at_rest (OverCap row value cap) x h = (let never : None ≡ Some (Over row (pos value) (pos cap)) = h in cc)
  at_rest (TooSlow row before after) x h = (let never : None ≡ Some (Slow row (pos before) (pos after)) = h in cc)

  rest_trial : (x : ℕ → ℕ) → candidate_range f rows m ≡ None → TellsRaises (raises_of f rows m) None x →
      trial f rows m ≡ with_errors f x (candidate_total f rows m x)
      (first_above (length f.outputs) (candidate_total f rows m x) (λ o. (output_at f o).target))
  rest_trial x none h =
      by_raises none ∙ ap (with_bounds f rows m) (at_rest (raises_of f rows m) x h)

  errors_fail : (x : ℕ → ℕ) (total : ℕ → ℤ) (a : Option ℕ) →
      above_fail f total a ≡ trial_fail (with_errors f x total a)
  errors_fail x total None = refl
  errors_fail x total (Some o) = refl

  errors_pass : (x : ℕ → ℕ) (total : ℕ → ℤ) (a : Option ℕ) → above_fail f total a ≡ None →
      with_errors f x total a ≡ Passed x
  errors_pass x total None h = refl
  errors_pass x total (Some o) h = cc

  pub told_by_errors : (fail : Option Fail) (x : ℕ → ℕ) (total e : ℕ → ℤ) → candidate_range f rows m ≡ None →
      TellsRaises (raises_of f rows m) None x →
      ((o : ℕ) → o < length f.outputs → total o ≡ candidate_total f rows m x o) →
      fail ≡ first_above_fail f total (length f.outputs) →
      (fail ≡ None → (o : ℕ) → o < length f.outputs → e o ≡ total o) → TellsTrial f rows m fail x e
  told_by_errors fail x total e none h same told put =
      let here : fail ≡ first_above_fail f (candidate_total f rows m x) (length f.outputs) =
      told ∙ above_same f (length f.outputs) total (candidate_total f rows m x) same in
      record {
        told =
            here
            ∙ errors_fail x (candidate_total f rows m x)
            (first_above (length f.outputs) (candidate_total f rows m x) (λ o. (output_at f o).target))
            ∙ sym (ap trial_fail (rest_trial x none h));
        bounds = λ passes. rest_trial x none h
            ∙ errors_pass x (candidate_total f rows m x)
            (first_above (length f.outputs) (candidate_total f rows m x) (λ o. (output_at f o).target))
            (sym here ∙ passes);
        errors = λ passes o l. put passes o l ∙ same o l;
      }

  -- ---- a target that meets a range

  range_fail : (found : Option (ℕ × RangeAt)) (range : TargetRange) → Some range ≡ told_range found →
      Some (Range range) ≡ trial_fail (with_range f rows m found)
  range_fail (Some found) range h =
      let same : range ≡ record { target = found.0; at = found.1 } = cc in ap (λ r. Some (Range r)) same
  range_fail None range h = cc

  pub told_by_range : (range : TargetRange) (x : ℕ → ℕ) (e : ℕ → ℤ) →
      Some range ≡ told_range (candidate_range f rows m) → TellsTrial f rows m (Some (Range range)) x e
  told_by_range range x e h = record {
    told = range_fail (candidate_range f rows m) range h;
    bounds = λ never. (let no : Some (Range range) ≡ None = never in cc);
    errors = λ never o l. (let no : Some (Range range) ≡ None = never in cc);
  }

pub no_range : (found : Option (ℕ × RangeAt)) → None ≡ told_range found → found ≡ None
no_range (Some found) h = cc
no_range None h = refl
