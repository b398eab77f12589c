-- The search over the lengths of a guard and a fraction.
use Rattle.std.proofs.Common.{◌≡◌, ℕ, zero, suc, ◌+◌, ◌<◌, ◌≤◌, arith, refl, ap, sym, ◌∙◌, subst}
use Rattle.std.proofs.Common.{Bool, true, false, cond, List, [], ◌∷◌, ◌++◌, length, take, drop, get_or}
use Rattle.std.specs.Prelude.{Option, Some, None, Result, Ok, Err, is_none}
use Rattle.std.specs.Option.{option_or}
use Rattle.std.proofs.lemmas.Bool.{cond-true, lt-ltb}
use Rattle.std.proofs.lemmas.List.{take_more, take-append-drop, take_all, get_or-map, length-map, drop_more}
use Rattle.fx_math.specs.Faults.{◌>>=◌}
use Rattle.fx_math.specs.Sums.{joined}
use Rattle.fx_files.specs.Filter.{Filter}
use Rattle.fx_sif.specs.Implicit.{Implicit}
use Rattle.fx_totals.specs.Filled.{length_in}
use Rattle.fx_block.specs.Candidate.{Trial, trial}
use Rattle.fx_block.specs.Candidate.Trial.{Passed, OutOfRange, OverCap, TooSlow, AboveTarget}
use Rattle.fx_block.specs.Raising.{first_row}
use Rattle.fx_quant.specs.Design.{Quantised}
use Rattle.fx_make.specs.Candidates.{Candidate, Passing, candidate_at, of_fraction, passing_or_fail, quantised_rows}
use Rattle.fx_make.specs.Candidates.{trial_fail, tried}
use Rattle.fx_make.specs.Lengths.{fail_at, first_passing, length_fail}
use Rattle.fx_make.specs.Made.{IsMadeOf, TellsSearch}
use Rattle.fx_make.specs.declared.answer.Made.{Made}
use Rattle.fx_make.specs.Search.{failed_of, searched, with_next}
use Rattle.fx_make.specs.Search.Progress.{AllFailed, Found}
use Rattle.fx_make.specs.declared.fail.Fail.{Fail}
use Rattle.fx_make.specs.declared.fail.Failed.{Failed}
use Rattle.fx_block.proofs.Raising.{none_passes}
use Rattle.fx_make.proofs.GoingOn.{found_stays, searched_on}
use Rattle.fx_make.proofs.SameRaises.{first_inside}

nil_behind : {A : Type 0} (xs : List A) → xs ++ [] ≡ xs
nil_behind [] = refl
nil_behind (x ∷ xs) = ap (λ rest. x ∷ rest) (nil_behind xs)

grouped : {A : Type 0} (a b c : List A) → (a ++ b) ++ c ≡ a ++ (b ++ c)
grouped [] b c = refl
grouped (x ∷ a) b c = ap (λ rest. x ∷ rest) (grouped a b c)

-- ---- before the first that passes a test none does

before_first : (n : ℕ) (test : ℕ → Bool) (l : ℕ) → first_row n test ≡ Some l →
    (test l ≡ true) × ((k : ℕ) → k < l → test k ≡ false)
before_first zero test l e = cc
before_first (suc n) test l e = by (before_first n test l) (first_row n test) refl (test n) refl
  where
    by : (first_row n test ≡ Some l → (test l ≡ true) × ((k : ℕ) → k < l → test k ≡ false)) → (o : Option ℕ) →
        first_row n test ≡ o → (b : Bool) → test n ≡ b → (test l ≡ true) × ((k : ℕ) → k < l → test k ≡ false)
    by again (Some i) f b g =
        let same : Some i ≡ Some l = sym (ap (λ x. option_or x (cond (test n) (Some n) None)) f) ∙ e in
        again (f ∙ same)
    by again None f true g =
        let same : Some n ≡ Some l =
        sym (ap (λ x. option_or x (cond (test n) (Some n) None)) f ∙ ap (λ b. cond b (Some n) None) g) ∙ e in
        let at : n ≡ l = cc in
        (subst (λ i. test i ≡ true) at g, (λ k h. none_passes n test f k (omega (arith, h, at))))
    by again None f false g =
        let same : None ≡ Some l =
        sym (ap (λ x. option_or x (cond (test n) (Some n) None)) f ∙ ap (λ b. cond b (Some n) None) g) ∙ e in
        cc

-- ---- one length after the other

module _ (try : Candidate → Result Passing Fail) (guard fraction : ℕ) (lengths : List ℕ) where
  at_place : (l : ℕ) (d : Candidate) → l < length lengths →
      get_or (of_fraction lengths guard fraction) l d ≡ candidate_at guard fraction (length_in lengths l)
  at_place l d h = get_or-map (candidate_at guard fraction) lengths l 0 d h

  long : length (of_fraction lengths guard fraction) ≡ length lengths
  long = length-map lengths (candidate_at guard fraction)

  -- it fails, and this is told of it
  pub FailsAt : (ℕ → Option Fail) → ℕ → Type 0
  FailsAt told l = (gs : List Failed) →
      with_next (candidate_at guard fraction (length_in lengths l)) gs
      (try (candidate_at guard fraction (length_in lengths l)))
      ≡ AllFailed (gs ++ failed_of (candidate_at guard fraction (length_in lengths l)) (told l))

  pub first_fail : (told : ℕ → Option Fail) (fs : List Failed) (k : ℕ) → k ≤ length lengths →
      ((l : ℕ) → l < k → FailsAt told l) →
      searched try (AllFailed fs) (take k (of_fraction lengths guard fraction))
      ≡ AllFailed (fs ++ joined k (λ l. failed_of (candidate_at guard fraction (length_in lengths l)) (told l)))
  unfolding FailsAt
  first_fail told fs zero h each = ap AllFailed (sym (nil_behind fs))
  first_fail told fs (suc k) h each =
      let c : Candidate = candidate_at guard fraction (length_in lengths k) in
      let inside : k < length (of_fraction lengths guard fraction) = omega (arith, h, long) in
      let more : suc k ≡ k + 1 = omega arith in
      ap (λ n. searched try (AllFailed fs) (take n (of_fraction lengths guard fraction))) more
      ∙ ap (searched try (AllFailed fs)) (take_more (of_fraction lengths guard fraction) k c inside)
      ∙ searched_on try (AllFailed fs) (take k (of_fraction lengths guard fraction))
      (get_or (of_fraction lengths guard fraction) k c ∷ [])
      ∙ ap (λ x. searched try (searched try (AllFailed fs) (take k (of_fraction lengths guard fraction))) (x ∷ []))
      (at_place k c (omega (arith, h)))
      ∙ ap (λ p. searched try p (c ∷ [])) (first_fail told fs k (omega (arith, h)) (λ l g. each l (omega (arith, g))))
      ∙ each k (omega arith)
      (fs ++ joined k (λ l. failed_of (candidate_at guard fraction (length_in lengths l)) (told l)))
      ∙ ap AllFailed (grouped fs
      (joined k (λ l. failed_of (candidate_at guard fraction (length_in lengths l)) (told l)))
      (failed_of c (told k)))

  pub all_fail : (told : ℕ → Option Fail) (fs : List Failed) → ((l : ℕ) → l < length lengths → FailsAt told l) →
      searched try (AllFailed fs) (of_fraction lengths guard fraction)
      ≡ AllFailed (fs ++ joined (length lengths) (λ l.
      failed_of (candidate_at guard fraction (length_in lengths l)) (told l)))
  all_fail told fs each =
      ap (searched try (AllFailed fs))
      (sym (take_all (length lengths) (of_fraction lengths guard fraction) (omega (arith, long))))
      ∙ first_fail told fs (length lengths) (omega arith) each

  pub one_passes : (told : ℕ → Option Fail) (fs : List Failed) (l : ℕ) (passing : Passing) → l < length lengths →
      ((k : ℕ) → k < l → FailsAt told k) →
      try (candidate_at guard fraction (length_in lengths l)) ≡ Ok passing →
      searched try (AllFailed fs) (of_fraction lengths guard fraction)
      ≡ Found (candidate_at guard fraction (length_in lengths l)) passing
  one_passes told fs l passing h each ok =
      let c : Candidate = candidate_at guard fraction (length_in lengths l) in
      let before = fs ++ joined l (λ k. failed_of (candidate_at guard fraction (length_in lengths k)) (told k)) in
      let inside : l < length (of_fraction lengths guard fraction) = omega (arith, h, long) in
      ap (searched try (AllFailed fs)) (sym (take-append-drop l (of_fraction lengths guard fraction)))
      ∙ searched_on try (AllFailed fs) (take l (of_fraction lengths guard fraction))
      (drop l (of_fraction lengths guard fraction))
      ∙ ap (λ p. searched try p (drop l (of_fraction lengths guard fraction)))
      (first_fail told fs l (omega (arith, h)) each)
      ∙ ap (searched try (AllFailed before)) (drop_more (of_fraction lengths guard fraction) l c inside)
      ∙ ap (λ x. searched try (AllFailed before) (x ∷ drop (l + 1) (of_fraction lengths guard fraction)))
      (at_place l c h)
      ∙ ap (λ r. searched try (with_next c before r) (drop (l + 1) (of_fraction lengths guard fraction))) ok
      ∙ found_stays try c passing (drop (l + 1) (of_fraction lengths guard fraction))

-- ---- where quantising fails

pub fails_so : (try : Candidate → Result Passing Fail) (guard fraction : ℕ) (lengths : List ℕ) (why : Fail) →
    ((m : ℕ) → try (candidate_at guard fraction m) ≡ Err why) → (fs : List Failed) →
    searched try (AllFailed fs) (of_fraction lengths guard fraction)
    ≡ AllFailed (fs ++ joined (length lengths) (λ l.
    failed_of (candidate_at guard fraction (length_in lengths l)) (Some why)))
unfolding FailsAt
fails_so try guard fraction lengths why each fs =
    all_fail try guard fraction lengths (λ l. Some why) fs (λ l h gs.
    ap (with_next (candidate_at guard fraction (length_in lengths l)) gs) (each (length_in lengths l)))

-- ---- the trials of a design

module _ (f : Filter) (s : Implicit) (guard fraction : ℕ) (d : Quantised)
    (rows : quantised_rows f s guard fraction ≡ Ok d) where
  tried_is : (m : ℕ) → tried f s (candidate_at guard fraction m) ≡ passing_or_fail d (trial f d.rows m)
  tried_is m = ap (λ (r : Result Quantised Fail). r >>= λ d. passing_or_fail d (trial f d.rows m)) rows

  trial_fails : (c : Candidate) (gs : List Failed) (t : Trial) → is_none (trial_fail t) ≡ false →
      with_next c gs (passing_or_fail d t) ≡ AllFailed (gs ++ failed_of c (trial_fail t))
  trial_fails c gs (Passed x) e = cc
  trial_fails c gs (OutOfRange target at) e = refl
  trial_fails c gs (OverCap row value cap) e = refl
  trial_fails c gs (TooSlow row before after) e = refl
  trial_fails c gs (AboveTarget output total target) e = refl

  length_fails : (told : ℕ → Option Fail) (l : ℕ) →
      is_none (length_fail f d.rows (length_in f.settings.lengths l)) ≡ false →
      told l ≡ length_fail f d.rows (length_in f.settings.lengths l) →
      FailsAt (tried f s) guard fraction f.settings.lengths told l
  unfolding FailsAt
  length_fails told l e is gs =
      ap (with_next (candidate_at guard fraction (length_in f.settings.lengths l)) gs)
      (tried_is (length_in f.settings.lengths l))
      ∙ trial_fails (candidate_at guard fraction (length_in f.settings.lengths l)) gs
      (trial f d.rows (length_in f.settings.lengths l)) e
      ∙ ap (λ why. AllFailed (gs ++ failed_of (candidate_at guard fraction (length_in f.settings.lengths l)) why))
      (sym is)

  -- what is told where no length passes
  pub none_is : (told : ℕ → Option Fail) (fs : List Failed) →
      first_passing f d.rows (length_in f.settings.lengths) (length f.settings.lengths) ≡ None →
      ((l : ℕ) → told l ≡ fail_at f d.rows None l) →
      searched (tried f s) (AllFailed fs) (of_fraction f.settings.lengths guard fraction)
      ≡ AllFailed (fs ++ joined (length f.settings.lengths) (λ l.
      failed_of (candidate_at guard fraction (length_in f.settings.lengths l)) (told l)))
  none_is told fs none is =
      all_fail (tried f s) guard fraction f.settings.lengths told fs (λ l h.
      length_fails told l (none_passes (length f.settings.lengths) (λ k.
      is_none (length_fail f d.rows (length_in f.settings.lengths k))) none l h)
      (is l ∙ cond-true _ _ _ (lt-ltb l (length f.settings.lengths) h)))

  -- and where one passes
  pub found_is : (fs : List Failed) (l : ℕ) (x : ℕ → ℕ) →
      first_passing f d.rows (length_in f.settings.lengths) (length f.settings.lengths) ≡ Some l →
      trial f d.rows (length_in f.settings.lengths l) ≡ Passed x →
      searched (tried f s) (AllFailed fs) (of_fraction f.settings.lengths guard fraction)
      ≡ Found (candidate_at guard fraction (length_in f.settings.lengths l)) (record { design = d; bounds = x })
  found_is fs l x first passes =
      let test : ℕ → Bool = λ k. is_none (length_fail f d.rows (length_in f.settings.lengths k)) in
      let inside : l < length f.settings.lengths = first_inside (length f.settings.lengths) (λ k.
      is_none (length_fail f d.rows (length_in f.settings.lengths k))) l first in
      let before = before_first (length f.settings.lengths) (λ k.
      is_none (length_fail f d.rows (length_in f.settings.lengths k))) l first in
      one_passes (tried f s) guard fraction f.settings.lengths (λ k.
      length_fail f d.rows (length_in f.settings.lengths k)) fs l (record { design = d; bounds = x }) inside
      (λ k h. length_fails (λ i. length_fail f d.rows (length_in f.settings.lengths i)) k (before.1 k h) refl)
      (tried_is (length_in f.settings.lengths l) ∙ ap (passing_or_fail d) passes)

-- ---- what is told of it

-- where quantising fails
pub rows_fail : (f : Filter) (s : Implicit) (guard fraction : ℕ) (why : Fail) (fs after : List Failed) →
    quantised_rows f s guard fraction ≡ Err why →
    after ≡ fs ++ joined (length f.settings.lengths) (λ l.
    failed_of (candidate_at guard fraction (length_in f.settings.lengths l)) (Some why)) →
    TellsSearch f (searched (tried f s) (AllFailed fs) (of_fraction f.settings.lengths guard fraction)) None after
rows_fail f s guard fraction why fs after none is =
    subst (λ p. TellsSearch f p None after)
    (sym (fails_so (tried f s) guard fraction f.settings.lengths why (λ m.
    ap (λ (r : Result Quantised Fail). r >>= λ d. passing_or_fail d (trial f d.rows m)) none) fs)) is

-- where no length passes
pub no_length : (f : Filter) (s : Implicit) (guard fraction : ℕ) (d : Quantised) (told : ℕ → Option Fail)
    (fs after : List Failed) → quantised_rows f s guard fraction ≡ Ok d →
    first_passing f d.rows (length_in f.settings.lengths) (length f.settings.lengths) ≡ None →
    ((l : ℕ) → told l ≡ fail_at f d.rows None l) →
    after ≡ fs ++ joined (length f.settings.lengths) (λ l.
    failed_of (candidate_at guard fraction (length_in f.settings.lengths l)) (told l)) →
    TellsSearch f (searched (tried f s) (AllFailed fs) (of_fraction f.settings.lengths guard fraction)) None after
no_length f s guard fraction d told fs after rows none each is =
    subst (λ p. TellsSearch f p None after) (sym (none_is f s guard fraction d rows told fs none each)) is

-- where one passes
pub a_length : (f : Filter) (s : Implicit) (guard fraction : ℕ) (d : Quantised) (fs after : List Failed) (l : ℕ)
    (x : ℕ → ℕ) (made : Made) → quantised_rows f s guard fraction ≡ Ok d →
    first_passing f d.rows (length_in f.settings.lengths) (length f.settings.lengths) ≡ Some l →
    trial f d.rows (length_in f.settings.lengths l) ≡ Passed x →
    IsMadeOf f (candidate_at guard fraction (length_in f.settings.lengths l)) (record { design = d; bounds = x }) made →
    TellsSearch f (searched (tried f s) (AllFailed fs) (of_fraction f.settings.lengths guard fraction)) (Some made)
    after
a_length f s guard fraction d fs after l x made rows first passes is =
    subst (λ p. TellsSearch f p (Some made) after) (sym (found_is f s guard fraction d rows fs l x first passes)) is

pub passing_inside : (f : Filter) (d : Quantised) (l : ℕ) →
    first_passing f d.rows (length_in f.settings.lengths) (length f.settings.lengths) ≡ Some l →
    l < length f.settings.lengths
passing_inside f d l first =
    first_inside (length f.settings.lengths) (λ k. is_none (length_fail f d.rows (length_in f.settings.lengths k))) l
    first
