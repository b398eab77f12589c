-- A search tells the first candidate that passes, or the failure of each.
use Rattle.std.proofs.Common.{◌≡◌, refl, ap, sym, ◌∙◌, subst, List, [], ◌∷◌, ◌++◌, map}
use Rattle.std.specs.Prelude.{Some, Result, Ok, Err}
use Rattle.fx_make.specs.Candidates.{Candidate, Passing, candidates, tried}
use Rattle.fx_make.specs.First.{EachFailureIsTold, EachFails, FirstIsFound, IsFirst, failure_of}
use Rattle.fx_make.specs.Search.{Progress, failed, searched, with_next}
use Rattle.fx_make.specs.Search.Progress.{AllFailed, Found}
use Rattle.fx_make.specs.declared.fail.Fail.{Fail}
use Rattle.fx_make.specs.declared.fail.Failed.{Failed}
use Rattle.fx_make.proofs.GoingOn.{found_stays}

candidate_of : Progress → Candidate → Candidate
candidate_of (AllFailed fails) other = other
candidate_of (Found c q) other = c

passing_of : Progress → Passing → Passing
passing_of (AllFailed fails) other = other
passing_of (Found c q) other = q

fails_of : Progress → List Failed
fails_of (AllFailed fails) = fails
fails_of (Found c q) = []

grouped : (a : List Failed) (x : Failed) (b : List Failed) → (a ++ x ∷ []) ++ b ≡ a ++ x ∷ b
grouped [] x b = refl
grouped (y ∷ a) x b = ap (λ rest. y ∷ rest) (grouped a x b)

nothing_more : (a : List Failed) → a ++ [] ≡ a
nothing_more [] = refl
nothing_more (y ∷ a) = ap (λ rest. y ∷ rest) (nothing_more a)

-- so many failures more, one for each candidate
record AreMore (try : Candidate → Result Passing Fail) (cs : List Candidate) (earlier all : List Failed) : Type 0 where
  more : List Failed
  joined : all ≡ earlier ++ more
  each : EachFails try cs more

module _ (try : Candidate → Result Passing Fail) where
  one_first : (c : Candidate) (cs : List Candidate) (why : Fail) (fails : List Failed) → try c ≡ Err why →
      EachFails try cs fails → EachFails try (c ∷ cs) (failed c why ∷ fails)
  one_first c cs why fails here each =
      ap (λ told. failure_of c told ∷ map (λ d. failure_of d (try d)) cs) here
      ∙ ap (λ rest. Some (failed c why) ∷ rest) each

  -- ---- each fails

  fail_step : (c : Candidate) (cs : List Candidate) (earlier all : List Failed) →
      ((before : List Failed) → searched try (AllFailed before) cs ≡ AllFailed all → AreMore try cs before all) →
      (told : Result Passing Fail) → try c ≡ told → searched try (with_next c earlier told) cs ≡ AllFailed all →
      AreMore try (c ∷ cs) earlier all
  fail_step c cs earlier all rest (Ok passing) here e =
      (let never : Found c passing ≡ AllFailed all = sym (found_stays try c passing cs) ∙ e in cc)
  fail_step c cs earlier all rest (Err why) here e =
      let on : AreMore try cs (earlier ++ failed c why ∷ []) all = rest (earlier ++ failed c why ∷ []) e in
      record {
        more = failed c why ∷ on.more;
        joined = on.joined ∙ grouped earlier (failed c why) on.more;
        each = one_first c cs why on.more here on.each;
      }

  all_fail : (cs : List Candidate) (earlier all : List Failed) →
      searched try (AllFailed earlier) cs ≡ AllFailed all → AreMore try cs earlier all
  unfolding fails_of
  all_fail [] earlier all e =
      record { more = []; joined = sym (ap fails_of e) ∙ sym (nothing_more earlier); each = refl }
  all_fail (c ∷ cs) earlier all e =
      fail_step c cs earlier all (λ before h. all_fail cs before all h) (try c) refl e

  -- ---- one is the first that passes

  first_step : (d : Candidate) (cs : List Candidate) (earlier : List Failed) (c : Candidate) (passing : Passing) →
      ((before : List Failed) → searched try (AllFailed before) cs ≡ Found c passing → IsFirst try cs c passing) →
      (told : Result Passing Fail) → try d ≡ told → searched try (with_next d earlier told) cs ≡ Found c passing →
      IsFirst try (d ∷ cs) c passing
  unfolding candidate_of passing_of
  first_step d cs earlier c passing rest (Ok q) here e =
      let same : Found d q ≡ Found c passing = sym (found_stays try d q cs) ∙ e in
      let is : d ≡ c = ap (λ p. candidate_of p d) same in
      record {
        before = [];
        after = cs;
        fails = [];
        order = ap (λ x. x ∷ cs) is;
        earlier = refl;
        passes = ap try (sym is) ∙ here ∙ ap Ok (ap (λ p. passing_of p q) same);
      }
  first_step d cs earlier c passing rest (Err why) here e =
      let on : IsFirst try cs c passing = rest (earlier ++ failed d why ∷ []) e in
      record {
        before = d ∷ on.before;
        after = on.after;
        fails = failed d why ∷ on.fails;
        order = ap (λ xs. d ∷ xs) on.order;
        earlier = one_first d on.before why on.fails here on.earlier;
        passes = on.passes;
      }

  first_passes : (cs : List Candidate) (earlier : List Failed) (c : Candidate) (passing : Passing) →
      searched try (AllFailed earlier) cs ≡ Found c passing → IsFirst try cs c passing
  first_passes [] earlier c passing e = cc
  first_passes (d ∷ cs) earlier c passing e =
      first_step d cs earlier c passing (λ before h. first_passes cs before c passing h) (try d) refl e

pub first_is_found : FirstIsFound
first_is_found f s c passing e = first_passes (tried f s) (candidates f.settings) [] c passing e

pub each_failure_is_told : EachFailureIsTold
each_failure_is_told f s fails e =
    let on : AreMore (tried f s) (candidates f.settings) [] fails =
    all_fail (tried f s) (candidates f.settings) [] fails e in
    subst (λ (told : List Failed). EachFails (tried f s) (candidates f.settings) told) (sym on.joined) on.each
