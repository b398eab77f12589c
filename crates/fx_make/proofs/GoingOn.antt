-- A search goes on where it came to, and what it found stays.
use Rattle.std.proofs.Common.{◌≡◌, ℕ, ◌+◌, ◌<◌, refl, ap, sym, ◌∙◌, subst}
use Rattle.std.proofs.Common.{List, [], ◌∷◌, ◌++◌, length, take, drop, get_or}
use Rattle.std.specs.Prelude.{Some, None, Result}
use Rattle.std.specs.List.{flat_map}
use Rattle.std.proofs.lemmas.List.{take_more, take-append-drop}
use Rattle.fx_files.specs.Filter.{Filter}
use Rattle.fx_make.specs.Candidates.{Candidate, Passing}
use Rattle.fx_make.specs.Made.{TellsSearch}
use Rattle.fx_make.specs.Search.{Progress, and_then, searched}
use Rattle.fx_make.specs.Search.Progress.{AllFailed, Found}
use Rattle.fx_make.specs.declared.answer.Made.{Made}
use Rattle.fx_make.specs.declared.fail.Fail.{Fail}
use Rattle.fx_make.specs.declared.fail.Failed.{Failed}

module _ (try : Candidate → Result Passing Fail) where
  pub searched_on : (p : Progress) (xs ys : List Candidate) →
      searched try p (xs ++ ys) ≡ searched try (searched try p xs) ys
  searched_on p [] ys = refl
  searched_on p (x ∷ xs) ys = searched_on (and_then try p x) xs ys

  pub found_stays : (c : Candidate) (q : Passing) (xs : List Candidate) → searched try (Found c q) xs ≡ Found c q
  found_stays c q [] = refl
  found_stays c q (x ∷ xs) = found_stays c q xs

  -- ---- what is told of a search

  pub none_told : (f : Filter) (p : Progress) (fails : List Failed) → TellsSearch f p None fails → p ≡ AllFailed fails
  none_told f (AllFailed fs) fails h = ap AllFailed (sym h)
  none_told f (Found c q) fails h = absurd h

  pub some_stays : (f : Filter) (p : Progress) (made : Made) (fails after : List Failed) (xs : List Candidate) →
      TellsSearch f p (Some made) fails → TellsSearch f (searched try p xs) (Some made) after
  some_stays f (AllFailed fs) made fails after xs h = absurd h
  some_stays f (Found c q) made fails after xs h =
      subst (λ p. TellsSearch f p (Some made) after) (sym (found_stays c q xs)) h

  -- ---- parts of the candidates, one for each entry of a list

  module _ (part : ℕ → List Candidate) where
    flat_more : (xs : List ℕ) (x : ℕ) → flat_map part (xs ++ x ∷ []) ≡ flat_map part xs ++ part x
    flat_more [] x = append_nil (part x)
      where
        append_nil : (zs : List Candidate) → zs ++ [] ≡ zs
        append_nil [] = refl
        append_nil (z ∷ zs) = ap (λ rest. z ∷ rest) (append_nil zs)
    flat_more (y ∷ xs) x =
        ap (λ rest. part y ++ rest) (flat_more xs x) ∙ sym (assoc (part y) (flat_map part xs) (part x))
      where
        assoc : (a b c : List Candidate) → (a ++ b) ++ c ≡ a ++ (b ++ c)
        assoc [] b c = refl
        assoc (z ∷ a) b c = ap (λ rest. z ∷ rest) (assoc a b c)

    flat_parts : (xs ys : List ℕ) → flat_map part (xs ++ ys) ≡ flat_map part xs ++ flat_map part ys
    flat_parts [] ys = refl
    flat_parts (x ∷ xs) ys =
        ap (λ rest. part x ++ rest) (flat_parts xs ys) ∙ sym (assoc (part x) (flat_map part xs) (flat_map part ys))
      where
        assoc : (a b c : List Candidate) → (a ++ b) ++ c ≡ a ++ (b ++ c)
        assoc [] b c = refl
        assoc (z ∷ a) b c = ap (λ rest. z ∷ rest) (assoc a b c)

    -- the parts of the first entries, and of one more
    pub part_more : (p : Progress) (xs : List ℕ) (i : ℕ) → i < length xs →
        searched try p (flat_map part (take (i + 1) xs))
        ≡ searched try (searched try p (flat_map part (take i xs))) (part (get_or xs i 0))
    part_more p xs i l =
        ap (λ ys. searched try p (flat_map part ys)) (take_more xs i 0 l)
        ∙ ap (searched try p) (flat_more (take i xs) (get_or xs i 0))
        ∙ searched_on p (flat_map part (take i xs)) (part (get_or xs i 0))

    -- and all
    pub part_rest : (p : Progress) (xs : List ℕ) (i : ℕ) → searched try p (flat_map part xs)
        ≡ searched try (searched try p (flat_map part (take i xs))) (flat_map part (drop i xs))
    part_rest p xs i =
        ap (λ ys. searched try p (flat_map part ys)) (sym (take-append-drop i xs))
        ∙ ap (searched try p) (flat_parts (take i xs) (drop i xs))
        ∙ searched_on p (flat_map part (take i xs)) (flat_map part (drop i xs))

    -- a part more that fails
    pub part_failed : (f : Filter) (xs : List ℕ) (i : ℕ) (fs before after : List Failed) → i < length xs →
        searched try (AllFailed fs) (flat_map part (take i xs)) ≡ AllFailed before →
        TellsSearch f (searched try (AllFailed before) (part (get_or xs i 0))) None after →
        searched try (AllFailed fs) (flat_map part (take (i + 1) xs)) ≡ AllFailed after
    part_failed f xs i fs before after l earlier h =
        part_more (AllFailed fs) xs i l ∙ ap (λ p. searched try p (part (get_or xs i 0))) earlier
        ∙ none_told f (searched try (AllFailed before) (part (get_or xs i 0))) after h

    -- a part more that has the first that passes
    pub part_found : (f : Filter) (xs : List ℕ) (i : ℕ) (fs before after : List Failed) (made : Made) →
        i < length xs → searched try (AllFailed fs) (flat_map part (take i xs)) ≡ AllFailed before →
        TellsSearch f (searched try (AllFailed before) (part (get_or xs i 0))) (Some made) after →
        TellsSearch f (searched try (AllFailed fs) (flat_map part xs)) (Some made) after
    part_found f xs i fs before after made l earlier h =
        let here : searched try (AllFailed fs) (flat_map part (take (i + 1) xs))
        ≡ searched try (AllFailed before) (part (get_or xs i 0)) =
        part_more (AllFailed fs) xs i l ∙ ap (λ p. searched try p (part (get_or xs i 0))) earlier in
        subst (λ p. TellsSearch f p (Some made) after) (sym (part_rest (AllFailed fs) xs (i + 1)))
        (some_stays f (searched try (AllFailed fs) (flat_map part (take (i + 1) xs))) made after after
        (flat_map part (drop (i + 1) xs)) (subst (λ p. TellsSearch f p (Some made) after) (sym here) h))
