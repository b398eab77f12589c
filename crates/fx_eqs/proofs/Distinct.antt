-- Lists whose elements differ, in parts and joined.
use Rattle.std.proofs.Common.{◌≡◌, Bool, false, List, [], ◌∷◌, ◌++◌, All, filter}
use Rattle.std.specs.List.{IsDistinct}
use Rattle.std.proofs.lemmas.Bool.{cond_both}
use Rattle.std.proofs.lemmas.List.Elements.{All-append, All-filter, All-head, All-tail, All-from_recursion}
use Rattle.std.proofs.lemmas.List.Elements.{recursion_from_All}
use Rattle.std.proofs.lemmas.Map.Keys.{IsDistinct-head, IsDistinct-tail, IsDistinct-cons}

module _ {X : Type 0} (same : X → X → Bool) where
  -- no element of the first list is the same as one of the second
  abbrev pub AllApart : List X → List X → Type 0
  AllApart a b = All (λ x. All (λ y. same x y ≡ false) b) a

  -- one more in front
  pub distinct_cons : (x : X) (xs : List X) → All (λ y. same x y ≡ false) xs → IsDistinct same xs →
      IsDistinct same (x ∷ xs)
  distinct_cons x xs apart once = IsDistinct-cons same x xs (recursion_from_All (λ y. same x y ≡ false) xs apart) once

  pub distinct_nil : IsDistinct same []
  unfolding IsDistinct
  distinct_nil = tt

  -- the first is the same as none behind it
  pub distinct_head : (x : X) (xs : List X) → IsDistinct same (x ∷ xs) → All (λ y. same x y ≡ false) xs
  distinct_head x xs once = All-from_recursion (λ y. same x y ≡ false) xs (IsDistinct-head same x xs once)

  -- two lists joined
  pub distinct_append : (a b : List X) → IsDistinct same a → IsDistinct same b → AllApart a b → IsDistinct same (a ++ b)
  distinct_append [] b here there apart = there
  distinct_append (x ∷ xs) b here there apart =
      let rest = distinct_append xs b (IsDistinct-tail same x xs here) there
      (All-tail (λ x. All (λ y. same x y ≡ false) b) x xs apart) in
      distinct_cons x (xs ++ b)
      (All-append (λ y. same x y ≡ false) xs b (distinct_head x xs here)
      (All-head (λ x. All (λ y. same x y ≡ false) b) x xs apart)) rest

  -- what a filter keeps
  pub distinct_filter : (test : X → Bool) (xs : List X) → IsDistinct same xs → IsDistinct same (filter test xs)
  distinct_filter test [] once = once
  distinct_filter test (x ∷ xs) once =
      let rest = distinct_filter test xs (IsDistinct-tail same x xs once) in
      cond_both (test x) (x ∷ filter test xs) (filter test xs) (IsDistinct same)
      (λ e. distinct_cons x (filter test xs) (All-filter test (λ y.
      same x y ≡ false) xs (distinct_head x xs once)) rest)
      (λ e. rest)
