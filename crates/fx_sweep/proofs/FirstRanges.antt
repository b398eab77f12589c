-- The first place of a moment whose number reaches the limit: places with 0 in them change nothing.
use Rattle.std.proofs.Common.{◌≡◌, ℕ, zero, suc, ◌+◌, ◌-◌, ◌≤◌, arith, refl, ap, ap₂, sym, ◌∙◌, inl, inr}
use Rattle.std.proofs.Common.{List, [], ◌∷◌, ◌++◌, Option, Some, None}
use Rattle.std.specs.Option.{option_or}
use mathlib.Core.Path.{fun_ext}
use Rattle.std.proofs.lemmas.Bool.{cases_lt}
use Rattle.fx_math.specs.Sums.{joined}
use Rattle.fx_eqs.specs.declared.limits.TheConstants.{PORTS}
use Rattle.fx_sweep.specs.Range.{places, first_range}
use Rattle.fx_sweep.specs.declared.target.Place.{Place}
use Rattle.fx_sweep.specs.declared.target.Place.TheVariants.{Weight, Gain, Input, Rest}
use Rattle.fx_sweep.specs.declared.target.RangeAt.{RangeAt}
use Rattle.fx_sweep.proofs.Ranges.{range_append}

-- ---- the first of some places

or_none : (x : Option RangeAt) → option_or x None ≡ x
or_none None = refl
or_none (Some x) = refl

or_chain : (x y z : Option RangeAt) → option_or (option_or x y) z ≡ option_or x (option_or y z)
or_chain None y z = refl
or_chain (Some x) y z = refl

-- a place with 0 in it is not the first
first_skips : (value : Place → ℕ) (p : Place) (ps : List Place) → value p ≡ 0 →
    first_range value (p ∷ ps) ≡ first_range value ps
first_skips value p ps e = rw e refl

-- ---- joined lists, from their front

joined_front : (value : Place → ℕ) (n : ℕ) (f : ℕ → List Place) →
    first_range value (joined (suc n) f)
    ≡ option_or (first_range value (f 0)) (first_range value (joined n (λ i. f (suc i))))
joined_front value zero f = sym (or_none (first_range value (f 0)))
joined_front value (suc n) f =
    range_append value (joined (suc n) f) (f (suc n))
    ∙ ap (λ x. option_or x (first_range value (f (suc n)))) (joined_front value n f)
    ∙ or_chain (first_range value (f 0)) (first_range value (joined n (λ i. f (suc i)))) (first_range value (f (suc n)))
    ∙ ap (option_or (first_range value (f 0))) (sym (range_append value (joined n (λ i. f (suc i))) (f (suc n))))

-- the places of the rows, from the last to the first
abbrev row_places : ℕ → List Place
row_places n = joined n (λ i. Weight (n - (i + 1)) ∷ Gain (n - (i + 1)) ∷ [])

abbrev input_places : List Place
input_places = joined PORTS (λ j. Input j ∷ [])

abbrev rest_places : ℕ → List Place
rest_places n = joined n (λ i. Rest i ∷ [])

last_row_first : (value : Place → ℕ) (n : ℕ) →
    first_range value (row_places (suc n))
    ≡ option_or (first_range value (Weight n ∷ Gain n ∷ [])) (first_range value (row_places n))
last_row_first value n =
    joined_front value n (λ i. Weight (suc n - (i + 1)) ∷ Gain (suc n - (i + 1)) ∷ [])
    ∙ ap₂ (λ x (f : ℕ → List Place).
    option_or (first_range value (Weight x ∷ Gain x ∷ [])) (first_range value (joined n f)))
    (let e : suc n - (0 + 1) ≡ n = omega arith in e)
    (fun_ext (λ i. ap (λ x. Weight x ∷ Gain x ∷ []) (let e : suc n - (suc i + 1) ≡ n - (i + 1) = omega arith in e)))

module _ (value : Place → ℕ) (n : ℕ) (weights : (i : ℕ) → n ≤ i → value (Weight i) ≡ 0) (gains : (i : ℕ) →
    n ≤ i → value (Gain i) ≡ 0)
    (rests : (i : ℕ) → n ≤ i → value (Rest i) ≡ 0) where
  rows_shorter : (m : ℕ) → n ≤ m → first_range value (row_places m) ≡ first_range value (row_places n)
  rows_shorter zero l = ap (λ x. first_range value (row_places x)) (let e : 0 ≡ n = omega arith in e)
  rows_shorter (suc m) l = elim (cases_lt m n) [
    | inl h ↦ ap (λ x. first_range value (row_places x)) (let e : suc m ≡ n = omega arith in e)
    | inr h ↦ last_row_first value m
        ∙ ap (λ x. option_or x (first_range value (row_places m)))
        (first_skips value (Weight m) (Gain m ∷ []) (weights m h) ∙ first_skips value (Gain m) [] (gains m h))
        ∙ rows_shorter m h
  ]

  rests_shorter : (m : ℕ) → n ≤ m → first_range value (rest_places m) ≡ first_range value (rest_places n)
  rests_shorter zero l = ap (λ x. first_range value (rest_places x)) (let e : 0 ≡ n = omega arith in e)
  rests_shorter (suc m) l = elim (cases_lt m n) [
    | inl h ↦ ap (λ x. first_range value (rest_places x)) (let e : suc m ≡ n = omega arith in e)
    | inr h ↦ range_append value (rest_places m) (Rest m ∷ [])
        ∙ ap (option_or (first_range value (rest_places m))) (first_skips value (Rest m) [] (rests m h))
        ∙ or_none (first_range value (rest_places m)) ∙ rests_shorter m h
  ]

  split_places : (m : ℕ) → first_range value (places m)
      ≡ option_or (option_or (first_range value (row_places m)) (first_range value input_places))
      (first_range value (rest_places m))
  split_places m =
      range_append value (row_places m ++ input_places) (rest_places m)
      ∙ ap (λ x. option_or x (first_range value (rest_places m))) (range_append value (row_places m) input_places)

  pub places_shorter : (m : ℕ) → n ≤ m → first_range value (places n) ≡ first_range value (places m)
  places_shorter m l =
      split_places n
      ∙ ap₂ (λ x y. option_or (option_or x (first_range value input_places)) y) (sym (rows_shorter m l))
      (sym (rests_shorter m l))
      ∙ sym (split_places m)
