-- Words of one input alone, as input lists.
use Rattle.std.proofs.Common.{◌≡◌, ◌⊎◌, ℕ, zero, suc, ◌<◌, ◌≤◌, List, [], ◌∷◌, ◌++◌, length, get_or}
use Rattle.std.proofs.Common.{arith, refl, ap, sym, ◌∙◌, subst, inl, inr, cond, eqb, length-append}
use Rattle.std.proofs.Math.IntN.{ℤ, pos}
use Rattle.std.specs.Int.Signed.{◌≤ℤ◌}
use Rattle.std.specs.Prelude.{unsigned_abs}
use Rattle.std.proofs.lemmas.Int.{ints}
use Rattle.std.proofs.lemmas.Bool.{cases_eq, cases_lt, eq-eqb, ne_eqb}
use Rattle.std.proofs.lemmas.List.{get_or_append_left, get_or_at, get_or_past, get_or-map, length-map}
use Rattle.fx_math.specs.Sums.{joined}
use Rattle.fx_files.specs.Filter.{Filter}
use Rattle.fx_code.specs.Inputs.{word_at}
use Rattle.fx_totals.specs.AllTime.{WordsWithin}
use Rattle.fx_block.specs.Admissible.{IsAdmissible, IsAdmissibleMoment}
use Rattle.fx_block.specs.Formats.{bound_of, input_at}
use Rattle.fx_gain.specs.Lengths.{bound_alone}
use Rattle.fx_gain.specs.Peak.{LiesOn, alone, moment_of}

-- ---- lists of single items

pub length_singles : {A : Type 0} (n : ℕ) (f : ℕ → A) → length (joined n (λ i. f i ∷ [])) ≡ n
length_singles zero f = refl
length_singles (suc n) f =
    length-append (joined n (λ i. f i ∷ [])) (f n ∷ [])
    ∙ (let before = length_singles n f in omega (arith, before))

pub single_at : {A : Type 0} (n i : ℕ) (f : ℕ → A) (d : A) → i < n → get_or (joined n (λ i. f i ∷ [])) i d ≡ f i
single_at zero i f d l = absurd (omega (arith, l))
single_at (suc n) i f d l = elim (cases_lt i n) [
  | inl below ↦ get_or_append_left (joined n (λ i. f i ∷ [])) (f n ∷ []) d i
      (let long = length_singles n f in omega (arith, below, long))
      ∙ single_at n i f d below
  | inr from ↦ (let e : n ≡ i = omega (arith, l, from) in
      subst (λ k. get_or (joined n (λ i. f i ∷ []) ++ f n ∷ []) k d ≡ f k) e
      (get_or_at (joined n (λ i. f i ∷ [])) (f n) [] d n (length_singles n f)))
]

-- ---- the words of a list

-- word k of input j at moment k, else 0
pub word_alone : (filter : Filter) (j : ℕ) (words : List ℤ) → j < length filter.inputs → (k i : ℕ) →
    word_at (alone filter j words) k i ≡ cond (eqb i j) (get_or words k (pos 0)) (pos 0)
word_alone filter j words inside k i = elim (cases_lt k (length words)) [
  | inl l ↦ ap (λ m. get_or m i (pos 0))
      (get_or-map (moment_of (length filter.inputs) j) words k (pos 0) [] l)
      ∙ in_moment (cases_lt i (length filter.inputs)) (cases_eq i j) (get_or words k (pos 0))
  | inr past ↦ (let none : get_or (alone filter j words) k [] ≡ [] =
      get_or_past (alone filter j words) k []
      (let long = length-map words (moment_of (length filter.inputs) j) in omega (arith, past, long)) in
      ap (λ m. get_or m i (pos 0)) none ∙ sym (nothing (cases_eq i j) (get_or_past words k (pos 0) past)))
]
  where
    in_moment : (i < length filter.inputs) ⊎ (length filter.inputs ≤ i) → (i ≡ j) ⊎ (i ≡ j → ⊥) → (w : ℤ) →
        get_or (moment_of (length filter.inputs) j w) i (pos 0) ≡ cond (eqb i j) w (pos 0)
    in_moment (inl l) _ w = single_at (length filter.inputs) i (λ i. cond (eqb i j) w (pos 0)) (pos 0) l
    in_moment (inr past) (inl same) w = absurd (omega (arith, past, same, inside))
    in_moment (inr past) (inr other) w =
        get_or_past (moment_of (length filter.inputs) j w) i (pos 0)
        (let long = length_singles (length filter.inputs) (λ i. cond (eqb i j) w (pos 0)) in omega (arith, past, long))
        ∙ sym (rw (ne_eqb i j other) refl)

    nothing : (i ≡ j) ⊎ (i ≡ j → ⊥) → get_or words k (pos 0) ≡ pos 0 →
        cond (eqb i j) (get_or words k (pos 0)) (pos 0) ≡ pos 0
    nothing (inl same) none = rw (eq-eqb i j same) none
    nothing (inr other) none = rw (ne_eqb i j other) refl

-- ---- within bounds

-- a moment of one word within its bound is admissible
pub moment_admissible : (filter : Filter) (j : ℕ) (w : ℤ) → j < length filter.inputs →
    ((i : ℕ) → i < length filter.inputs → pos 0 ≤ℤ (input_at filter i).bound) →
    pos (unsigned_abs w) ≤ℤ (input_at filter j).bound →
    IsAdmissibleMoment filter (moment_of (length filter.inputs) j w)
moment_admissible filter j w inside positive small = record {
  count = long;
  within = λ i l. at i (cases_eq i j) (omega (arith, long, l));
}
  where
    long : length (moment_of (length filter.inputs) j w) ≡ length filter.inputs
    long = length_singles (length filter.inputs) (λ i. cond (eqb i j) w (pos 0))

    at : (i : ℕ) → (i ≡ j) ⊎ (i ≡ j → ⊥) → i < length filter.inputs →
        pos (unsigned_abs (get_or (moment_of (length filter.inputs) j w) i (pos 0))) ≤ℤ (input_at filter i).bound
    at i (inl same) l =
        let here : cond (eqb i j) w (pos 0) ≡ w = rw (eq-eqb i j same) refl in
        let e : get_or (moment_of (length filter.inputs) j w) i (pos 0) ≡ w =
        single_at (length filter.inputs) i (λ i. cond (eqb i j) w (pos 0)) (pos 0) l ∙ here in
        subst (λ z. pos (unsigned_abs z) ≤ℤ (input_at filter i).bound) (sym e)
        (subst (λ k. pos (unsigned_abs w) ≤ℤ (input_at filter k).bound) (sym same) small)
    at i (inr other) l =
        let here : cond (eqb i j) w (pos 0) ≡ pos 0 = rw (ne_eqb i j other) refl in
        let e : get_or (moment_of (length filter.inputs) j w) i (pos 0) ≡ pos 0 =
        single_at (length filter.inputs) i (λ i. cond (eqb i j) w (pos 0)) (pos 0) l ∙ here in
        subst (λ z. pos (unsigned_abs z) ≤ℤ (input_at filter i).bound) (sym e)
        (positive i l)

word_within : (filter : Filter) (moment : List ℤ) (j : ℕ) → IsAdmissibleMoment filter moment →
    unsigned_abs (get_or moment j (pos 0)) ≤ bound_of filter j
word_within filter moment j admissible = elim (cases_lt j (length moment)) [
  | inl here ↦ (let within : pos (unsigned_abs (get_or moment j (pos 0))) ≤ℤ (input_at filter j).bound =
      admissible.within j here in omega (arith, ints, within))
  | inr past ↦ (let none : get_or moment j (pos 0) ≡ pos 0 = get_or_past moment j (pos 0) past in rw none (omega arith))
]

-- each word of an admissible list is within its bound
pub admissible_within : (filter : Filter) (list : List (List ℤ)) → IsAdmissible filter list → (k j : ℕ) →
    unsigned_abs (word_at list k j) ≤ bound_of filter j
admissible_within filter list admissible k j = elim (cases_lt k (length list)) [
  | inl here ↦ word_within filter (get_or list k []) j (admissible k [] here)
  | inr past ↦ (let none : get_or list k [] ≡ [] = get_or_past list k [] past in rw none (omega arith))
]

-- so those of one that lies on one input are within the bounds for that input alone
pub lies_within : (filter : Filter) (j : ℕ) (list : List (List ℤ)) → LiesOn filter j list →
    WordsWithin (bound_alone filter j) (word_at list)
lies_within filter j list lies k i port = elim (cases_eq i j) [
  | inl same ↦ (let b : bound_alone filter j i ≡ bound_of filter j = rw (eq-eqb i j same) refl in
      let w = admissible_within filter list lies.admissible k i in
      let e : bound_of filter i ≡ bound_of filter j = ap (bound_of filter) same in
      omega (arith, b, w, e))
  | inr other ↦ (let none : word_at list k i ≡ pos 0 = lies.others_are_zero k i other in rw none (omega arith))
]
