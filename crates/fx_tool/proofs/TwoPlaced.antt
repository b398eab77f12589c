-- Two files that are placed: three names that fit are all different, so each file holds its own content.
use Rattle.std.proofs.Common.{◌≡◌, inl, inr, ◌∙◌, ℕ, Bool, true, false, cond, not, List, [], ◌∷◌, Some, refl}
use Rattle.std.proofs.Common.{arith, length, ◌&&◌, ◌||◌, bytes_eq, sym, ap}
use Rattle.std.proofs.lemmas.Bool.{cases_Bool, eqb-true}
use Rattle.std.proofs.lemmas.Cmp.{nat_list_cmp_total}
use Rattle.std.proofs.lemmas.Map.Text.{is_eq-slice_cmp}
use Rattle.std.proofs.lemmas.Slice.Eq.{bytes_eq-Decides}
use Rattle.std.specs.FinMap.{get, get-insert, insert}
use Rattle.fx_io.specs.Shelf.{Files}
use Rattle.fx_words.specs.Command.{names_fit}
use Rattle.fx_words.specs.declared.command.Verb.TheVariants.{Make}

-- ---- the names

pub record Apart (first second third : List ℕ) : Type 0 where
  pub second_first : bytes_eq second first ≡ false
  pub third_first : bytes_eq third first ≡ false
  pub third_second : bytes_eq third second ≡ false

-- the three names that `make` has
pub record AreThree (names : List (List ℕ)) : Type 0 where
  pub first : List ℕ
  pub second : List ℕ
  pub third : List ℕ
  pub are : names ≡ first ∷ second ∷ third ∷ []
  pub apart : Apart first second third

no_two : (p q r : Bool) → (not (p || (q || false)) && (not (r || false) && true)) ≡ true →
    (p ≡ false) × (q ≡ false) × (r ≡ false)
no_two true q r h = cc
no_two false true r h = cc
no_two false false true h = cc
no_two false false false h = (refl, refl, refl)

first_holds : (a b : Bool) → (a && b) ≡ true → a ≡ true
first_holds true b h = refl
first_holds false b h = cc

pub three_names : (names : List (List ℕ)) → names_fit Make names ≡ true → AreThree names
three_names [] h = cc
three_names (a ∷ []) h = cc
three_names (a ∷ b ∷ []) h = cc
three_names (a ∷ b ∷ c ∷ []) h =
    let (second, third, last) = no_two (bytes_eq b a) (bytes_eq c a) (bytes_eq c b) h in
    record {
      first = a;
      second = b;
      third = c;
      are = refl;
      apart = record { second_first = second; third_first = third; third_second = last };
    }
three_names (a ∷ b ∷ c ∷ d ∷ others) h =
    absurd (let count : length (a ∷ b ∷ c ∷ d ∷ others) ≡ 3 =
    eqb-true (length (a ∷ b ∷ c ∷ d ∷ others)) 3 (first_holds _ _ h) in omega (arith, count))

unequal_back : (a b : List ℕ) → bytes_eq a b ≡ false → bytes_eq b a ≡ false
unequal_back a b h = elim (cases_Bool (bytes_eq b a)) [
  | inl same ↦
      (let is : bytes_eq a b ≡ true = (bytes_eq-Decides a b).1 (sym ((bytes_eq-Decides b a).0 same)) in absurd cc)
  | inr other ↦ other
]

-- ---- the files

held : (files : Files) (name bytes : List ℕ) → get (insert files name bytes) name ≡ Some bytes
held files name bytes =
    get-insert nat_list_cmp_total files name bytes name
    ∙ ap (λ b. cond b (Some bytes) (get files name))
    (is_eq-slice_cmp name name ∙ (bytes_eq-Decides name name).1 refl)

as_before : (files : Files) (name bytes other : List ℕ) → bytes_eq other name ≡ false →
    get (insert files name bytes) other ≡ get files other
as_before files name bytes other h =
    get-insert nat_list_cmp_total files name bytes other
    ∙ ap (λ b. cond b (Some bytes) (get files other)) (is_eq-slice_cmp other name ∙ h)

-- what the three names have, after the second and the third were placed
pub record Hold (files files' : Files) (first second third code cert : List ℕ) : Type 0 where
  pub first_kept : get files' first ≡ get files first
  pub second_there : get files' second ≡ Some code
  pub third_there : get files' third ≡ Some cert

pub two_placed : (files : Files) (first second third code cert : List ℕ) → Apart first second third →
    Hold files (insert (insert files second code) third cert) first second third code cert
two_placed files first second third code cert apart = record {
  first_kept = as_before (insert files second code) third cert first (unequal_back third first apart.third_first)
      ∙ as_before files second code first (unequal_back second first apart.second_first);
  second_there = as_before (insert files second code) third cert second (unequal_back third second apart.third_second)
      ∙ held files second code;
  third_there = held (insert files second code) third cert;
}
