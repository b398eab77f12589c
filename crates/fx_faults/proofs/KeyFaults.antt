-- What is told at one key is true.
use Rattle.std.proofs.Common.{◌≡◌, ◌≢◌, ◌≤◌, ◌<◌, ◌∙◌, ℕ, ◌+◌, ◌==◌, ℤ, pos}
use Rattle.std.proofs.Common.{List, [], ◌∷◌, length, Option, Some, None}
use Rattle.std.proofs.Common.{Result, Ok, Err, refl, sym, ap, subst, arith, inl, inr, ◌⊎◌}
use Rattle.std.specs.Prelude.{IsSomeAnd, flat_map, slice_get, nat_lt, nat_le}
use Rattle.std.proofs.lemmas.Bool.Decides.{nat_tests}
use Rattle.toml.specs.Data.{Data, Members, Items, get_item, as_array}
use Rattle.fx_decimal.proofs.Continued.{empty_law, bad_byte_law}
use Rattle.fx_decimal.proofs.ReadingLaws.{parts_stand}
use Rattle.fx_decimal.proofs.Stops.{stops}
use Rattle.fx_decimal.specs.Faults.{Means, numeral, and_then, parts_in, stop}
use Rattle.fx_decimal.specs.Numeral.{Parts, meaning}
use Rattle.fx_decimal.specs.declared.fault.DecimalFault.{DecimalFault}
use Rattle.fx_decimal.specs.declared.fault.DecimalFault.TheVariants as decimal
use Rattle.fx_keys.specs.Entries.{list_at, item_count, some, at_most, exactly}
use Rattle.fx_keys.specs.Keys.{parent_of, most_of}
use Rattle.fx_keys.specs.Numerals.{all_numerals, each_numeral, entries_in, all_rows, rows_in, each_exactly}
use Rattle.fx_keys.specs.Numerals.{matrix}
use Rattle.fx_keys.specs.Table.{needed}
use Rattle.fx_keys.specs.declared.fault.FilterFault.{FilterFault}
use Rattle.fx_keys.specs.declared.fault.FilterFault.TheVariants.{Missing, WrongKind, Shape, Limit}
use Rattle.fx_keys.specs.declared.key.Key.{Key}
use Rattle.fx_keys.specs.declared.key.Key.TheVariants as key
use Rattle.fx_files.specs.Describes.{HoldsForm}
use Rattle.fx_files.specs.Holds.{value_at}
use Rattle.fx_files.specs.declared.forms.Form.{Form}
use Rattle.fx_files.proofs.Steps.{fault_ok, fault_err, test_err, in_step, and_some}
use Rattle.fx_files.proofs.HeldNumerals.{IsListed}
use Rattle.fx_faults.specs.Kinds as kind
use Rattle.fx_faults.specs.Kinds.{Kind, ListOf, kind_of, HasKind, IsOfNumerals, entries_of, listed}
use Rattle.fx_faults.specs.Places.{IsTableAt, HasValue, HasEntry, HasCount, IsFixedCount, IsFixedWidth}
use Rattle.fx_faults.specs.Faults.{IsRequired, IsNoNumeral, IsOutOfRange, IsTooLong, IsPastLimit}
use Rattle.fx_faults.specs.Faults.{IsTrueOf}
use Rattle.fx_faults.proofs.Listed.{is_array, other_entry, no_list, list_fault}
use Rattle.fx_faults.proofs.Listed.{other_numeral, other_row, IsBad, numerals_fault, numeral_stands}
use Rattle.fx_faults.proofs.Listed.{IsOtherRow, rows_fault, matrix_fault}

-- ---- values

pub own_value : (file : Members) (k : Key) (v : Data) → parent_of k ≡ None → value_at k file ≡ Some v →
    HasValue file k 0 v
own_value file k v own there = record {
  owner = file;
  stands = subst (λ (p : Option Key). IsTableAt p 0 file file) (sym own) refl;
  held = there;
}

pub missing_true : (file : Members) (k : Key) (place : ℕ) (owner : Members) (f : FilterFault) →
    IsTableAt (parent_of k) place file owner → IsRequired file k → needed k owner ≡ Err f → IsTrueOf file f
missing_true file k place owner f stands required h =
    let (none, e) = fault_err (Missing k) f (value_at k owner) h in
    subst (IsTrueOf file) e
    (record { required = required; place = place; owner = owner; stands = stands; absent = none })

pub kind_true : (file : Members) (k : Key) (kd : Kind) (place : ℕ) (v : Data) (f : FilterFault) →
    HasValue file k place v → kind_of k ≡ kd → ¬ HasKind kd v → WrongKind k ≡ f → IsTrueOf file f
kind_true file k kd place v f held is other e =
    subst (IsTrueOf file) e
    (record {
      place = place;
      value = v;
      held = held;
      other = subst (λ (x : Kind). ¬ HasKind x v) (sym is) other;
    })

-- ---- numerals

no_stop : (n : ℕ) (rest : List ℕ) (bad : DecimalFault) → bad ≡ stop n rest →
    (bad ≡ decimal.Empty) ⊎ ((at : ℕ) × (bad ≡ decimal.BadByte at))
no_stop n [] bad h = inl h
no_stop n (c ∷ cs) bad h = inr (_, h)

-- parts mean the fault, or there are none
text_or_limit : {W : Type 0} (text : List ℕ) (bad : DecimalFault) (r : Result Parts DecimalFault) →
    parts_in text ≡ r → and_then meaning r ≡ Err bad → (Means text (Err bad) → W) → (parts_in text ≡ Err bad → W) → W
text_or_limit text bad (Ok p) same h limit wrong =
    let s = parts_stand text p same in
    limit (record { parts = p; proper = s.proper; stands = s.stands; value = h })
text_or_limit text bad (Err e) same h limit wrong =
    wrong (let is : e ≡ bad = cc in same ∙ ap (λ (x : DecimalFault). Err x) is)

past_limit : (text : List ℕ) (bad : DecimalFault) → numeral text ≡ Err bad → bad ≢ decimal.Empty →
    ((at : ℕ) → bad ≢ decimal.BadByte at) → Means text (Err bad)
unfolding numeral
past_limit text bad h not_empty no_byte =
    text_or_limit text bad (parts_in text) refl h (λ is. is) (λ wrong.
    let s = stops text bad wrong in
    elim (no_stop (length text) s.rest bad s.fault) [
      | inl is ↦ absurd (not_empty is)
      | inr (at, is) ↦ absurd (no_byte at is)
    ])

no_numeral : (text : List ℕ) (bad : DecimalFault) → numeral text ≡ Err bad → IsNoNumeral bad text
no_numeral text decimal.Empty h = (empty_law text).0 h
no_numeral text (decimal.BadByte at) h = (bad_byte_law text at).0 h
no_numeral text decimal.TooManyDigits h = past_limit text decimal.TooManyDigits h (λ e. absurd cc) (λ at e. absurd cc)
no_numeral text decimal.TooFine h = past_limit text decimal.TooFine h (λ e. absurd cc) (λ at e. absurd cc)
no_numeral text decimal.TooLarge h = past_limit text decimal.TooLarge h (λ e. absurd cc) (λ at e. absurd cc)

pub bad_true : (file : Members) (k : Key) (place : ℕ) (x : Data) (f : FilterFault) → IsOfNumerals (kind_of k) →
    HasEntry file k place x → IsBad k place x f → IsTrueOf file f
bad_true file k place x f numerals held is =
    subst (IsTrueOf file) is.told
    (record {
      numerals = numerals;
      value = x;
      held = held;
      text = is.text;
      written = is.written;
      no_numeral = no_numeral is.text is.bad is.read;
    })

-- ---- counts

pub counted : (file : Members) (k : Key) (v : Data) (vs : Items) → value_at k file ≡ Some v → as_array v ≡ Some vs →
    HasCount file k (item_count vs)
counted file k v vs there list = rw (there, list) refl

pub some_true : (file : Members) (k : Key) (vs : Items) (f : FilterFault) → k ≢ key.K →
    HasCount file k (item_count vs) → some k vs ≡ Err f → IsTrueOf file f
some_true file k vs f other count h =
    let (test, e) = test_err (Shape k 0 1) f (nat_lt 0 (item_count vs)) h in
    let none : item_count vs ≡ 0 = grind (arith, nat_tests) in
    subst (IsTrueOf file) e
    ((λ same. absurd cc), inl (other, subst (HasCount file k) none count, refl, refl))

pub exactly_true : (file : Members) (form : Form) (k : Key) (wanted : ℕ) (vs : Items) (f : FilterFault) →
    HoldsForm file form → HasCount file k (item_count vs) → IsFixedCount file form k wanted →
    exactly k wanted vs ≡ Err f → IsTrueOf file f
exactly_true file form k wanted vs f named count fixed h =
    let (test, e) = test_err (Shape k (item_count vs) wanted) f (item_count vs == wanted) h in
    subst (IsTrueOf file) e (
      (λ same. absurd (grind (arith, nat_tests))),
      inr (inl (record { form = form; named = named; found = count; fixed = fixed })),
    )

-- ---- lists

-- what is said of a key that has a list of this kind in the file's own table
pub record IsListKey (file : Members) (k : Key) (kd : Kind) : Type 0 where
  pub own : parent_of k ≡ None
  pub is : kind_of k ≡ ListOf kd
  pub entry : (n : ℕ) (v : Data) →
      IsSomeAnd (value_at k file) (λ value. slice_get (entries_of (kind_of k) value) n ≡ Some v) → HasEntry file k n v
  pub past : (got limit : ℤ) → IsOutOfRange file k got limit ⊎ IsTooLong file k got limit →
      IsPastLimit file k got limit

pub count_at : (file : Members) (k : Key) (vs : Items) → IsListed k file vs → HasCount file k (item_count vs)
count_at file k vs h = counted file k h.value vs h.there h.list

pub most_true : (file : Members) (k : Key) (kd : Kind) (vs : Items) (f : FilterFault) → IsListKey file k kd →
    IsListed k file vs → 1 ≤ most_of k → at_most k vs ≡ Err f → IsTrueOf file f
most_true file k kd vs f of list some h =
    let (test, e) = test_err (Limit k (pos (item_count vs)) (pos (most_of k))) f
    (nat_le (item_count vs) (most_of k)) h in
    let above : most_of k < item_count vs = grind (arith, nat_tests) in
    subst (IsTrueOf file) e (of.past (pos (item_count vs)) (pos (most_of k)) (inr (record {
      count = item_count vs;
      found = count_at file k vs list;
      limited = some;
      above = above;
      counted = refl;
      most = refl;
    })))

-- the value is no list, or an entry of it is of another kind
pub list_true : (file : Members) (k : Key) (kd : Kind) (v : Data) (f : FilterFault) → IsListKey file k kd →
    value_at k file ≡ Some v → list_at k v ≡ Err f → IsTrueOf file f
list_true file k kd v f of there h = list_fault k v f h (λ none e.
    kind_true file k (ListOf kd) 0 v f (own_value file k v of.own there) of.is (no_list kd v none) e)

pub entry_true : (file : Members) (k : Key) (kd : Kind) (vs : Items) (n : ℕ) (x : Data) (f : FilterFault) →
    IsListKey file k kd → IsListed k file vs → get_item n vs ≡ Some x → ¬ HasKind kd x → WrongKind k ≡ f →
    IsTrueOf file f
entry_true file k kd vs n x f of list there other e =
    kind_true file k (ListOf kd) 0 list.value f (own_value file k list.value of.own list.there) of.is
    (other_entry kd list.value vs n x list.list there other) e

pub list_here : (file : Members) (k : Key) (v : Data) (vs : Items) → needed k file ≡ Ok v → list_at k v ≡ Ok vs →
    IsListed k file vs
list_here file k v vs there list = record {
  value = v;
  there = fault_ok (Missing k) (value_at k file) v there;
  list = fault_ok (WrongKind k) (as_array v) vs list;
}

own_missing : (file : Members) (k : Key) (kd : Kind) (f : FilterFault) → IsListKey file k kd → IsRequired file k →
    needed k file ≡ Err f → IsTrueOf file f
own_missing file k kd f of required h =
    missing_true file k 0 file f (subst (λ (p : Option Key). IsTableAt p 0 file file) (sym of.own) refl) required h

pub entries_true : (file : Members) (k : Key) (f : FilterFault) → IsListKey file k kind.Numeral → IsRequired file k →
    entries_in k file ≡ Err f → IsTrueOf file f
unfolding entries_in
entries_true file k f of required h =
    in_step (needed k file) _ f h (own_missing file k kind.Numeral f of required)
    (λ v there past_there. in_step (list_at k v) _ f past_there
    (list_true file k kind.Numeral v f of (fault_ok (Missing k) (value_at k file) v there))
    (λ vs list past_list. in_step (all_numerals k vs) _ f past_list
    (λ wrong. other_numeral k vs f wrong (λ n x at other e.
    entry_true file k kind.Numeral vs n x f of (list_here file k v vs there list) at other e))
    (λ u all past_all. absurd cc)))

pub rows_true : (file : Members) (k : Key) (f : FilterFault) → IsListKey file k (ListOf kind.Numeral) →
    IsRequired file k → rows_in k file ≡ Err f → IsTrueOf file f
unfolding rows_in
rows_true file k f of required h =
    in_step (needed k file) _ f h (own_missing file k (ListOf kind.Numeral) f of required)
    (λ v there past_there. in_step (list_at k v) _ f past_there
    (list_true file k (ListOf kind.Numeral) v f of (fault_ok (Missing k) (value_at k file) v there))
    (λ vs list past_list. in_step (all_rows k vs) _ f past_list
    (λ wrong. other_row k vs f wrong (λ n x at other e.
    entry_true file k (ListOf kind.Numeral) vs n x f of (list_here file k v vs there list) at other e))
    (λ u all past_all. absurd cc)))

-- an entry is no numeral
pub numerals_true : (file : Members) (k : Key) (vs : Items) (f : FilterFault) → IsListKey file k kind.Numeral →
    IsListed k file vs → each_numeral k 0 vs ≡ Err f → IsTrueOf file f
numerals_true file k vs f of list h = numerals_fault k 0 vs f h
    (λ n x there other e. entry_true file k kind.Numeral vs n x f of list there other e)
    (λ n x there is.
    let at : 0 + n ≡ n = omega arith in
    let value : entries_of (kind_of k) list.value ≡ flat_map (entries_of kind.Numeral) (listed vs) =
    ap (λ (kd : Kind). entries_of kd list.value) of.is
    ∙ ap (λ (v : Data). entries_of (ListOf kind.Numeral) v) (is_array list.value vs list.list) in
    bad_true file k n x f (subst IsOfNumerals (sym of.is) tt)
    (of.entry n x (and_some (value_at k file) (λ v. slice_get (entries_of (kind_of k) v) n ≡ Some x) list.value
    list.there (rw value (numeral_stands n vs x there))))
    (subst (λ (p : ℕ). IsBad k p x f) at is))

-- a row has another count of entries, or one of these is no numeral
pub matrix_true : (file : Members) (k : Key) (width : ℕ) (vs : Items) (f : FilterFault) →
    IsListKey file k (ListOf kind.Numeral) → IsListed k file vs → IsFixedWidth file k width →
    matrix k width vs ≡ Err f → IsTrueOf file f
unfolding matrix
matrix_true file k width vs f of list fixed h =
    let other : (n : ℕ) (x : Data) → get_item n vs ≡ Some x → ¬ HasKind (ListOf kind.Numeral) x → WrongKind k ≡ f →
    IsTrueOf file f = λ n x there other e. entry_true file k (ListOf kind.Numeral) vs n x f of list there other e in
    let shape : (n : ℕ) (x : Data) → get_item n vs ≡ Some x → IsOtherRow k width x f → IsTrueOf file f =
    λ n x there r. subst (IsTrueOf file) r.told (
      r.other,
      inr (inr (record {
        found = record {
          rows = vs;
          held = rw (list.there, list.list) refl;
          place = n;
          row = r.row;
          stands = there ∙ ap (λ (v : Data). Some v) r.is;
          count = refl;
        };
        fixed = fixed;
      })),
    ) in
    in_step (each_exactly k width vs) _ f h
    (λ wrong. rows_fault k width vs f wrong other shape)
    (λ u exact past_exact. matrix_fault k width 0 vs f past_exact other shape (λ n x there is.
    let at : 0 + n ≡ n = omega arith in
    let value : entries_of (kind_of k) list.value ≡ flat_map (entries_of (ListOf kind.Numeral)) (listed vs) =
    ap (λ (kd : Kind). entries_of kd list.value) of.is
    ∙ ap (λ (v : Data). entries_of (ListOf (ListOf kind.Numeral)) v) (is_array list.value vs list.list) in
    bad_true file k n x f (subst IsOfNumerals (sym of.is) tt)
    (of.entry n x (and_some (value_at k file) (λ v. slice_get (entries_of (kind_of k) v) n ≡ Some x) list.value
    list.there (rw value there)))
    (subst (λ (p : ℕ). IsBad k p x f) at is)))
