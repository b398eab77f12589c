-- What stands in lists, and which entry of a list is of another kind or no numeral.
use Rattle.std.proofs.Common.{◌≡◌, ◌≢◌, ◌∙◌, ℕ, zero, suc, ◌+◌, ◌==◌, ℤ, false, List, []}
use Rattle.std.proofs.Common.{◌∷◌, ◌++◌, length, Option, Some, None, is_some, Result, Ok, Err, refl, sym, ap, subst}
use Rattle.std.proofs.Common.{arith, inl, inr}
use Rattle.std.specs.Prelude.{IsSome, flat_map, slice_get}
use Rattle.std.proofs.lemmas.Bool.{cases_Bool}
use Rattle.std.proofs.lemmas.Bool.Decides.{nat_tests}
use Rattle.toml.specs.Data.{Data, Members, Items, no_items, item, array, table, integer, string, get_item, as_str}
use Rattle.toml.specs.Data.{as_integer, as_array, as_table}
use Rattle.fx_math.specs.Faults.{or_fault}
use Rattle.fx_decimal.specs.Faults.{numeral}
use Rattle.fx_decimal.specs.declared.fault.DecimalFault.{DecimalFault}
use Rattle.fx_nums.specs.Fraction.{Fraction}
use Rattle.fx_keys.specs.Entries.{list_at, item_count, all_tables, exactly}
use Rattle.fx_keys.specs.Numerals.{numeral_text, in_place, numeral_at, all_numerals, each_numeral, all_rows, row_of}
use Rattle.fx_keys.specs.Numerals.{each_exactly, each_row}
use Rattle.fx_keys.specs.Wholes.{all_whole}
use Rattle.fx_keys.specs.declared.fault.FilterFault.{FilterFault}
use Rattle.fx_keys.specs.declared.fault.FilterFault.TheVariants.{WrongKind, Numeral, Shape}
use Rattle.fx_keys.specs.declared.key.Key.{Key}
use Rattle.fx_files.proofs.Steps.{bind_ok, fault_ok, same_ok, fault_err, test_err, in_step, some_and, none_and}
use Rattle.fx_files.proofs.HeldNumerals.{exact_count}
use Rattle.fx_faults.specs.Kinds as kind
use Rattle.fx_faults.specs.Kinds.{Kind, ListOf, HasKind, EachEntry, entries_of, listed}

-- ---- values of a kind

pub is_array : (v : Data) (vs : Items) → as_array v ≡ Some vs → v ≡ array vs
is_array (array ws) vs h = let same : ws ≡ vs = cc in ap array same
is_array _ vs h = absurd cc

pub is_table : (v : Data) (t : Members) → as_table v ≡ Some t → v ≡ table t
is_table (table s) t h = let same : s ≡ t = cc in ap table same
is_table _ t h = absurd cc

pub is_integer : (v : Data) (z : ℤ) → as_integer v ≡ Some z → v ≡ integer z
is_integer (integer y) z h = let same : y ≡ z = cc in ap integer same
is_integer _ z h = absurd cc

pub is_string : (v : Data) (s : List ℕ) → as_str v ≡ Some s → v ≡ string s
is_string (string r) s h = let same : r ≡ s = cc in ap string same
is_string _ s h = absurd cc

pub is_nothing : {A : Type 0} (o : Option A) → o ≡ None → ¬ IsSome o
is_nothing o h is = absurd cc

pub no_some : {A : Type 0} (o : Option A) → is_some o ≡ false → ¬ IsSome o
no_some o h is = absurd cc

-- a list with an entry of another kind
pub other_entry : (k : Kind) (v : Data) (vs : Items) (n : ℕ) (x : Data) → as_array v ≡ Some vs →
    get_item n vs ≡ Some x → ¬ HasKind k x → ¬ HasKind (ListOf k) v
other_entry k v vs n x list there other is =
    let (ws, found, each) = some_and (as_array v) (EachEntry (HasKind k)) is in
    let same : vs ≡ ws = cc in
    other (each n x (subst (λ (y : Items). get_item n y ≡ Some x) same there))

pub no_list : (k : Kind) (v : Data) → as_array v ≡ None → ¬ HasKind (ListOf k) v
no_list k v h = none_and (as_array v) (EachEntry (HasKind k)) h

-- ---- the first entry of another kind

pub other_table : {W : Type 0} (k : Key) (vs : Items) (f : FilterFault) → all_tables k vs ≡ Err f →
    ((n : ℕ) (x : Data) → get_item n vs ≡ Some x → ¬ HasKind kind.Table x → WrongKind k ≡ f → W) → W
unfolding all_tables
other_table k no_items f h told = absurd cc
other_table k (item v vs) f h told = elim (cases_Bool (is_some (as_table v))) [
  | inl is ↦ other_table k vs f (rw is at h) (λ n x there other e. told (suc n) x there other e)
  | inr no_table ↦
      let e : ◌≡◌ {A = Result (Unit {0}) FilterFault} (Err (WrongKind k)) (Err f) = rw no_table at h in
      told 0 v refl (no_some (as_table v) no_table) cc
]

pub other_whole : {W : Type 0} (k : Key) (vs : Items) (f : FilterFault) → all_whole k vs ≡ Err f →
    ((n : ℕ) (x : Data) → get_item n vs ≡ Some x → ¬ HasKind kind.Whole x → WrongKind k ≡ f → W) → W
unfolding all_whole
other_whole k no_items f h told = absurd cc
other_whole k (item v vs) f h told = elim (cases_Bool (is_some (as_integer v))) [
  | inl is ↦ other_whole k vs f (rw is at h) (λ n x there other e. told (suc n) x there other e)
  | inr no_whole ↦
      let e : ◌≡◌ {A = Result (Unit {0}) FilterFault} (Err (WrongKind k)) (Err f) = rw no_whole at h in
      told 0 v refl (no_some (as_integer v) no_whole) cc
]

pub other_numeral : {W : Type 0} (k : Key) (vs : Items) (f : FilterFault) → all_numerals k vs ≡ Err f →
    ((n : ℕ) (x : Data) → get_item n vs ≡ Some x → ¬ HasKind kind.Numeral x → WrongKind k ≡ f → W) → W
unfolding all_numerals
other_numeral k no_items f h told = absurd cc
other_numeral k (item v vs) f h told = elim (cases_Bool (is_some (numeral_text v))) [
  | inl is ↦ other_numeral k vs f (rw is at h) (λ n x there other e. told (suc n) x there other e)
  | inr no_numeral ↦
      let e : ◌≡◌ {A = Result (Unit {0}) FilterFault} (Err (WrongKind k)) (Err f) = rw no_numeral at h in
      told 0 v refl (no_some (numeral_text v) no_numeral) cc
]

-- a list, or its fault
pub list_fault : {W : Type 0} (k : Key) (v : Data) (f : FilterFault) → list_at k v ≡ Err f →
    (as_array v ≡ None → WrongKind k ≡ f → W) → W
list_fault k v f h told = let (none, e) = fault_err (WrongKind k) f (as_array v) h in told none e

pub other_row : {W : Type 0} (k : Key) (vs : Items) (f : FilterFault) → all_rows k vs ≡ Err f →
    ((n : ℕ) (x : Data) → get_item n vs ≡ Some x → ¬ HasKind (ListOf kind.Numeral) x → WrongKind k ≡ f → W) → W
unfolding all_rows
other_row k no_items f h told = absurd cc
other_row k (item v vs) f h told =
    in_step (list_at k v) _ f h
    (λ no. list_fault k v f no (λ none e. told 0 v refl (no_list kind.Numeral v none) e))
    (λ es list past_list. in_step (all_numerals k es) _ f past_list
    (λ no. other_numeral k es f no (λ n x there other e.
    told 0 v refl (other_entry kind.Numeral v es n x (fault_ok (WrongKind k) (as_array v) es list) there other) e))
    (λ u all past_all. other_row k vs f past_all (λ n x there other e. told (suc n) x there other e)))

-- ---- entries that are no numerals

-- the text of an entry is no numeral, or past a limit
pub record IsBad (k : Key) (place : ℕ) (x : Data) (f : FilterFault) : Type 0 where
  pub text : List ℕ
  pub bad : DecimalFault
  pub written : numeral_text x ≡ Some text
  pub read : numeral text ≡ Err bad
  pub told : Numeral k place bad ≡ f

in_place_err : {W : Type 0} (k : Key) (place : ℕ) (r : Result Fraction DecimalFault) (f : FilterFault) →
    in_place k place r ≡ Err f → ((e : DecimalFault) → r ≡ Err e → Numeral k place e ≡ f → W) → W
in_place_err k place (Ok x) f h told = absurd cc
in_place_err k place (Err e) f h told = told e refl cc

pub numeral_fault : {W : Type 0} (k : Key) (place : ℕ) (v : Data) (f : FilterFault) → numeral_at k place v ≡ Err f →
    (¬ HasKind kind.Numeral v → WrongKind k ≡ f → W) → (IsBad k place v f → W) → W
unfolding numeral_at
numeral_fault k place v f h other bad =
    in_step (or_fault (WrongKind k) (numeral_text v)) _ f h
    (λ no. let (none, e) = fault_err (WrongKind k) f (numeral_text v) no in other (is_nothing (numeral_text v) none) e)
    (λ text there past_there. in_place_err k place (numeral text) f past_there (λ e read told.
    bad (record {
      text = text;
      bad = e;
      written = fault_ok (WrongKind k) (numeral_text v) text there;
      read = read;
      told = told;
    })))

pub numerals_fault : {W : Type 0} (k : Key) (place : ℕ) (vs : Items) (f : FilterFault) →
    each_numeral k place vs ≡ Err f →
    ((n : ℕ) (x : Data) → get_item n vs ≡ Some x → ¬ HasKind kind.Numeral x → WrongKind k ≡ f → W) →
    ((n : ℕ) (x : Data) → get_item n vs ≡ Some x → IsBad k (place + n) x f → W) → W
unfolding each_numeral
numerals_fault k place no_items f h other bad = absurd cc
numerals_fault k place (item v vs) f h other bad =
    in_step (numeral_at k place v) _ f h
    (λ no. numeral_fault k place v f no (other 0 v refl)
    (λ is. let here : place ≡ place + 0 = omega arith in
    bad 0 v refl (subst (λ (p : ℕ). IsBad k p v f) here is)))
    (λ c first past_first. in_step (each_numeral k (place + 1) vs) _ f past_first
    (λ no. numerals_fault k (place + 1) vs f no (λ n x there. other (suc n) x there)
    (λ n x there is. let next : place + 1 + n ≡ place + suc n = omega arith in
    bad (suc n) x there (subst (λ (p : ℕ). IsBad k p x f) next is)))
    (λ cs others past_others. absurd cc))

-- ---- all entries, row after row

pub count_listed : (vs : Items) → length (flat_map (entries_of kind.Numeral) (listed vs)) ≡ item_count vs
unfolding item_count
count_listed no_items = refl
count_listed (item v vs) = ap suc (count_listed vs)

pub numeral_stands : (n : ℕ) (vs : Items) (x : Data) → get_item n vs ≡ Some x →
    slice_get (flat_map (entries_of kind.Numeral) (listed vs)) n ≡ Some x
numeral_stands n no_items x h = absurd cc
numeral_stands zero (item v vs) x h = h
numeral_stands (suc n) (item v vs) x h = numeral_stands n vs x h

pub whole_stands : (n : ℕ) (vs : Items) (x : Data) → get_item n vs ≡ Some x →
    slice_get (flat_map (entries_of kind.Whole) (listed vs)) n ≡ Some x
whole_stands n no_items x h = absurd cc
whole_stands zero (item v vs) x h = h
whole_stands (suc n) (item v vs) x h = whole_stands n vs x h

pub in_front : {A : Type 0} (n : ℕ) (xs ys : List A) (x : A) → slice_get xs n ≡ Some x → slice_get (xs ++ ys) n ≡ Some x
in_front n [] ys x h = absurd cc
in_front zero (y ∷ xs) ys x h = h
in_front (suc n) (y ∷ xs) ys x h = in_front n xs ys x h

pub behind : {A : Type 0} (n m : ℕ) (xs ys : List A) (x : A) → m ≡ length xs + n → slice_get ys n ≡ Some x →
    slice_get (xs ++ ys) m ≡ Some x
behind n m [] ys x e h = let same : m ≡ n = omega arith in rw same h
behind n zero (y ∷ xs) ys x e h = absurd (omega arith)
behind n (suc m) (y ∷ xs) ys x e h = behind n m xs ys x (omega arith) h

-- ---- rows

-- a row has another count of entries
pub record IsOtherRow (k : Key) (width : ℕ) (x : Data) (f : FilterFault) : Type 0 where
  pub row : Items
  pub is : x ≡ array row
  pub other : item_count row ≢ width
  pub told : Shape k (item_count row) width ≡ f

pub row_stands : (k : Key) (width : ℕ) (v : Data) (es : Items) → row_of k width v ≡ Ok es →
    (v ≡ array es) × (item_count es ≡ width)
unfolding row_of
row_stands k width v es h =
    let (ds, list, past_list) = bind_ok (list_at k v) _ es h in
    let (u, exact, same) = bind_ok (exactly k width ds) _ es past_list in
    let is : ds ≡ es = same_ok ds es same in (
      is_array v es (fault_ok (WrongKind k) (as_array v) ds list ∙ ap (λ (x : Items). Some x) is),
      ap (λ (x : Items). item_count x) (sym is) ∙ exact_count k width ds u exact,
    )

pub row_fault : {W : Type 0} (k : Key) (width : ℕ) (v : Data) (f : FilterFault) → row_of k width v ≡ Err f →
    (¬ HasKind (ListOf kind.Numeral) v → WrongKind k ≡ f → W) → (IsOtherRow k width v f → W) → W
unfolding row_of
row_fault k width v f h other shape =
    in_step (list_at k v) _ f h
    (λ no. list_fault k v f no (λ none e. other (no_list kind.Numeral v none) e))
    (λ es list past_list. in_step (exactly k width es) _ f past_list
    (λ no. let (test, e) = test_err (Shape k (item_count es) width) f (item_count es == width) no in
    shape (record {
      row = es;
      is = is_array v es (fault_ok (WrongKind k) (as_array v) es list);
      other = λ same. absurd (grind (arith, nat_tests));
      told = e;
    }))
    (λ u exact past_exact. absurd cc))

pub rows_fault : {W : Type 0} (k : Key) (width : ℕ) (vs : Items) (f : FilterFault) →
    each_exactly k width vs ≡ Err f →
    ((n : ℕ) (x : Data) → get_item n vs ≡ Some x → ¬ HasKind (ListOf kind.Numeral) x → WrongKind k ≡ f → W) →
    ((n : ℕ) (x : Data) → get_item n vs ≡ Some x → IsOtherRow k width x f → W) → W
unfolding each_exactly
rows_fault k width no_items f h other shape = absurd cc
rows_fault k width (item v vs) f h other shape =
    in_step (row_of k width v) _ f h
    (λ no. row_fault k width v f no (other 0 v refl) (shape 0 v refl))
    (λ es row past_row. rows_fault k width vs f past_row (λ n x there. other (suc n) x there)
    (λ n x there. shape (suc n) x there))

-- the entries of a row, and of those behind it
row_count : (k : Key) (width : ℕ) (v : Data) (es : Items) → row_of k width v ≡ Ok es →
    length (entries_of (ListOf kind.Numeral) v) ≡ width
row_count k width v es h =
    let (is, count) = row_stands k width v es h in
    rw is (count_listed es ∙ count)

pub matrix_fault : {W : Type 0} (k : Key) (width place : ℕ) (vs : Items) (f : FilterFault) →
    each_row k width place vs ≡ Err f →
    ((n : ℕ) (x : Data) → get_item n vs ≡ Some x → ¬ HasKind (ListOf kind.Numeral) x → WrongKind k ≡ f → W) →
    ((n : ℕ) (x : Data) → get_item n vs ≡ Some x → IsOtherRow k width x f → W) →
    ((n : ℕ) (x : Data) → slice_get (flat_map (entries_of (ListOf kind.Numeral)) (listed vs)) n ≡ Some x →
    IsBad k (place + n) x f → W) → W
unfolding each_row
matrix_fault k width place no_items f h other shape bad = absurd cc
matrix_fault k width place (item v vs) f h other shape bad =
    let first = entries_of (ListOf kind.Numeral) v in
    let rest = flat_map (entries_of (ListOf kind.Numeral)) (listed vs) in
    in_step (row_of k width v) _ f h
    (λ no. row_fault k width v f no (other 0 v refl) (shape 0 v refl))
    (λ es row past_row.
    let is : v ≡ array es = (row_stands k width v es row).0 in
    in_step (each_numeral k place es) _ f past_row
    (λ no. numerals_fault k place es f no
    (λ n x there no_numeral e.
    other 0 v refl (other_entry kind.Numeral v es n x (ap as_array is) there no_numeral) e)
    (λ n x there is_bad. bad n x
    (in_front n first rest x (subst (λ (y : Data). slice_get (entries_of (ListOf kind.Numeral) y) n ≡ Some x)
    (sym is) (numeral_stands n es x there))) is_bad))
    (λ xs all past_all. in_step (each_row k width (place + width) vs) _ f past_all
    (λ no. matrix_fault k width (place + width) vs f no (λ n x there. other (suc n) x there)
    (λ n x there. shape (suc n) x there)
    (λ n x there is_bad.
    let next : place + width + n ≡ place + (width + n) = omega arith in
    bad (width + n) x
    (behind n (width + n) first rest x (ap (λ (c : ℕ). c + n) (sym (row_count k width v es row))) there)
    (subst (λ (p : ℕ). IsBad k p x f) next is_bad)))
    (λ ys others past_others. absurd cc)))
