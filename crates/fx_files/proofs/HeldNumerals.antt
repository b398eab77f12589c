-- Lists, rows and matrices of numerals are read exactly where a table holds them.
use Rattle.std.proofs.Common.{◌≡◌, ◌∙◌, ℕ, ◌+◌}
use Rattle.std.proofs.Common.{true, List, [], ◌∷◌, ◌++◌, length, Some}
use Rattle.std.proofs.Common.{Result, Ok, Err, refl, sym, ap, subst, arith}
use Rattle.std.specs.Prelude.{IsSomeAnd, ◌==◌}
use Rattle.std.proofs.lemmas.Bool.{eqb-true}
use Rattle.std.proofs.lemmas.Bool.Decides.{nat_tests}
use Rattle.std.proofs.lemmas.List.Elements.{All-nil, All-cons, All-head, All-tail}
use Rattle.toml.specs.Data.{Data, Members, Items, no_items, item, as_array}
use Rattle.fx_nums.specs.Fraction.{Fraction}
use Rattle.fx_decimal.specs.Faults.{Means, numeral}
use Rattle.fx_decimal.specs.declared.fault.DecimalFault.{DecimalFault}
use Rattle.fx_decimal.proofs.ReadingLaws.{numeral_law}
use Rattle.fx_math.specs.Faults.{or_fault}
use Rattle.fx_keys.specs.Entries.{list_at, item_count, exactly}
use Rattle.fx_files.specs.Holds.{value_at, Each, IsListOf}
use Rattle.fx_files.specs.Holds.{IsNumeralOf}
use Rattle.fx_files.specs.Holds.{row_after_row, AreWide}
use Rattle.fx_keys.specs.Numerals.{numeral_text, in_place, numeral_at, all_numerals, each_numeral, entries_in}
use Rattle.fx_keys.specs.Numerals.{all_rows, rows_in, row_of, each_exactly, each_row, matrix}
use Rattle.fx_keys.specs.Table.{needed}
use Rattle.fx_keys.specs.declared.fault.FilterFault.TheVariants.{Missing, WrongKind}
use Rattle.fx_keys.specs.declared.key.Key.{Key}
use Rattle.fx_files.proofs.Steps.{and_some, bind_ok, fault_ok, ok_stands, same_ok, some_and, unless_ok}
use Rattle.fx_files.proofs.HeldNumbers.{count_of}

in_place_ok : (k : Key) (place : ℕ) (r : Result Fraction DecimalFault) (c : Fraction) →
    in_place k place r ≡ Ok c → r ≡ Ok c
in_place_ok k place (Ok x) c h = let same : x ≡ c = cc in rw same refl
in_place_ok k place (Err e) c h = absurd cc

pub numeral_read : (k : Key) (place : ℕ) (v : Data) (c : Fraction) → numeral_at k place v ≡ Ok c → IsNumeralOf c v
unfolding numeral_at
numeral_read k place v c h =
    let (text, there, meant) = bind_ok (or_fault (WrongKind k) (numeral_text v)) _ c h in
    and_some (numeral_text v) _ text (fault_ok (WrongKind k) (numeral_text v) text there)
    ((numeral_law text c).0 (in_place_ok k place (numeral text) c meant))

pub numeral_stands : (k : Key) (place : ℕ) (v : Data) (c : Fraction) → IsNumeralOf c v → numeral_at k place v ≡ Ok c
unfolding numeral_at
numeral_stands k place v c h =
    let (text, there, means) = some_and (numeral_text v) (λ text. Means text (Ok c)) h in
    rw (ok_stands (WrongKind k) (numeral_text v) text there, (numeral_law text c).1 means) refl

pub numerals_entries : (k : Key) (place : ℕ) (vs : Items) (cs : List Fraction) →
    each_numeral k place vs ≡ Ok cs → Each IsNumeralOf cs vs
unfolding each_numeral
numerals_entries k place no_items cs h =
    subst (λ (xs : List Fraction). Each IsNumeralOf xs no_items) (same_ok [] cs h) tt
numerals_entries k place (item v vs) cs h =
    let (x, first, rest) = bind_ok (numeral_at k place v) _ cs h in
    let (xs, others, same) = bind_ok (each_numeral k (place + 1) vs) _ cs rest in
    subst (λ (ys : List Fraction). Each IsNumeralOf ys (item v vs)) (same_ok (x ∷ xs) cs same)
    (numeral_read k place v x first, numerals_entries k (place + 1) vs xs others)

pub entries_numerals : (k : Key) (place : ℕ) (vs : Items) (cs : List Fraction) → Each IsNumeralOf cs vs →
    each_numeral k place vs ≡ Ok cs
unfolding each_numeral
entries_numerals k place no_items [] h = refl
entries_numerals k place (item v vs) [] h = absurd h
entries_numerals k place no_items (c ∷ cs) h = absurd h
entries_numerals k place (item v vs) (c ∷ cs) h =
    rw (numeral_stands k place v c h.0, entries_numerals k (place + 1) vs cs h.1) refl

pub entries_all : (k : Key) (vs : Items) (cs : List Fraction) → Each IsNumeralOf cs vs → all_numerals k vs ≡ Ok tt
unfolding all_numerals
entries_all k no_items [] h = refl
entries_all k (item v vs) [] h = absurd h
entries_all k no_items (c ∷ cs) h = absurd h
entries_all k (item v vs) (c ∷ cs) h =
    let (text, there, means) = some_and (numeral_text v) (λ text. Means text (Ok c)) h.0 in
    rw there (entries_all k vs cs h.1)

-- ---- a list at a key

-- the key has this list
pub record IsListed (k : Key) (t : Members) (vs : Items) : Type 0 where
  pub value : Data
  pub there : value_at k t ≡ Some value
  pub list : as_array value ≡ Some vs

pub listed : {A : Type 0} (says : A → Data → Type 0) (xs : List A) (k : Key) (t : Members) (vs : Items) →
    IsListed k t vs → Each says xs vs → IsSomeAnd (value_at k t) (IsListOf says xs)
listed says xs k t vs h each =
    and_some (value_at k t) (IsListOf says xs) h.value h.there
    (and_some (as_array h.value) (Each says xs) vs h.list each)

pub list_of : {A : Type 0} (says : A → Data → Type 0) (xs : List A) (k : Key) (t : Members) →
    IsSomeAnd (value_at k t) (IsListOf says xs) → (vs : Items) × IsListed k t vs × Each says xs vs
list_of says xs k t h =
    let (v, there, is) = some_and (value_at k t) (IsListOf says xs) h in
    let (vs, list, each) = some_and (as_array v) (Each says xs) is in
    (vs, record { value = v; there = there; list = list }, each)

pub entries_listed : (k : Key) (t : Members) (vs : Items) → entries_in k t ≡ Ok vs → IsListed k t vs
unfolding entries_in
entries_listed k t vs h =
    let (v, there, past_there) = bind_ok (needed k t) _ vs h in
    let (ws, list, past_list) = bind_ok (list_at k v) _ vs past_there in
    let (u, all, same) = bind_ok (all_numerals k ws) _ vs past_list in
    record {
      value = v;
      there = fault_ok (Missing k) (value_at k t) v there;
      list =
          fault_ok (WrongKind k) (as_array v) ws list ∙ ap (λ (x : Items). Some x) (same_ok ws vs same);
    }

pub listed_entries : (k : Key) (t : Members) (vs : Items) (cs : List Fraction) → IsListed k t vs →
    Each IsNumeralOf cs vs → entries_in k t ≡ Ok vs
unfolding entries_in
listed_entries k t vs cs h each =
    rw (
      ok_stands (Missing k) (value_at k t) h.value h.there,
      ok_stands (WrongKind k) (as_array h.value) vs h.list,
      entries_all k vs cs each,
    ) refl

pub rows_listed : (k : Key) (t : Members) (vs : Items) → rows_in k t ≡ Ok vs → IsListed k t vs
unfolding rows_in
rows_listed k t vs h =
    let (v, there, past_there) = bind_ok (needed k t) _ vs h in
    let (ws, list, past_list) = bind_ok (list_at k v) _ vs past_there in
    let (u, all, same) = bind_ok (all_rows k ws) _ vs past_list in
    record {
      value = v;
      there = fault_ok (Missing k) (value_at k t) v there;
      list =
          fault_ok (WrongKind k) (as_array v) ws list ∙ ap (λ (x : Items). Some x) (same_ok ws vs same);
    }

rows_all : (k : Key) (vs : Items) (rows : List (List Fraction)) → Each (IsListOf IsNumeralOf) rows vs →
    all_rows k vs ≡ Ok tt
unfolding all_rows
rows_all k no_items [] h = refl
rows_all k (item v vs) [] h = absurd h
rows_all k no_items (r ∷ rs) h = absurd h
rows_all k (item v vs) (r ∷ rs) h =
    let (es, list, each) = some_and (as_array v) (Each IsNumeralOf r) h.0 in
    rw (ok_stands (WrongKind k) (as_array v) es list, entries_all k es r each) (rows_all k vs rs h.1)

pub listed_rows : (k : Key) (t : Members) (vs : Items) (rows : List (List Fraction)) → IsListed k t vs →
    Each (IsListOf IsNumeralOf) rows vs → rows_in k t ≡ Ok vs
unfolding rows_in
listed_rows k t vs rows h each =
    rw (
      ok_stands (Missing k) (value_at k t) h.value h.there,
      ok_stands (WrongKind k) (as_array h.value) vs h.list,
      rows_all k vs rows each,
    ) refl

-- ---- rows of so many entries

pub exact_count : (k : Key) (wanted : ℕ) (vs : Items) (u : Unit {0}) → exactly k wanted vs ≡ Ok u →
    item_count vs ≡ wanted
exact_count k wanted vs u h = let test = unless_ok _ _ u h in eqb-true (item_count vs) wanted test

pub exact_test : (n m : ℕ) → n ≡ m → (n == m) ≡ true
exact_test n m h = grind (arith, nat_tests)

row_read : (k : Key) (width : ℕ) (v : Data) (es : Items) → row_of k width v ≡ Ok es →
    (as_array v ≡ Some es) × (item_count es ≡ width)
unfolding row_of
row_read k width v es h =
    let (ds, list, past_list) = bind_ok (list_at k v) _ es h in
    let (u, exact, same) = bind_ok (exactly k width ds) _ es past_list in
    let is : ds ≡ es = same_ok ds es same in (
      fault_ok (WrongKind k) (as_array v) ds list ∙ ap (λ (x : Items). Some x) is,
      ap (λ (x : Items). item_count x) (sym is) ∙ exact_count k width ds u exact,
    )

row_stands : (k : Key) (width : ℕ) (v : Data) (es : Items) → as_array v ≡ Some es → item_count es ≡ width →
    row_of k width v ≡ Ok es
unfolding row_of
row_stands k width v es list count =
    rw (ok_stands (WrongKind k) (as_array v) es list, exact_test (item_count es) width count) refl

-- rows that stand in a list, of so many entries, and their entries row after row
pub record AreRows (width : ℕ) (vs : Items) (cs : List Fraction) : Type 0 where
  pub rows : List (List Fraction)
  pub stand : Each (IsListOf IsNumeralOf) rows vs
  pub wide : AreWide width rows
  pub joined : cs ≡ row_after_row rows

rows_read : (k : Key) (width place : ℕ) (vs : Items) (cs : List Fraction) → each_row k width place vs ≡ Ok cs →
    AreRows width vs cs
unfolding each_row
rows_read k width place no_items cs h =
    record { rows = []; stand = tt; wide = All-nil _; joined = sym (same_ok [] cs h) }
rows_read k width place (item v vs) cs h =
    let (es, row, past_row) = bind_ok (row_of k width v) _ cs h in
    let (xs, first, past_first) = bind_ok (each_numeral k place es) _ cs past_row in
    let (ys, others, same) = bind_ok (each_row k width (place + width) vs) _ cs past_first in
    let (list, count) = row_read k width v es row in
    let each = numerals_entries k place es xs first in
    let rest = rows_read k width (place + width) vs ys others in
    record {
      rows = xs ∷ rest.rows;
      stand = (and_some (as_array v) (Each IsNumeralOf xs) es list each, rest.stand);
      wide = All-cons (λ row. length row ≡ width) xs rest.rows (sym (count_of IsNumeralOf xs es each) ∙ count)
          rest.wide;
      joined = sym (same_ok (xs ++ ys) cs same) ∙ ap (λ (zs : List Fraction). xs ++ zs) rest.joined;
    }

rows_exact : (k : Key) (width : ℕ) (vs : Items) (rows : List (List Fraction)) →
    Each (IsListOf IsNumeralOf) rows vs → AreWide width rows → each_exactly k width vs ≡ Ok tt
unfolding each_exactly
rows_exact k width no_items [] h wide = refl
rows_exact k width (item v vs) [] h wide = absurd h
rows_exact k width no_items (r ∷ rs) h wide = absurd h
rows_exact k width (item v vs) (r ∷ rs) h wide =
    let (es, list, each) = some_and (as_array v) (Each IsNumeralOf r) h.0 in
    let count = count_of IsNumeralOf r es each ∙ All-head (λ row. length row ≡ width) r rs wide in
    rw (row_stands k width v es list count)
    (rows_exact k width vs rs h.1 (All-tail (λ row. length row ≡ width) r rs wide))

rows_stand : (k : Key) (width place : ℕ) (vs : Items) (rows : List (List Fraction)) →
    Each (IsListOf IsNumeralOf) rows vs → AreWide width rows →
    each_row k width place vs ≡ Ok (row_after_row rows)
unfolding each_row
rows_stand k width place no_items [] h wide = refl
rows_stand k width place (item v vs) [] h wide = absurd h
rows_stand k width place no_items (r ∷ rs) h wide = absurd h
rows_stand k width place (item v vs) (r ∷ rs) h wide =
    let (es, list, each) = some_and (as_array v) (Each IsNumeralOf r) h.0 in
    let count = count_of IsNumeralOf r es each ∙ All-head (λ row. length row ≡ width) r rs wide in
    rw (
      row_stands k width v es list count,
      entries_numerals k place es r each,
      rows_stand k width (place + width) vs rs h.1 (All-tail (λ row. length row ≡ width) r rs wide),
    ) refl

pub matrix_read : (k : Key) (width : ℕ) (vs : Items) (cs : List Fraction) → matrix k width vs ≡ Ok cs →
    AreRows width vs cs
unfolding matrix
matrix_read k width vs cs h =
    let (u, exact, rest) = bind_ok (each_exactly k width vs) _ cs h in
    rows_read k width 0 vs cs rest

pub matrix_stands : (k : Key) (width : ℕ) (vs : Items) (rows : List (List Fraction)) →
    Each (IsListOf IsNumeralOf) rows vs → AreWide width rows → matrix k width vs ≡ Ok (row_after_row rows)
unfolding matrix
matrix_stands k width vs rows h wide = rw (rows_exact k width vs rows h wide) (rows_stand k width 0 vs rows h wide)
