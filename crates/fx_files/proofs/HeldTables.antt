-- Tables in lists, and the keys of a table, are read exactly where a table holds them.
use Rattle.std.proofs.Common.{◌≡◌, ◌∙◌, ℕ, ◌+◌, ℤ, pos, ◌≤ℤ◌}
use Rattle.std.proofs.Common.{Bool, true, false, List, [], ◌∷◌, length}
use Rattle.std.proofs.Common.{Some, nat_cmp, Result, Ok, Err}
use Rattle.std.proofs.Common.{refl, ap, subst, inl, inr}
use Rattle.std.specs.Prelude.{IsSomeAnd, IsSome, not}
use Rattle.std.specs.Int.Signed.{lt_z, lt_z_no}
use Rattle.std.specs.Cmp.Lexicographic.{slice_cmp}
use Rattle.std.proofs.lemmas.Bool.{cases_Bool}
use Rattle.toml.specs.Data.{Members, no_members, member, Items, no_items, item, get_member}
use Rattle.toml.specs.Data.{as_array, as_table}
use Rattle.fx_nums.specs.Fraction.{Fraction}
use Rattle.fx_math.specs.Faults.{or_fault, unless}
use Rattle.fx_files.specs.Describes.{DescribesInput}
use Rattle.fx_keys.proofs.Ascending.{found_later, found_where, same_bytes, same_itself}
use Rattle.fx_keys.specs.Entries.{list_at, item_count, all_tables, some, at_most}
use Rattle.fx_files.specs.Holds.{value_at, HasOnly, Each, IsTableOf, CountFits, HoldsTables}
use Rattle.fx_files.specs.Holds.{HoldsWhole, HoldsNatural, IsNumeralOf}
use Rattle.fx_keys.specs.Keys.{range_of, most_of, default_of}
use Rattle.fx_keys.specs.Numerals.{numeral_at}
use Rattle.fx_files.specs.Ports.{Inputs, Ports, top_word, bounds_of, tables_in, input_in, each_input, inputs_in}
use Rattle.fx_files.specs.Ports.{error_in, output_in, each_output, outputs_in, ports_in}
use Rattle.fx_keys.specs.Table.{needed, is_known, only_keys}
use Rattle.fx_keys.specs.Wholes.{whole_or, whole_in, natural_in}
use Rattle.fx_keys.specs.declared.fault.FilterFault.{FilterFault}
use Rattle.fx_keys.specs.declared.fault.FilterFault.TheVariants.{Missing, WrongKind, UnknownKey}
use Rattle.fx_keys.specs.declared.fault.FilterFault.TheVariants.{Limit}
use Rattle.fx_files.specs.declared.formats.InputFormat.{InputFormat}
use Rattle.fx_files.specs.declared.formats.OutputEntry.{OutputEntry}
use Rattle.fx_keys.specs.declared.key.Key.{Key}
use Rattle.fx_keys.specs.declared.key.Key.TheVariants as key
use Rattle.fx_keys.specs.declared.limits.TheConstants.{LOWS}
use Rattle.fx_files.proofs.Steps.{and_some, bind_ok, fault_ok, ok_stands, same_ok, some_and, unless_ok}
use Rattle.fx_files.proofs.HeldNumbers.{count_of, count_read, few_test}
use Rattle.fx_files.proofs.HeldNumbers.{natural_read, natural_stands, not_below}
use Rattle.fx_files.proofs.HeldNumbers.{some_test, sure_no, whole_read, whole_stands}
use Rattle.fx_files.proofs.HeldNumerals.{IsListed}
use Rattle.fx_files.proofs.HeldNumerals.{list_of, listed}
use Rattle.fx_files.proofs.HeldNumerals.{numeral_read, numeral_stands}

-- ---- no other key

pub only_read : (known : List Key) (t : Members) (u : Unit {0}) → only_keys known t ≡ Ok u → HasOnly known t
unfolding only_keys
only_read known no_members u h text there = absurd cc
only_read known (member j d ms) u h text there = elim (cases_Bool (is_known known j)) [
  | inl is ↦ elim (found_where (slice_cmp nat_cmp text j) d (get_member text ms) there) [
    | inl same ↦ rw (same_bytes text j same) is
    | inr later ↦ only_read known ms u (rw is at h) text later
  ]
  | inr other ↦ absurd (let e : ◌≡◌ {A = Result (Unit {0}) FilterFault} (Err (UnknownKey j)) (Ok u) =
      rw other at h in cc)
]

pub only_stands : (known : List Key) (t : Members) → HasOnly known t → only_keys known t ≡ Ok tt
unfolding only_keys
only_stands known no_members h = refl
only_stands known (member j d ms) h =
    let there : IsSome (get_member j (member j d ms)) = rw (same_itself j) refl in
    let is : is_known known j ≡ true = h j there in
    rw is (only_stands known ms (λ text later.
    h text (found_later (slice_cmp nat_cmp text j) d (get_member text ms) later)))

-- ---- tables in lists

tables_all : {A : Type 0} (describes : Members → A → Type 0) (k : Key) (vs : Items) (xs : List A) →
    Each (IsTableOf describes) xs vs → all_tables k vs ≡ Ok tt
unfolding all_tables
tables_all describes k no_items [] h = refl
tables_all describes k (item v vs) [] h = absurd h
tables_all describes k no_items (x ∷ xs) h = absurd h
tables_all describes k (item v vs) (x ∷ xs) h =
    let (t, there, is) = some_and (as_table v) (λ t. describes t x) h.0 in
    rw there (tables_all describes k vs xs h.1)

pub tables_listed : (k : Key) (t : Members) (vs : Items) → tables_in k t ≡ Ok vs →
    IsListed k t vs × CountFits k (item_count vs)
unfolding tables_in
tables_listed k t vs h =
    let (v, there, past_there) = bind_ok (needed k t) _ vs h in
    let (ws, list, past_list) = bind_ok (list_at k v) _ vs past_there in
    let (u1, all, past_all) = bind_ok (all_tables k ws) _ vs past_list in
    let (u2, any, past_any) = bind_ok (some k ws) _ vs past_all in
    let (u3, few, same) = bind_ok (at_most k ws) _ vs past_any in
    let is : ws ≡ vs = same_ok ws vs same in (
      record {
        value = v;
        there = fault_ok (Missing k) (value_at k t) v there;
        list =
            fault_ok (WrongKind k) (as_array v) ws list ∙ ap (λ (x : Items). Some x) is;
      },
      subst (λ (x : Items). CountFits k (item_count x)) is
          (count_read k (item_count ws) (unless_ok _ _ u2 any) (unless_ok _ _ u3 few)),
    )

pub listed_tables : {A : Type 0} (describes : Members → A →
    Type 0) (k : Key) (t : Members) (vs : Items) (xs : List A) → IsListed k t vs →
    Each (IsTableOf describes) xs vs → CountFits k (length xs) → tables_in k t ≡ Ok vs
unfolding tables_in
listed_tables describes k t vs xs h each count =
    rw (
      ok_stands (Missing k) (value_at k t) h.value h.there,
      ok_stands (WrongKind k) (as_array h.value) vs h.list,
      tables_all describes k vs xs each,
      count_of (IsTableOf describes) xs vs each,
      some_test (length xs) count.some,
      few_test (length xs) (most_of k) count.few,
    ) refl

-- ---- inputs

pub input_read : (t : Members) (i : InputFormat) → input_in t ≡ Ok i → DescribesInput t i
unfolding input_in
input_read t i h =
    let (u, keys, past_keys) = bind_ok (only_keys (key.InputsWidth ∷ key.InputsBound ∷ []) t) _ i h in
    let (width, wide, past_wide) = bind_ok (natural_in key.InputsWidth t) _ i past_keys in
    let (bound, high, same) = bind_ok (whole_or key.InputsBound (bounds_of width) (Some (top_word width)) t) _
    i past_wide in
    subst (DescribesInput t) (same_ok (record { width = width; bound = bound }) i same)
    (record {
      keys = only_read _ t u keys;
      width = natural_read key.InputsWidth t width (record { le = tt }) wide;
      bound = whole_read key.InputsBound (bounds_of width) (Some (top_word width)) t bound high;
    })

pub input_stands : (t : Members) (i : InputFormat) → DescribesInput t i → input_in t ≡ Ok i
unfolding input_in
input_stands t i h = rw (
  only_stands _ t h.keys,
  natural_stands key.InputsWidth t i.width h.width,
  whole_stands key.InputsBound (bounds_of i.width) (Some (top_word i.width)) t i.bound h.bound,
) refl

inputs_each : (vs : Items) (is : List InputFormat) → each_input vs ≡ Ok is → Each (IsTableOf DescribesInput) is vs
unfolding each_input
inputs_each no_items is h =
    subst (λ (xs : List InputFormat). Each (IsTableOf DescribesInput) xs no_items) (same_ok [] is h) tt
inputs_each (item v vs) is h =
    let (t, table, past_table) = bind_ok (or_fault (WrongKind key.Inputs) (as_table v)) _ is h in
    let (x, first, past_first) = bind_ok (input_in t) _ is past_table in
    let (xs, others, same) = bind_ok (each_input vs) _ is past_first in
    subst (λ (ys : List InputFormat). Each (IsTableOf DescribesInput) ys (item v vs)) (same_ok (x ∷ xs) is same) (
      and_some (as_table v) (λ t. DescribesInput t x) t (fault_ok (WrongKind key.Inputs) (as_table v) t table)
          (input_read t x first),
      inputs_each vs xs others,
    )

each_inputs : (vs : Items) (is : List InputFormat) → Each (IsTableOf DescribesInput) is vs → each_input vs ≡ Ok is
unfolding each_input
each_inputs no_items [] h = refl
each_inputs (item v vs) [] h = absurd h
each_inputs no_items (x ∷ xs) h = absurd h
each_inputs (item v vs) (x ∷ xs) h =
    let (t, there, is) = some_and (as_table v) (λ t. DescribesInput t x) h.0 in
    rw (ok_stands (WrongKind key.Inputs) (as_table v) t there, input_stands t x is, each_inputs vs xs h.1) refl

-- ---- outputs

-- an output as it is read, before its row and target are known
pub record DescribesEntry (input_low : ℤ) (t : Members) (o : OutputEntry) : Type 0 where
  pub keys : HasOnly (key.OutputsWidth ∷ key.OutputsLow ∷ key.OutputsError ∷ []) t
  pub width : HoldsNatural key.OutputsWidth t o.width
  pub low : HoldsWhole key.OutputsLow LOWS (Some input_low) t o.low
  pub error : IsSomeAnd (value_at key.OutputsError t) (IsNumeralOf o.error)
  pub not_negative : pos 0 ≤ℤ o.error.num

pub not_true : (b : Bool) → not b ≡ true → b ≡ false
not_true true h = absurd cc
not_true false h = refl

error_read : (place : ℕ) (t : Members) (c : Fraction) → error_in place t ≡ Ok c →
    IsSomeAnd (value_at key.OutputsError t) (IsNumeralOf c) × (pos 0 ≤ℤ c.num)
unfolding error_in
error_read place t c h =
    let (v, there, past_there) = bind_ok (needed key.OutputsError t) _ c h in
    let (x, meant, past_meant) = bind_ok (numeral_at key.OutputsError place v) _ c past_there in
    let (u, above, same) = bind_ok
    (unless (Limit key.OutputsError (pos place) (pos 0)) (not (lt_z x.num (pos 0)))) _ c past_meant in
    let sign = lt_z_no {a = x.num} {b =
    pos 0} (sure_no (lt_z x.num (pos 0)) (not_true (lt_z x.num (pos 0)) (unless_ok _ _ u above))) in
    subst (λ (y : Fraction). IsSomeAnd (value_at key.OutputsError t) (IsNumeralOf y) × (pos 0 ≤ℤ y.num))
    (same_ok x c same) (
      and_some (value_at key.OutputsError t) (IsNumeralOf x) v
          (fault_ok (Missing key.OutputsError) (value_at key.OutputsError t) v there)
          (numeral_read key.OutputsError place v x meant),
      sign,
    )

error_stands : (place : ℕ) (t : Members) (c : Fraction) →
    IsSomeAnd (value_at key.OutputsError t) (IsNumeralOf c) → pos 0 ≤ℤ c.num → error_in place t ≡ Ok c
unfolding error_in
error_stands place t c h sign =
    let (v, there, is) = some_and (value_at key.OutputsError t) (IsNumeralOf c) h in
    rw (
      ok_stands (Missing key.OutputsError) (value_at key.OutputsError t) v there,
      numeral_stands key.OutputsError place v c is,
      not_below (pos 0) c.num sign,
    ) refl

entry_read : (input_low : ℤ) (place : ℕ) (t : Members) (o : OutputEntry) → output_in input_low place t ≡ Ok o →
    DescribesEntry input_low t o
unfolding output_in
entry_read input_low place t o h =
    let (u, keys, past_keys) = bind_ok (only_keys (key.OutputsWidth ∷ key.OutputsLow ∷ key.OutputsError ∷ [])
    t) _ o h in
    let (width, wide, past_wide) = bind_ok (natural_in key.OutputsWidth t) _ o past_keys in
    let (low, held, past_held) = bind_ok (whole_or key.OutputsLow LOWS (Some input_low) t) _ o past_wide in
    let (error, off, same) = bind_ok (error_in place t) _ o past_held in
    let e = error_read place t error off in
    subst (DescribesEntry input_low t) (same_ok (record { width = width; low = low; error = error }) o same)
    (record {
      keys = only_read _ t u keys;
      width = natural_read key.OutputsWidth t width (record { le = tt }) wide;
      low = whole_read key.OutputsLow LOWS (Some input_low) t low held;
      error = e.0;
      not_negative = e.1;
    })

entry_stands : (input_low : ℤ) (place : ℕ) (t : Members) (o : OutputEntry) → DescribesEntry input_low t o →
    output_in input_low place t ≡ Ok o
unfolding output_in
entry_stands input_low place t o h =
    rw (
      only_stands _ t h.keys,
      natural_stands key.OutputsWidth t o.width h.width,
      whole_stands key.OutputsLow LOWS (Some input_low) t o.low h.low,
      error_stands place t o.error h.error h.not_negative,
    ) refl

pub entries_each : (input_low : ℤ) (place : ℕ) (vs : Items) (os : List OutputEntry) →
    each_output input_low place vs ≡ Ok os → Each (IsTableOf (DescribesEntry input_low)) os vs
unfolding each_output
entries_each input_low place no_items os h =
    subst (λ (xs : List OutputEntry). Each (IsTableOf (DescribesEntry input_low)) xs no_items)
    (same_ok [] os h) tt
entries_each input_low place (item v vs) os h =
    let (t, table, past_table) = bind_ok (or_fault (WrongKind key.Outputs) (as_table v)) _ os h in
    let (x, first, past_first) = bind_ok (output_in input_low place t) _ os past_table in
    let (xs, others, same) = bind_ok (each_output input_low (place + 1) vs) _ os past_first in
    subst (λ (ys : List OutputEntry). Each (IsTableOf (DescribesEntry input_low)) ys (item v vs))
    (same_ok (x ∷ xs) os same) (
      and_some (as_table v) (λ t. DescribesEntry input_low t x) t
          (fault_ok (WrongKind key.Outputs) (as_table v) t table) (entry_read input_low place t x first),
      entries_each input_low (place + 1) vs xs others,
    )

pub each_entries : (input_low : ℤ) (place : ℕ) (vs : Items) (os : List OutputEntry) →
    Each (IsTableOf (DescribesEntry input_low)) os vs → each_output input_low place vs ≡ Ok os
unfolding each_output
each_entries input_low place no_items [] h = refl
each_entries input_low place (item v vs) [] h = absurd h
each_entries input_low place no_items (x ∷ xs) h = absurd h
each_entries input_low place (item v vs) (x ∷ xs) h =
    let (t, there, is) = some_and (as_table v) (λ t. DescribesEntry input_low t x) h.0 in
    rw (
      ok_stands (WrongKind key.Outputs) (as_table v) t there,
      entry_stands input_low place t x is,
      each_entries input_low (place + 1) vs xs h.1,
    ) refl

-- ---- inputs and outputs together

pub record PortsHeld (t : Members) (ports : Ports) : Type 0 where
  pub low : HoldsWhole key.InputLow (range_of key.InputLow) (default_of key.InputLow) t ports.inputs.low
  pub inputs : HoldsTables key.Inputs DescribesInput t ports.inputs.formats
  pub outputs : HoldsTables key.Outputs (DescribesEntry ports.inputs.low) t ports.outputs

tables_held : {A : Type 0} (describes : Members → A → Type 0) (k : Key) (t : Members) (vs : Items)
    (xs : List A) → tables_in k t ≡ Ok vs → Each (IsTableOf describes) xs vs → HoldsTables k describes t xs
tables_held describes k t vs xs h each =
    let (list, count) = tables_listed k t vs h in
    record {
      held = listed (IsTableOf describes) xs k t vs list each;
      count =
          subst (CountFits k) (count_of (IsTableOf describes) xs vs each) count;
    }

pub ports_read : (t : Members) (ports : Ports) → ports_in t ≡ Ok ports → PortsHeld t ports
unfolding ports_in inputs_in outputs_in
ports_read t ports h =
    let (inputs, into, past_inputs) = bind_ok (inputs_in t) _ ports h in
    let (outputs, out, same) = bind_ok (outputs_in inputs.low t) _ ports past_inputs in
    let (low, low_held, past_low_held) = bind_ok (whole_in key.InputLow t) _ inputs into in
    let (vs, tables, past_tables) = bind_ok (tables_in key.Inputs t) _ inputs past_low_held in
    let (formats, each, same_inputs) = bind_ok (each_input vs) _ inputs past_tables in
    let (ws, out_tables, out_each) = bind_ok (tables_in key.Outputs t) _ outputs out in
    let is : record { low = low; formats = formats } ≡ inputs = same_ok _ inputs same_inputs in
    let record_is : ◌≡◌ {A = Ports} (record { inputs = inputs; outputs = outputs }) ports = same_ok _ ports same in
    subst (PortsHeld t) record_is
    (record {
      low = subst (λ (i : Inputs).
          HoldsWhole key.InputLow (range_of key.InputLow) (default_of key.InputLow) t i.low) is
          (whole_read key.InputLow (range_of key.InputLow) (default_of key.InputLow) t low low_held);
      inputs = subst (λ (i : Inputs). HoldsTables key.Inputs DescribesInput t i.formats) is
          (tables_held DescribesInput key.Inputs t vs formats tables (inputs_each vs formats each));
      outputs = tables_held (DescribesEntry inputs.low) key.Outputs t ws outputs out_tables
          (entries_each inputs.low 0 ws outputs out_each);
    })

pub ports_stand : (t : Members) (ports : Ports) → PortsHeld t ports → ports_in t ≡ Ok ports
unfolding ports_in inputs_in outputs_in
ports_stand t ports h =
    let low = ports.inputs.low in
    let ins = ports.inputs.formats in
    let outs = ports.outputs in
    let (vs, list, each) = list_of (IsTableOf DescribesInput) ins key.Inputs t h.inputs.held in
    let (ws, out_list, out_each) = list_of (IsTableOf (DescribesEntry low)) outs key.Outputs t h.outputs.held in
    rw (
      whole_stands key.InputLow (range_of key.InputLow) (default_of key.InputLow) t low h.low,
      listed_tables DescribesInput key.Inputs t vs ins list each h.inputs.count,
      each_inputs vs ins each,
      listed_tables (DescribesEntry low) key.Outputs t ws outs out_list out_each h.outputs.count,
      each_entries low 0 ws outs out_each,
    ) refl
