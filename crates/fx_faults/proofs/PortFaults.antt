-- What is told of inputs and outputs is true.
use Rattle.std.proofs.Common.{◌≡◌, ◌≢◌, ◌≤◌, ℕ, suc, ◌+◌, ℤ, pos, ◌<ℤ◌}
use Rattle.std.proofs.Common.{false, [], ◌∷◌, Option, Some, None}
use Rattle.std.proofs.Common.{Ok, Err, refl, sym, ap, subst, arith, lit≤, inl, inr}
use Rattle.std.specs.Int.Signed.{lt_z, lt_z_yes}
use Rattle.std.proofs.lemmas.Bool.{cases_Bool}
use Rattle.std.proofs.lemmas.Int.{ints}
use Rattle.toml.specs.Data.{Data, Members, Items, no_items, item, table, get_item}
use Rattle.fx_math.specs.Faults.{or_fault, unless}
use Rattle.fx_keys.specs.Entries.{list_at, some, at_most}
use Rattle.fx_keys.specs.Keys.{IsWithin, range_of, most_of, default_of}
use Rattle.fx_keys.specs.Table.{needed}
use Rattle.fx_keys.specs.Wholes.{whole_or, whole_in, natural_in}
use Rattle.fx_keys.specs.declared.fault.FilterFault.{FilterFault}
use Rattle.fx_keys.specs.declared.fault.FilterFault.TheVariants.{Missing, WrongKind, Limit}
use Rattle.fx_keys.specs.declared.key.Key.{Key}
use Rattle.fx_keys.specs.declared.key.Key.TheVariants as key
use Rattle.fx_files.specs.Describes.{HoldsForm}
use Rattle.fx_files.specs.Holds.{value_at}
use Rattle.fx_files.specs.declared.forms.Form.{Form}
use Rattle.fx_files.proofs.Steps.{bind_ok, fault_ok, same_ok, fault_err, test_err, in_step}
use Rattle.fx_files.proofs.HeldNumbers.{sure_yes}
use Rattle.fx_files.proofs.HeldNumerals.{IsListed}
use Rattle.fx_files.proofs.HeldTables.{tables_listed}
use Rattle.fx_faults.specs.Kinds as kind
use Rattle.fx_faults.specs.Kinds.{HasKind}
use Rattle.fx_faults.specs.Places.{IsTableAt, HasValue}
use Rattle.fx_faults.specs.Faults.{IsRequired}
use Rattle.fx_faults.specs.Faults.{IsTrueOf}
use Rattle.fx_faults.proofs.Listed.{is_nothing}
use Rattle.std.specs.Prelude.{not}
use Rattle.toml.specs.Data.{as_table}
use Rattle.fx_keys.specs.Entries.{all_tables}
use Rattle.fx_keys.specs.Numerals.{numeral_at}
use Rattle.fx_keys.specs.Table.{only_keys}
use Rattle.fx_keys.specs.declared.limits.TheConstants.{LOWS}
use Rattle.fx_files.specs.Ports.{Inputs, top_word, bounds_of, tables_in, input_in, each_input, inputs_in}
use Rattle.fx_files.specs.Ports.{error_in, output_in, each_output, outputs_in, ports_in}
use Rattle.fx_files.proofs.HeldNumbers.{natural_read, whole_read}
use Rattle.fx_files.proofs.HeldNumerals.{numeral_read}
use Rattle.fx_faults.proofs.Listed.{is_table, other_table, numeral_fault}
use Rattle.fx_faults.proofs.KeyFaults.{missing_true, kind_true, bad_true, some_true, list_here}
use Rattle.fx_faults.proofs.KeyFaults.{IsListKey, count_at, most_true, list_true, entry_true}
use Rattle.fx_faults.proofs.NumberFaults.{IsNumberKey, whole_true, natural_true}
use Rattle.fx_faults.proofs.WordFaults.{keys_true}

-- ---- lists of tables

tables_true : (file : Members) (k : Key) (f : FilterFault) → IsListKey file k kind.Table → IsRequired file k →
    k ≢ key.K → 1 ≤ most_of k → tables_in k file ≡ Err f → IsTrueOf file f
unfolding tables_in
tables_true file k f of required other limited h =
    in_step (needed k file) _ f h
    (missing_true file k 0 file f (subst (λ (p : Option Key). IsTableAt p 0 file file) (sym of.own) refl) required)
    (λ v there past_there. in_step (list_at k v) _ f past_there
    (list_true file k kind.Table v f of (fault_ok (Missing k) (value_at k file) v there))
    (λ vs got past_got.
    let list : IsListed k file vs = list_here file k v vs there got in
    in_step (all_tables k vs) _ f past_got
    (λ wrong. other_table k vs f wrong (λ n x at no_table e.
    entry_true file k kind.Table vs n x f of list at no_table e))
    (λ u all past_all. in_step (some k vs) _ f past_all (some_true file k vs f other (count_at file k vs list))
    (λ u any past_any. in_step (at_most k vs) _ f past_any (most_true file k kind.Table vs f of list limited)
    (λ u few past_few. absurd cc)))))

-- the table at a place of a list
table_stands : (file : Members) (k : Key) (vs : Items) (n : ℕ) (t : Members) → IsListed k file vs →
    get_item n vs ≡ Some (table t) → IsTableAt (Some k) n file t
table_stands file k vs n t list there = rw (list.there, list.list) there

-- ---- inputs

inputs_key : (file : Members) → IsListKey file key.Inputs kind.Table
inputs_key file = record { own = refl; is = refl; entry = λ n v x. x; past = λ got limit x. x }

outputs_key : (file : Members) → IsListKey file key.Outputs kind.Table
outputs_key file = record { own = refl; is = refl; entry = λ n v x. x; past = λ got limit x. x }

no_default : {W : Type 0} (z : ℤ) → ◌≡◌ {A = Option ℤ} None (Some z) → W
no_default z h = absurd cc

some_default : {W : Type 0} (z : ℤ) → ◌≡◌ {A = Option ℤ} (Some z) None → W
some_default z h = absurd cc

same_some : (y z : ℤ) → ◌≡◌ {A = Option ℤ} (Some y) (Some z) → y ≡ z
same_some y z h = cc

own_bound : (width : ℕ) → IsWithin (bounds_of width) (top_word width)
own_bound width = (omega (arith, ints), omega (arith, ints))

input_true : (file : Members) (form : Form) (n : ℕ) (t : Members) (f : FilterFault) → HoldsForm file form →
    IsTableAt (Some key.Inputs) n file t → input_in t ≡ Err f → IsTrueOf file f
unfolding input_in
input_true file form n t f named stands h =
    in_step (only_keys (key.InputsWidth ∷ key.InputsBound ∷ []) t) _ f h
    (keys_true file form (Some key.Inputs) _ n t f named stands refl)
    (λ u keys past_keys. in_step (natural_in key.InputsWidth t) _ f past_keys
    (natural_true file key.InputsWidth n t f (record {
      stands = stands;
      is = refl;
      required = λ none. tt;
      fits = λ z held. no_default z held;
      ranged = refl;
      past = λ got limit x. inl x;
    }))
    (λ width wide past_wide.
    let top = top_word width in
    in_step (whole_or key.InputsBound (bounds_of width) (Some top) t) _ f past_wide
    (whole_true file key.InputsBound n t (Some top) (bounds_of width) f (record {
      stands = stands;
      is = refl;
      required = λ none. some_default top none;
      fits = λ z held. subst (IsWithin (bounds_of width)) (same_some top z held) (own_bound width);
      ranged = (width, natural_read key.InputsWidth t width (record { le = tt }) wide, refl);
      past = λ got limit x. inl x;
    }))
    (λ bound high past_high. absurd cc)))

-- an entry is no table, or what is told of the table
input_fault : {W : Type 0} (vs : Items) (f : FilterFault) → each_input vs ≡ Err f →
    ((n : ℕ) (x : Data) → get_item n vs ≡ Some x → ¬ HasKind kind.Table x → WrongKind key.Inputs ≡ f → W) →
    ((n : ℕ) (t : Members) → get_item n vs ≡ Some (table t) → input_in t ≡ Err f → W) → W
unfolding each_input
input_fault no_items f h other told = absurd cc
input_fault (item v vs) f h other told =
    in_step (or_fault (WrongKind key.Inputs) (as_table v)) _ f h
    (λ wrong. let (none, e) = fault_err (WrongKind key.Inputs) f (as_table v) wrong in
    other 0 v refl (is_nothing (as_table v) none) e)
    (λ t is past_is. in_step (input_in t) _ f past_is
    (told 0 t (ap (λ (x : Data). Some x) (is_table v t (fault_ok (WrongKind key.Inputs) (as_table v) t is))))
    (λ i first past_first. in_step (each_input vs) _ f past_first
    (λ wrong. input_fault vs f wrong (λ n x there. other (suc n) x there) (λ n s there. told (suc n) s there))
    (λ is others past_others. absurd cc)))

low_key : (file : Members) → IsNumberKey file key.InputLow 0 file (default_of key.InputLow) (range_of key.InputLow)
low_key file = record {
  stands = refl;
  is = refl;
  required = λ none. some_default (pos 0) none;
  fits = λ z held. subst (IsWithin (range_of key.InputLow)) (same_some (pos 0) z held)
      (record { le = tt }, record { le = tt });
  ranged = refl;
  past = λ got limit x. inl x;
}

inputs_true : (file : Members) (form : Form) (f : FilterFault) → HoldsForm file form → inputs_in file ≡ Err f →
    IsTrueOf file f
unfolding inputs_in
inputs_true file form f named h =
    in_step (whole_in key.InputLow file) _ f h
    (whole_true file key.InputLow 0 file (default_of key.InputLow) (range_of key.InputLow) f (low_key file))
    (λ low got past_got. in_step (tables_in key.Inputs file) _ f past_got
    (tables_true file key.Inputs f (inputs_key file) tt (λ e. absurd cc) (lit≤ tt))
    (λ vs tables past_tables.
    let list = (tables_listed key.Inputs file vs tables).0 in
    in_step (each_input vs) _ f past_tables
    (λ wrong. input_fault vs f wrong
    (λ n x there no_table e. entry_true file key.Inputs kind.Table vs n x f (inputs_key file) list there no_table e)
    (λ n t there told. input_true file form n t f named (table_stands file key.Inputs vs n t list there) told))
    (λ formats each past_each. absurd cc)))

-- ---- outputs

below_zero : (z : ℤ) → not (lt_z z (pos 0)) ≡ false → z <ℤ pos 0
below_zero z h = elim (cases_Bool (lt_z z (pos 0))) [
  | inl below ↦ lt_z_yes {a = z} {b = pos 0} (sure_yes (lt_z z (pos 0)) below)
  | inr other ↦ absurd (let e : not false ≡ false = rw other at h in cc)
]

error_true : (file : Members) (n : ℕ) (t : Members) (f : FilterFault) → IsTableAt (Some key.Outputs) n file t →
    error_in n t ≡ Err f → IsTrueOf file f
unfolding error_in
error_true file n t f stands h =
    in_step (needed key.OutputsError t) _ f h
    (missing_true file key.OutputsError n t f stands tt)
    (λ v got past_got.
    let there : value_at key.OutputsError t ≡ Some v =
    fault_ok (Missing key.OutputsError) (value_at key.OutputsError t) v got in
    let held : HasValue file key.OutputsError n v = record { owner = t; stands = stands; held = there } in
    in_step (numeral_at key.OutputsError n v) _ f past_got
    (λ wrong. numeral_fault key.OutputsError n v f wrong
    (λ other e. kind_true file key.OutputsError kind.Numeral n v f held refl other e)
    (bad_true file key.OutputsError n v f tt held))
    (λ c means past_means. in_step (unless (Limit key.OutputsError (pos n) (pos 0)) (not (lt_z c.num (pos 0))))
    _ f past_means
    (λ wrong. let (test, e) = test_err (Limit key.OutputsError (pos n) (pos 0)) f (not (lt_z c.num (pos 0))) wrong in
    subst (IsTrueOf file) e
    (record {
      place = n;
      value = v;
      held = held;
      number = c;
      means = numeral_read key.OutputsError n v c means;
      negative = below_zero c.num test;
      numbered = refl;
      least = refl;
    }))
    (λ u above past_above. absurd cc)))

output_true : (file : Members) (form : Form) (low : ℤ) (n : ℕ) (t : Members) (f : FilterFault) →
    HoldsForm file form → IsWithin LOWS low → IsTableAt (Some key.Outputs) n file t → output_in low n t ≡ Err f →
    IsTrueOf file f
unfolding output_in
output_true file form low n t f named within stands h =
    in_step (only_keys (key.OutputsWidth ∷ key.OutputsLow ∷ key.OutputsError ∷ []) t) _ f h
    (keys_true file form (Some key.Outputs) _ n t f named stands refl)
    (λ u keys past_keys. in_step (natural_in key.OutputsWidth t) _ f past_keys
    (natural_true file key.OutputsWidth n t f (record {
      stands = stands;
      is = refl;
      required = λ none. tt;
      fits = λ z held. no_default z held;
      ranged = refl;
      past = λ got limit x. inl x;
    }))
    (λ width wide past_wide. in_step (whole_or key.OutputsLow LOWS (Some low) t) _ f past_wide
    (whole_true file key.OutputsLow n t (Some low) LOWS f (record {
      stands = stands;
      is = refl;
      required = λ none. some_default low none;
      fits = λ z held. subst (IsWithin LOWS) (same_some low z held) within;
      ranged = refl;
      past = λ got limit x. inl x;
    }))
    (λ z held past_held. in_step (error_in n t) _ f past_held (error_true file n t f stands)
    (λ error off past_off. absurd cc))))

output_fault : {W : Type 0} (low : ℤ) (place : ℕ) (vs : Items) (f : FilterFault) → each_output low place vs ≡ Err f →
    ((n : ℕ) (x : Data) → get_item n vs ≡ Some x → ¬ HasKind kind.Table x → WrongKind key.Outputs ≡ f → W) →
    ((n : ℕ) (t : Members) → get_item n vs ≡ Some (table t) → output_in low (place + n) t ≡ Err f → W) → W
unfolding each_output
output_fault low place no_items f h other told = absurd cc
output_fault low place (item v vs) f h other told =
    in_step (or_fault (WrongKind key.Outputs) (as_table v)) _ f h
    (λ wrong. let (none, e) = fault_err (WrongKind key.Outputs) f (as_table v) wrong in
    other 0 v refl (is_nothing (as_table v) none) e)
    (λ t is past_is. in_step (output_in low place t) _ f past_is
    (λ wrong. let here : place ≡ place + 0 = omega arith in
    told 0 t (ap (λ (x : Data). Some x) (is_table v t (fault_ok (WrongKind key.Outputs) (as_table v) t is)))
    (subst (λ (p : ℕ). output_in low p t ≡ Err f) here wrong))
    (λ o first past_first. in_step (each_output low (place + 1) vs) _ f past_first
    (λ wrong. output_fault low (place + 1) vs f wrong (λ n x there. other (suc n) x there)
    (λ n s there fails. let next : place + 1 + n ≡ place + suc n = omega arith in
    told (suc n) s there (subst (λ (p : ℕ). output_in low p s ≡ Err f) next fails)))
    (λ os others past_others. absurd cc)))

outputs_true : (file : Members) (form : Form) (low : ℤ) (f : FilterFault) → HoldsForm file form → IsWithin LOWS low →
    outputs_in low file ≡ Err f → IsTrueOf file f
unfolding outputs_in
outputs_true file form low f named within h =
    in_step (tables_in key.Outputs file) _ f h
    (tables_true file key.Outputs f (outputs_key file) tt (λ e. absurd cc) (lit≤ tt))
    (λ vs tables past_tables.
    let list = (tables_listed key.Outputs file vs tables).0 in
    output_fault low 0 vs f past_tables
    (λ n x there no_table e. entry_true file key.Outputs kind.Table vs n x f (outputs_key file) list there no_table e)
    (λ n t there told.
    let at : 0 + n ≡ n = omega arith in
    output_true file form low n t f named within (table_stands file key.Outputs vs n t list there)
    (subst (λ (p : ℕ). output_in low p t ≡ Err f) at told)))

-- ---- both

inputs_low : (file : Members) (inputs : Inputs) → inputs_in file ≡ Ok inputs → IsWithin LOWS inputs.low
unfolding inputs_in
inputs_low file inputs h =
    let (low, got, past_got) = bind_ok (whole_in key.InputLow file) _ inputs h in
    let (vs, tables, past_tables) = bind_ok (tables_in key.Inputs file) _ inputs past_got in
    let (formats, each, same) = bind_ok (each_input vs) _ inputs past_tables in
    let held = whole_read key.InputLow (range_of key.InputLow) (default_of key.InputLow) file low got in
    subst (λ (i : Inputs). IsWithin LOWS i.low) (same_ok (record { low = low; formats = formats }) inputs same)
    held.within

pub ports_true : (file : Members) (form : Form) (f : FilterFault) → HoldsForm file form → ports_in file ≡ Err f →
    IsTrueOf file f
unfolding ports_in
ports_true file form f named h =
    in_step (inputs_in file) _ f h (inputs_true file form f named)
    (λ inputs got past_got. in_step (outputs_in inputs.low file) _ f past_got
    (outputs_true file form inputs.low f named (inputs_low file inputs got))
    (λ outputs given past_given. absurd cc))
