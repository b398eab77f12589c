-- A file is read as a filter exactly where its table describes this filter.
use Rattle.std.proofs.Common.{◌≡◌, ◌≤◌, ◌∙◌, ℕ, zero, suc, ◌+◌, ℤ, ◌-ℤ◌}
use Rattle.std.proofs.Common.{true, List, [], ◌∷◌, length, map}
use Rattle.std.proofs.Common.{Some, Result, Ok, Err}
use Rattle.std.proofs.Common.{refl, sym, ap, subst, arith, inl, inr}
use Rattle.std.specs.Prelude.{All, nat_le, not}
use Rattle.std.specs.Int.Signed.{lt_z, lt_z_no}
use Rattle.std.specs.Str.{is_utf8}
use Rattle.std.proofs.lemmas.Bool.{cases_Bool}
use Rattle.std.proofs.lemmas.Bool.Decides.{nat_tests}
use Rattle.std.proofs.lemmas.List.Elements.{All-nil, All-cons, All-head, All-tail}
use Rattle.toml.specs.Data.{Members, Items, no_items, item}
use Rattle.toml.specs.Data.{as_table}
use Rattle.toml.specs.Parse.{parse_document}
use Rattle.fx_math.specs.Faults.{◌>>=◌, unless}
use Rattle.fx_files.specs.Settings.{Settings, settings_in}
use Rattle.fx_files.specs.Lists.{coefficients_in}
use Rattle.fx_files.specs.Describes.{DescribesOutput, IsNear}
use Rattle.fx_files.specs.Describes.{DescribesCoefficients, DescribesSettings, HoldsForm}
use Rattle.fx_files.specs.Describes.{Describes, IsFileOf, FileLaw, DescribesOne}
use Rattle.fx_keys.specs.Entries.{some}
use Rattle.fx_files.specs.Head.{head_in}
use Rattle.fx_files.specs.Holds.{HasOnly, Each, IsTableOf, CountFits}
use Rattle.fx_files.specs.Forms.{known_keys}
use Rattle.fx_files.specs.Ports.{Ports}
use Rattle.fx_files.specs.Ports.{ports_in, alone, single}
use Rattle.fx_files.specs.Ports.{output_fits, outputs_fit}
use Rattle.fx_files.specs.Reading.{filter_in, filter_of_bytes}
use Rattle.fx_files.specs.Building.{assembled, equations_of, target_of, with_rows}
use Rattle.fx_files.specs.Coefficients as coefficients
use Rattle.fx_files.specs.Coefficients.{Coefficients, form_of}
use Rattle.fx_files.specs.Filter.{Filter}
use Rattle.fx_files.specs.Fits.{CountsFit}
use Rattle.fx_keys.specs.Table.{table_at}
use Rattle.fx_keys.specs.declared.fault.FilterFault.{FilterFault}
use Rattle.fx_keys.specs.declared.fault.FilterFault.TheVariants.{NotToml}
use Rattle.fx_keys.specs.declared.fault.FilterFault.TheVariants.{Limit}
use Rattle.fx_files.specs.declared.formats.OutputEntry.{OutputEntry}
use Rattle.fx_files.specs.declared.formats.OutputFormat.{OutputFormat}
use Rattle.fx_keys.specs.declared.key.Key.TheVariants as key
use Rattle.fx_keys.specs.declared.limits.TheConstants.{LOW_DIFFERENCES}
use Rattle.fx_files.specs.declared.forms.Form.{Form}
use Rattle.fx_files.specs.declared.forms.Form.TheVariants as form
use Rattle.fx_files.proofs.Steps.{and_some, bind_ok, bind_stands, fault_ok, ok_stands, same_ok, some_and, unless_ok}
use Rattle.fx_files.proofs.HeldNumbers.{few_test}
use Rattle.fx_files.proofs.HeldNumbers.{not_below}
use Rattle.fx_files.proofs.HeldNumbers.{sure_no}
use Rattle.fx_files.proofs.HeldNumerals.{list_of, listed}
use Rattle.fx_eqs.specs.Equations.{Equations}
use Rattle.fx_eqs.specs.Textbook.{up_from}
use Rattle.fx_files.proofs.HeldChoices.{head_read, head_stands, settings_read, settings_stand}
use Rattle.fx_files.proofs.HeldCoefficients.{coefficients_read, coefficients_stand, read_as}
use Rattle.fx_files.proofs.HeldTables.{DescribesEntry, PortsHeld, not_true, ports_read, ports_stand}

-- ---- how many inputs and outputs there are

one_only : (n : ℕ) → 1 ≤ n → nat_le n 1 ≡ true → n ≡ 1
one_only n some h = grind (arith, nat_tests)

single_pair : (m p : ℕ) (u : Unit {0}) → 1 ≤ m → 1 ≤ p →
    (alone key.Inputs m >>= (λ v. alone key.Outputs p)) ≡ Ok u → (m ≡ 1) × (p ≡ 1)
single_pair m p u a b h =
    let (v, first, second) = bind_ok (alone key.Inputs m) (λ v. alone key.Outputs p) u h in
    (one_only m a (unless_ok _ _ v first), one_only p b (unless_ok _ _ u second))

single_read : (form : Form) (m p : ℕ) (u : Unit {0}) → 1 ≤ m → 1 ≤ p → single form m p ≡ Ok u → CountsFit form m p
unfolding single
single_read form.Tf m p u a b h = single_pair m p u a b h
single_read form.Sos m p u a b h = single_pair m p u a b h
single_read form.Ss m p u a b h = tt
single_read form.Lattice m p u a b h = single_pair m p u a b h

single_stands : (form : Form) (m p : ℕ) → CountsFit form m p → single form m p ≡ Ok tt
unfolding single
single_stands form.Tf m p h = rw (h.0, h.1) refl
single_stands form.Sos m p h = rw (h.0, h.1) refl
single_stands form.Ss m p h = refl
single_stands form.Lattice m p h = rw (h.0, h.1) refl

up_from_count : (n p : ℕ) → length (up_from n p) ≡ p
up_from_count n zero = refl
up_from_count n (suc p) = ap suc (up_from_count (n + 1) p)

pub outputs_counted : (m p : ℕ) (c : Coefficients) → CountsFit (form_of c) m p → length (equations_of m p c).outputs ≡ p
outputs_counted m p (coefficients.Tf b a) h = sym h.1
outputs_counted m p (coefficients.Sos sections) h = sym h.1
outputs_counted m p (coefficients.Ss n A B C D) h = up_from_count n p
outputs_counted m p (coefficients.Lattice k v) h = sym h.1

-- ---- outputs with their rows

unfoldable pub entry_of : OutputFormat → OutputEntry
entry_of o = record { width = o.width; low = o.low; error = o.error }

count_entries : (os : List OutputFormat) → length (map entry_of os) ≡ length os
count_entries [] = refl
count_entries (o ∷ os) = ap suc (count_entries os)

outputs_described : (low : ℤ) (rows : List ℕ) (os : List OutputEntry) (vs : Items) → length rows ≡ length os →
    Each (IsTableOf (DescribesEntry low)) os vs → Each (IsTableOf (DescribesOutput low)) (with_rows rows os) vs
unfolding with_rows
outputs_described low [] [] no_items count h = tt
outputs_described low (r ∷ rs) [] vs count h = absurd (omega arith)
outputs_described low [] (o ∷ os) vs count h = absurd (omega arith)
outputs_described low [] [] (item v vs) count h = absurd h
outputs_described low (r ∷ rs) (o ∷ os) no_items count h = absurd h
outputs_described low (r ∷ rs) (o ∷ os) (item v vs) count h =
    let (t, there, e) = some_and (as_table v) (λ t. DescribesEntry low t o) h.0 in
    let out : OutputFormat =
    record { row = r; width = o.width; low = o.low; error = o.error; target = target_of o.error } in (
      and_some (as_table v) (λ t. DescribesOutput low t out) t there
          (record {
            keys = e.keys;
            width = e.width;
            low = e.low;
            error = e.error;
            not_negative =
                e.not_negative;
            target = refl;
          }),
      outputs_described low rs os vs (omega arith) h.1,
    )

entries_described : (low : ℤ) (os : List OutputFormat) (vs : Items) →
    Each (IsTableOf (DescribesOutput low)) os vs → Each (IsTableOf (DescribesEntry low)) (map entry_of os) vs
unfolding entry_of
entries_described low [] no_items h = tt
entries_described low [] (item v vs) h = absurd h
entries_described low (o ∷ os) no_items h = absurd h
entries_described low (o ∷ os) (item v vs) h =
    let (t, there, e) = some_and (as_table v) (λ t. DescribesOutput low t o) h.0 in (
      and_some (as_table v) (λ t. DescribesEntry low t (entry_of o)) t there
          (record {
            keys = e.keys;
            width = e.width;
            low = e.low;
            error = e.error;
            not_negative =
                e.not_negative;
          }),
      entries_described low os vs h.1,
    )

rows_again : (low : ℤ) (os : List OutputFormat) (vs : Items) → Each (IsTableOf (DescribesOutput low)) os vs →
    with_rows (map (λ (o : OutputFormat). o.row) os) (map entry_of os) ≡ os
unfolding with_rows entry_of
rows_again low [] no_items h = refl
rows_again low [] (item v vs) h = absurd h
rows_again low (o ∷ os) no_items h = absurd h
rows_again low (o ∷ os) (item v vs) h =
    let (t, there, e) = some_and (as_table v) (λ t. DescribesOutput low t o) h.0 in
    let target : target_of o.error ≡ o.target = sym e.target in
    ap (λ (x : ℤ). record {
      row = o.row;
      width = o.width;
      low = o.low;
      error = o.error;
      target =
          x;
    } ∷ with_rows (map (λ (o : OutputFormat). o.row) os) (map entry_of os)) target
    ∙ ap (λ (x : List OutputFormat). o ∷ x) (rows_again low os vs h.1)

rows_of : (rs : List ℕ) (os : List OutputEntry) → length rs ≡ length os →
    rs ≡ map (λ (o : OutputFormat). o.row) (with_rows rs os)
unfolding with_rows
rows_of [] [] h = refl
rows_of [] (o ∷ os) h = absurd (omega arith)
rows_of (r ∷ rs) [] h = absurd (omega arith)
rows_of (r ∷ rs) (o ∷ os) h = ap (λ xs. r ∷ xs) (rows_of rs os (omega arith))

count_with_rows : (rs : List ℕ) (os : List OutputEntry) → length rs ≡ length os → length (with_rows rs os) ≡ length os
unfolding with_rows
count_with_rows [] [] h = refl
count_with_rows [] (o ∷ os) h = absurd (omega arith)
count_with_rows (r ∷ rs) [] h = absurd (omega arith)
count_with_rows (r ∷ rs) (o ∷ os) h = ap suc (count_with_rows rs os (omega arith))

-- ---- outputs beside the inputs

near_read : (low : ℤ) (bits r : ℕ) (o : OutputEntry) (u : Unit {0}) → output_fits low bits o ≡ Ok u →
    IsNear low bits (record {
      row = r;
      width = o.width;
      low = o.low;
      error = o.error;
      target =
          target_of o.error;
    })
near_read low bits r o u h =
    let d = low -ℤ o.low in
    let (u1, below, past_below) = bind_ok
    (unless (Limit key.OutputsLow d LOW_DIFFERENCES.low) (not (lt_z d LOW_DIFFERENCES.low))) _ u h in
    let (u2, above, wide) = bind_ok
    (unless (Limit key.OutputsLow d LOW_DIFFERENCES.high) (not (lt_z LOW_DIFFERENCES.high d))) _ u past_below in
    let test = unless_ok _ _ u wide in
    record {
      low = (
        lt_z_no {a = d} {b =
            LOW_DIFFERENCES.low} (sure_no (lt_z d LOW_DIFFERENCES.low)
            (not_true (lt_z d LOW_DIFFERENCES.low) (unless_ok _ _ u1 below))),
        lt_z_no {a = LOW_DIFFERENCES.high} {b =
            d} (sure_no (lt_z LOW_DIFFERENCES.high d)
            (not_true (lt_z LOW_DIFFERENCES.high d) (unless_ok _ _ u2 above))),
      );
      width = grind (arith, nat_tests);
    }

near_stands : (low : ℤ) (bits : ℕ) (o : OutputFormat) → IsNear low bits o → output_fits low bits (entry_of o) ≡ Ok tt
unfolding entry_of
near_stands low bits o h =
    let d = low -ℤ o.low in
    rw (
      not_below LOW_DIFFERENCES.low d h.low.0,
      not_below d LOW_DIFFERENCES.high h.low.1,
      few_test o.width bits h.width,
    ) refl

all_near : (low : ℤ) (bits : ℕ) (rs : List ℕ) (os : List OutputEntry) (u : Unit {0}) → length rs ≡ length os →
    outputs_fit low bits os ≡ Ok u → All (IsNear low bits) (with_rows rs os)
unfolding with_rows outputs_fit
all_near low bits [] [] u count h = All-nil (IsNear low bits)
all_near low bits [] (o ∷ os) u count h = absurd (omega arith)
all_near low bits (r ∷ rs) [] u count h = absurd (omega arith)
all_near low bits (r ∷ rs) (o ∷ os) u count h =
    let (v, first, others) = bind_ok (output_fits low bits o) (λ v. outputs_fit low bits os) u h in
    All-cons (IsNear low bits) (record {
      row = r;
      width = o.width;
      low = o.low;
      error = o.error;
      target =
          target_of o.error;
    }) (with_rows rs os) (near_read low bits r o v first)
    (all_near low bits rs os u (omega arith) others)

near_all : (low : ℤ) (bits : ℕ) (os : List OutputFormat) → All (IsNear low bits) os →
    outputs_fit low bits (map entry_of os) ≡ Ok tt
unfolding outputs_fit
near_all low bits [] h = refl
near_all low bits (o ∷ os) h =
    rw (near_stands low bits o (All-head (IsNear low bits) o os h))
    (near_all low bits os (All-tail (IsNear low bits) o os h))

-- ---- the whole filter

assembled_described : (t : Members) (ports : Ports) (c : Coefficients) (settings : Settings) (u v : Unit {0}) →
    HoldsForm t (form_of c) → HasOnly (known_keys (form_of c)) t → PortsHeld t ports →
    DescribesCoefficients (length ports.inputs.formats) (length ports.outputs) t c →
    DescribesSettings (form_of c) t settings →
    single (form_of c) (length ports.inputs.formats) (length ports.outputs) ≡ Ok u →
    outputs_fit ports.inputs.low settings.accumulator ports.outputs ≡ Ok v →
    Describes t (assembled ports c settings)
unfolding assembled
assembled_described t ports c settings u v named keys held described chosen one near =
    let m = length ports.inputs.formats in
    let p = length ports.outputs in
    let low = ports.inputs.low in
    let rows = (equations_of m p c).outputs in
    let fit = single_read (form_of c) m p u held.inputs.count.some held.outputs.count.some one in
    let count = outputs_counted m p c fit in
    let long = count_with_rows rows ports.outputs count in
    let (vs, list, each) = list_of (IsTableOf (DescribesEntry low)) ports.outputs key.Outputs t held.outputs.held in
    let outs = with_rows rows ports.outputs in
    record {
      form = named;
      keys = keys;
      input_low = held.low;
      inputs = held.inputs;
      outputs = record {
        held =
            listed (IsTableOf (DescribesOutput low)) outs key.Outputs t vs list
            (outputs_described low rows ports.outputs vs count each);
        count =
            subst (CountFits key.Outputs) (sym long) held.outputs.count;
      };
      coefficients = subst (λ (n : ℕ). DescribesCoefficients m n t c) (sym long) described;
      settings = chosen;
      counts = subst (λ (n : ℕ). CountsFit (form_of c) m n) (sym long) fit;
      near = all_near low settings.accumulator rows ports.outputs v count near;
      equations = ap (λ (n : ℕ). equations_of m n c) (sym long);
      rows = rows_of rows ports.outputs count;
    }

-- the form that stands first is that of the coefficients
filter_of_form : (t : Members) (form : Form) (ports : Ports) (c : Coefficients) (settings : Settings)
    (u v : Unit {0}) → form ≡ form_of c →
    HoldsForm t form × HasOnly (known_keys form) t → PortsHeld t ports →
    DescribesCoefficients (length ports.inputs.formats) (length ports.outputs) t c →
    DescribesSettings form t settings →
    single form (length ports.inputs.formats) (length ports.outputs) ≡ Ok u →
    outputs_fit ports.inputs.low settings.accumulator ports.outputs ≡ Ok v →
    Describes t (assembled ports c settings)
filter_of_form t form ports c settings u v is head held described chosen one near =
    let m = length ports.inputs.formats in
    let p = length ports.outputs in
    let (named, keys) = subst (λ (x : Form). HoldsForm t x × HasOnly (known_keys x) t) is head in
    assembled_described t ports c settings u v named keys held described
    (subst (λ (x : Form). DescribesSettings x t settings) is chosen)
    (subst (λ (x : Form). single x m p ≡ Ok u) is one) near

pub filter_read : (t : Members) (f : Filter) → filter_in t ≡ Ok f → Describes t f
unfolding filter_in
filter_read t f h =
    let (form, head, past_head) = bind_ok (head_in t) _ f h in
    let (ports, both, past_both) = bind_ok (ports_in t) _ f past_head in
    let (c, lists, past_lists) = bind_ok (coefficients_in form (length ports.inputs.formats)
    (length ports.outputs) t) _ f past_both in
    let (settings, chosen, past_chosen) = bind_ok (settings_in form t) _ f past_lists in
    let (u, one, past_one) = bind_ok (single form (length ports.inputs.formats) (length ports.outputs)) _ f
    past_chosen in
    let (v, near, same) = bind_ok (outputs_fit ports.inputs.low settings.accumulator ports.outputs) (λ v.
    Ok (assembled ports c settings)) f past_one in
    subst (Describes t) (same_ok (assembled ports c settings) f same)
    (filter_of_form t form ports c settings u v
    (read_as form (length ports.inputs.formats) (length ports.outputs) t c lists) (head_read t form head)
    (ports_read t ports both)
    (coefficients_read form (length ports.inputs.formats) (length ports.outputs) t c lists)
    (settings_read form t settings chosen) one near)

-- the parts of a filter as a table gives them
unfoldable pub parts_of : Filter → Ports
parts_of f = record { inputs = record { low = f.input_low; formats = f.inputs }; outputs = map entry_of f.outputs }

pub same_filter : (t : Members) (f : Filter) → Describes t f → assembled (parts_of f) f.coefficients f.settings ≡ f
unfolding assembled parts_of
same_filter t f d =
    let entries = map entry_of f.outputs in
    let m = length f.inputs in
    let count : length entries ≡ length f.outputs = count_entries f.outputs in
    let (vs, list, each) = list_of (IsTableOf (DescribesOutput f.input_low)) f.outputs key.Outputs t d.outputs.held in
    let equations : equations_of m (length entries) f.coefficients ≡ f.equations =
    ap (λ (n : ℕ). equations_of m n f.coefficients) count ∙ sym d.equations in
    let outputs : with_rows f.equations.outputs entries ≡ f.outputs =
    ap (λ (rs : List ℕ). with_rows rs entries) d.rows ∙ rows_again f.input_low f.outputs vs each in
    let built : Equations → List OutputFormat → Filter =
    λ e os. record {
      input_low = f.input_low;
      inputs = f.inputs;
      outputs = os;
      coefficients =
          f.coefficients;
      settings = f.settings;
      equations = e;
    } in
    ap (λ (e : Equations). built e (with_rows e.outputs entries)) equations
    ∙ ap (λ (os : List OutputFormat). built f.equations os) outputs

ports_held : (t : Members) (f : Filter) → Describes t f → PortsHeld t (parts_of f)
unfolding parts_of
ports_held t f d =
    let (vs, list, each) = list_of (IsTableOf (DescribesOutput f.input_low)) f.outputs key.Outputs t d.outputs.held in
    let entries = map entry_of f.outputs in
    record {
      low = d.input_low;
      inputs = d.inputs;
      outputs = record {
        held =
            listed (IsTableOf (DescribesEntry f.input_low)) entries key.Outputs t vs list
            (entries_described f.input_low f.outputs vs each);
        count =
            subst (CountFits key.Outputs) (sym (count_entries f.outputs)) d.outputs.count;
      };
    }

pub filter_stands : (t : Members) (f : Filter) → Describes t f → filter_in t ≡ Ok f
unfolding filter_in parts_of
filter_stands t f d =
    let form = form_of f.coefficients in
    let m = length f.inputs in
    let p = length (map entry_of f.outputs) in
    let count : p ≡ length f.outputs = count_entries f.outputs in
    let ports : ports_in t ≡ Ok (parts_of f) = ports_stand t (parts_of f) (ports_held t f d) in
    let some : 1 ≤ p = rw count d.outputs.count.some in
    let lists : coefficients_in form m p t ≡ Ok f.coefficients =
    coefficients_stand m p t f.coefficients some (subst (λ (n : ℕ).
    DescribesCoefficients m n t f.coefficients) (sym count) d.coefficients) in
    let one : single form m p ≡ Ok tt =
    single_stands form m p (subst (λ (n : ℕ). CountsFit form m n) (sym count) d.counts) in
    let near = near_all f.input_low f.settings.accumulator f.outputs d.near in
    rw (
      head_stands t form d.form d.keys,
      ports,
      lists,
      settings_stand form t f.settings d.settings,
      one,
      near,
    ) (ap (λ (x : Filter). Ok x) (same_filter t f d))

-- ---- bytes

table_read : (bytes : List ℕ) (t : Members) → table_at bytes ≡ Ok t →
    (is_utf8 bytes ≡ true) × (parse_document bytes ≡ Some t)
table_read bytes t h = elim (cases_Bool (is_utf8 bytes)) [
  | inl is ↦ (is, fault_ok NotToml (parse_document bytes) t (rw is at h))
  | inr other ↦ absurd (let e : ◌≡◌ {A = Result Members FilterFault} (Err NotToml) (Ok t) = rw other at h in cc)
]

table_stands : (bytes : List ℕ) (t : Members) → is_utf8 bytes ≡ true → parse_document bytes ≡ Some t →
    table_at bytes ≡ Ok t
table_stands bytes t is parsed = rw is (ok_stands NotToml (parse_document bytes) t parsed)

file_read : (bytes : List ℕ) (f : Filter) → filter_of_bytes bytes ≡ Ok f → IsFileOf bytes f
unfolding filter_of_bytes
file_read bytes f h =
    let (t, table, read) = bind_ok (table_at bytes) filter_in f h in
    let (text, parsed) = table_read bytes t table in
    record { table = t; text = text; parsed = parsed; described = filter_read t f read }

file_stands : (bytes : List ℕ) (f : Filter) → IsFileOf bytes f → filter_of_bytes bytes ≡ Ok f
unfolding filter_of_bytes
file_stands bytes f h = bind_stands (table_at bytes) filter_in h.table f
    (table_stands bytes h.table h.text h.parsed) (filter_stands h.table f h.described)

pub file_law : FileLaw
file_law bytes f = (file_read bytes f, file_stands bytes f)

pub describes_one : DescribesOne
describes_one t f g d e = let same : ◌≡◌ {A = Result Filter FilterFault} (Ok f) (Ok g) =
    sym (filter_stands t f d) ∙ filter_stands t g e in same_ok f g same
