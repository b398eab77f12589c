-- A table that describes a filter has no count that is not as it has to be.
use Rattle.std.proofs.Common.{◌≡◌, ◌≢◌, ◌≤◌, ◌∙◌, ℕ, zero, suc, ◌+◌}
use Rattle.std.proofs.Common.{false, List, [], ◌∷◌, length, Option, Some}
use Rattle.std.proofs.Common.{None, refl, sym, ap, subst, arith, inl, inr}
use Rattle.std.specs.Prelude.{IsSome, All, slice_get}
use Rattle.std.proofs.lemmas.List.Elements.{All-head, All-tail}
use Rattle.toml.specs.Data.{Data, Members, Items, array, get_item}
use Rattle.toml.specs.Data.{as_str, as_integer, as_array}
use Rattle.fx_nums.specs.Fraction.{Fraction}
use Rattle.fx_keys.specs.Entries.{item_count}
use Rattle.fx_keys.specs.Keys.{own_name, parent_of, default_list_of}
use Rattle.fx_keys.specs.Table.{is_known}
use Rattle.fx_keys.specs.declared.key.Key.{Key}
use Rattle.fx_keys.specs.declared.key.Key.TheVariants as key
use Rattle.fx_keys.specs.declared.limits.TheConstants.{SECTION_COEFFICIENTS}
use Rattle.fx_files.specs.Coefficients.{form_of}
use Rattle.fx_files.specs.Describes.{DescribesInput, DescribesOutput}
use Rattle.fx_files.specs.Describes.{HoldsForm, Describes}
use Rattle.fx_files.specs.Filter.{Filter}
use Rattle.fx_files.specs.Fits.{CountsFit}
use Rattle.fx_files.specs.Forms.{known_keys}
use Rattle.fx_files.specs.Holds.{value_at, IsListOf, IsTableOf, CountFits}
use Rattle.fx_files.specs.Holds.{IsNaturalOf, AreNaturals, HoldsNaturals, IsNumeralOf}
use Rattle.fx_files.specs.Holds.{HoldsNumerals, HoldsRows, AreWide, HoldsMatrix}
use Rattle.fx_files.specs.declared.forms.Form.{Form}
use Rattle.fx_files.specs.declared.forms.Form.TheVariants as form
use Rattle.fx_files.proofs.HeldNumbers.{count_of}
use Rattle.fx_files.proofs.Steps.{and_some, some_and}
use Rattle.fx_faults.specs.Kinds as kind
use Rattle.fx_faults.specs.Kinds.{Kind, kind_of, HasKind}
use Rattle.fx_faults.specs.Places.{list_at, HasCount, HasRow}
use Rattle.fx_faults.specs.Faults.{IsMisshapen}
use Rattle.fx_faults.proofs.Listed.{is_array, is_nothing}
use Rattle.std.specs.Option.{option_and_then}
use Rattle.fx_faults.proofs.Described.{said, each_at, list_is, count_is, form_is}
use Rattle.fx_faults.proofs.Described.{foreign, home_of, at_home, transfer_of, cascade_of, space_of, lattice_of}
use Rattle.fx_faults.proofs.KeyFaults.{own_value}
use Rattle.fx_faults.proofs.DescribedKeys.{kind_held}

-- ---- lists that are there

split : (o : Option Data) (vs : Items) → option_and_then as_array o ≡ Some vs →
    (v : Data) × (o ≡ Some v) × (as_array v ≡ Some vs)
split None vs h = absurd cc
split (Some v) vs h = (v, refl, h)

pub list_value : (file : Members) (k : Key) (vs : Items) → list_at k file ≡ Some vs →
    (v : Data) × (value_at k file ≡ Some v) × (as_array v ≡ Some vs)
list_value file k vs h = split (value_at k file) vs h

pub count_value : (file : Members) (k : Key) (n : ℕ) → HasCount file k n →
    (v : Data) × (vs : Items) × (value_at k file ≡ Some v) × (as_array v ≡ Some vs)
count_value file k n h =
    let (vs, list, count) = some_and (list_at k file) (λ vs. item_count vs ≡ n) h in
    let (v, there, is) = list_value file k vs list in (v, vs, there, is)

no_zero : (n got : ℕ) → 1 ≤ n → n ≡ got → got ≡ 0 → ⊥
no_zero n got some same empty = absurd (omega arith)

pub all_at : {A : Type 0} (P : A → Type 0) (n : ℕ) (xs : List A) (x : A) → All P xs → slice_get xs n ≡ Some x → P x
all_at P n [] x all there = absurd cc
all_at P zero (y ∷ xs) x all there = let same : y ≡ x = cc in subst P same (All-head P y xs all)
all_at P (suc n) (y ∷ xs) x all there = all_at P n xs x (All-tail P y xs all) there

-- a row has as many entries as each row has
row_width : (file : Members) (k : Key) (rs : List (List Fraction)) (width got : ℕ) → HoldsRows k file rs →
    AreWide width rs → HasRow file k got → got ≡ width
row_width file k rs width got h wide row =
    let (vs, list, each) = list_is (IsListOf IsNumeralOf) rs file k h in
    let same : ◌≡◌ {A = Option Items} (Some row.rows) (Some vs) = sym row.held ∙ list in
    let is : row.rows ≡ vs = cc in
    let at : get_item row.place vs ≡ Some (array row.row) =
    subst (λ (x : Items). get_item row.place x ≡ Some (array row.row)) is row.stands in
    let (r, found, entries) = each_at (IsListOf IsNumeralOf) rs vs row.place (array row.row) each at in
    sym row.count ∙ count_of IsNumeralOf r row.row entries
    ∙ all_at (λ (x : List Fraction). length x ≡ width) row.place rs r wide found

one_each : (g : Form) (m p : ℕ) → CountsFit g m p → g ≢ form.Ss → (m ≡ 1) × (p ≡ 1)
one_each form.Tf m p h other = h
one_each form.Sos m p h other = h
one_each form.Ss m p h other = absurd (other refl)
one_each form.Lattice m p h other = h

no_array : (v : Data) (vs : Items) → as_array v ≡ Some vs → ¬ IsSome (as_str v)
no_array v vs list h = let none : as_str v ≡ None = rw (is_array v vs list) refl in is_nothing (as_str v) none h

no_array_whole : (v : Data) (vs : Items) → as_array v ≡ Some vs → ¬ IsSome (as_integer v)
no_array_whole v vs list h =
    let none : as_integer v ≡ None = rw (is_array v vs list) refl in is_nothing (as_integer v) none h

-- the keys of inputs and outputs are none of a file's own table
inner_key : (k : Key) (list : Key) (g : Form) → parent_of k ≡ Some list → is_known (known_keys g) (own_name k) ≡ false
inner_key key.InputsWidth list form.Tf h = refl
inner_key key.InputsWidth list _ h = refl
inner_key key.InputsBound list form.Tf h = refl
inner_key key.InputsBound list _ h = refl
inner_key key.OutputsWidth list form.Tf h = refl
inner_key key.OutputsWidth list _ h = refl
inner_key key.OutputsLow list form.Tf h = refl
inner_key key.OutputsLow list _ h = refl
inner_key key.OutputsError list form.Tf h = refl
inner_key key.OutputsError list _ h = refl
inner_key _ list g h = absurd cc

-- ---- of a described table

module _ (file : Members) (f : Filter) (d : Describes file f) where
  abbrev m : ℕ
  m = length f.inputs

  abbrev p : ℕ
  p = length f.outputs

  -- a key of an input or output has no list in the file's own table
  inner_count : (k list : Key) (n : ℕ) → parent_of k ≡ Some list → HasCount file k n → ⊥
  inner_count k list n inner count =
      let (v, vs, there, is) = count_value file k n count in
      let g = form_of f.coefficients in
      foreign (known_keys g) k file v d.keys (inner_key k list g inner) there

  text_count : (k : Key) (n : ℕ) → parent_of k ≡ None → kind_of k ≡ kind.Text → HasCount file k n → ⊥
  text_count k n own is count =
      let (v, vs, there, list) = count_value file k n count in
      no_array v vs list
      (subst (λ (x : Kind). HasKind x v) is (kind_held file f d k 0 v (own_value file k v own there)))

  whole_count : (k : Key) (n : ℕ) → parent_of k ≡ None → kind_of k ≡ kind.Whole → HasCount file k n → ⊥
  whole_count k n own is count =
      let (v, vs, there, list) = count_value file k n count in
      no_array_whole v vs list
      (subst (λ (x : Kind). HasKind x v) is (kind_held file f d k 0 v (own_value file k v own there)))

  pub home : (k : Key) (g : Form) (n : ℕ) → home_of k ≡ Some g → HasCount file k n → g ≡ form_of f.coefficients
  home k g n own count =
      let (v, vs, there, list) = count_value file k n count in at_home file f k g v d own there

  row_home : (k : Key) (g : Form) (n : ℕ) → home_of k ≡ Some g → HasRow file k n → g ≡ form_of f.coefficients
  row_home k g n own row =
      let (v, there, list) = list_value file k row.rows row.held in at_home file f k g v d own there

  form_here : (g : Form) → HoldsForm file g → g ≡ form_of f.coefficients
  form_here g named = form_is file g (form_of f.coefficients) named d.form

  -- how many entries the list of a key has
  pub inputs_count : (n : ℕ) → HasCount file key.Inputs n → m ≡ n
  inputs_count n count = count_is (IsTableOf DescribesInput) f.inputs file key.Inputs n d.inputs.held count

  pub outputs_count : (n : ℕ) → HasCount file key.Outputs n → p ≡ n
  outputs_count n count =
      count_is (IsTableOf (DescribesOutput f.input_low)) f.outputs file key.Outputs n d.outputs.held count

  pub naturals_count : (k : Key) (ns : List ℕ) (n : ℕ) → HoldsNaturals k file ns → HasCount file k n →
      CountFits k n
  naturals_count k ns n h count =
      let (v, vs, there, list) = count_value file k n count in
      let a : AreNaturals k ns v = said (default_list_of k ≡ Some ns) (value_at k file) (AreNaturals k ns) v there h in
      let is : length ns ≡ n = count_is (IsNaturalOf k) ns file k n
      (and_some (value_at k file) (IsListOf (IsNaturalOf k) ns) v there a.entries) count in
      subst (CountFits k) is a.count

  pub numerals_count : (k : Key) (cs : List Fraction) (n : ℕ) → HoldsNumerals k file cs → HasCount file k n →
      length cs ≡ n
  numerals_count k cs n h count = count_is IsNumeralOf cs file k n h count

  pub rows_count : (k : Key) (rs : List (List Fraction)) (n : ℕ) → HoldsRows k file rs → HasCount file k n →
      length rs ≡ n
  rows_count k rs n h count = count_is (IsListOf IsNumeralOf) rs file k n h count

  -- the rows of the matrix A are the states
  states_count : (n got : ℕ) (a : List Fraction) → HoldsMatrix key.MatA n n file a → HasCount file key.MatA got →
      n ≡ got
  states_count n got a h count = sym h.high ∙ rows_count key.MatA h.rows got h.held count

  pub none_misshapen : (k : Key) (got wanted : ℕ) → IsMisshapen file k got wanted → ⊥
  none_misshapen key.Form got wanted (differ, inl (other, count, empty, one)) =
      text_count key.Form got refl refl count
  none_misshapen key.Structure got wanted (differ, inl (other, count, empty, one)) =
      text_count key.Structure got refl refl count
  none_misshapen key.Rounding got wanted (differ, inl (other, count, empty, one)) =
      text_count key.Rounding got refl refl count
  none_misshapen key.InputLow got wanted (differ, inl (other, count, empty, one)) =
      whole_count key.InputLow got refl refl count
  none_misshapen key.Accumulator got wanted (differ, inl (other, count, empty, one)) =
      whole_count key.Accumulator got refl refl count
  none_misshapen key.Word got wanted (differ, inl (other, count, empty, one)) =
      whole_count key.Word got refl refl count
  none_misshapen key.InputsWidth got wanted (differ, inl (other, count, empty, one)) =
      inner_count key.InputsWidth key.Inputs got refl count
  none_misshapen key.InputsBound got wanted (differ, inl (other, count, empty, one)) =
      inner_count key.InputsBound key.Inputs got refl count
  none_misshapen key.OutputsWidth got wanted (differ, inl (other, count, empty, one)) =
      inner_count key.OutputsWidth key.Outputs got refl count
  none_misshapen key.OutputsLow got wanted (differ, inl (other, count, empty, one)) =
      inner_count key.OutputsLow key.Outputs got refl count
  none_misshapen key.OutputsError got wanted (differ, inl (other, count, empty, one)) =
      inner_count key.OutputsError key.Outputs got refl count
  none_misshapen key.Inputs got wanted (differ, inl (other, count, empty, one)) =
      no_zero m got d.inputs.count.some (inputs_count got count) empty
  none_misshapen key.Inputs got wanted (differ, inr (inl h)) =
      let is = form_here h.form h.named in
      let one = one_each (form_of f.coefficients) m p d.counts
      (λ same. h.fixed.0 (is ∙ same)) in
      differ (sym (inputs_count got h.found) ∙ one.0 ∙ sym h.fixed.1)
  none_misshapen key.Outputs got wanted (differ, inl (other, count, empty, one)) =
      no_zero p got d.outputs.count.some (outputs_count got count) empty
  none_misshapen key.Outputs got wanted (differ, inr (inl h)) =
      let is = form_here h.form h.named in
      let one = one_each (form_of f.coefficients) m p d.counts
      (λ same. h.fixed.0 (is ∙ same)) in
      differ (sym (outputs_count got h.found) ∙ one.1 ∙ sym h.fixed.1)
  none_misshapen key.Guards got wanted (differ, inl (other, count, empty, one)) =
      no_zero got got (naturals_count key.Guards f.settings.guards got d.settings.guards count).some refl empty
  none_misshapen key.Fractions got wanted (differ, inl (other, count, empty, one)) =
      no_zero got got (naturals_count key.Fractions f.settings.fractions got d.settings.fractions count).some refl empty
  none_misshapen key.Lengths got wanted (differ, inl (other, count, empty, one)) =
      no_zero got got (naturals_count key.Lengths f.settings.lengths got d.settings.lengths count).some refl empty
  none_misshapen key.B got wanted (differ, inl (other, count, empty, one)) =
      let (b, a, is) = transfer_of m p file f.coefficients d.coefficients (home key.B form.Tf got refl count) in
      no_zero (length b) got is.numerator.count.some (numerals_count key.B b got is.numerator.entries count) empty
  none_misshapen key.A got wanted (differ, inl (other, count, empty, one)) =
      let (b, a, is) = transfer_of m p file f.coefficients d.coefficients (home key.A form.Tf got refl count) in
      no_zero (length a) got is.denominator.count.some
      (numerals_count key.A a got is.denominator.entries count) empty
  none_misshapen key.Sections got wanted (differ, inl (other, count, empty, one)) =
      let (cs, is) = cascade_of m p file f.coefficients d.coefficients (home key.Sections form.Sos got refl count) in
      no_zero (length is.rows) got is.count.some (rows_count key.Sections is.rows got is.held count) empty
  none_misshapen key.Sections got wanted (differ, inr (inr h)) =
      let here = row_home key.Sections form.Sos got refl h.found in
      let (cs, is) = cascade_of m p file f.coefficients d.coefficients here in
      differ (row_width file key.Sections is.rows SECTION_COEFFICIENTS got is.held is.wide h.found ∙ sym h.fixed)
  none_misshapen key.MatA got wanted (differ, inl (other, count, empty, one)) =
      let s = space_of m p file f.coefficients d.coefficients (home key.MatA form.Ss got refl count) in
      no_zero s.n got s.space.states.some
      (sym s.space.state.high ∙ rows_count key.MatA s.space.state.rows got s.space.state.held count) empty
  none_misshapen key.MatA got wanted (differ, inr (inr h)) =
      let here = row_home key.MatA form.Ss got refl h.found in
      let s = space_of m p file f.coefficients d.coefficients here in
      differ (row_width file key.MatA s.space.state.rows s.n got s.space.state.held s.space.state.wide h.found
      ∙ states_count s.n wanted s.a s.space.state h.fixed)
  none_misshapen key.MatB got wanted (differ, inl (other, count, empty, one)) =
      let s = space_of m p file f.coefficients d.coefficients (home key.MatB form.Ss got refl count) in
      no_zero s.n got s.space.states.some
      (sym s.space.input.high ∙ rows_count key.MatB s.space.input.rows got s.space.input.held count) empty
  none_misshapen key.MatB got wanted (differ, inr (inl h)) =
      let s = space_of m p file f.coefficients d.coefficients (home key.MatB form.Ss got refl h.found) in
      differ (sym (rows_count key.MatB s.space.input.rows got s.space.input.held h.found)
      ∙ s.space.input.high ∙ states_count s.n wanted s.a s.space.state h.fixed)
  none_misshapen key.MatB got wanted (differ, inr (inr h)) =
      let here = row_home key.MatB form.Ss got refl h.found in
      let s = space_of m p file f.coefficients d.coefficients here in
      differ (row_width file key.MatB s.space.input.rows m got s.space.input.held s.space.input.wide h.found
      ∙ inputs_count wanted h.fixed)
  none_misshapen key.MatC got wanted (differ, inl (other, count, empty, one)) =
      let s = space_of m p file f.coefficients d.coefficients (home key.MatC form.Ss got refl count) in
      no_zero p got d.outputs.count.some
      (sym s.space.output.high ∙ rows_count key.MatC s.space.output.rows got s.space.output.held count) empty
  none_misshapen key.MatC got wanted (differ, inr (inl h)) =
      let s = space_of m p file f.coefficients d.coefficients (home key.MatC form.Ss got refl h.found) in
      differ (sym (rows_count key.MatC s.space.output.rows got s.space.output.held h.found)
      ∙ s.space.output.high ∙ outputs_count wanted h.fixed)
  none_misshapen key.MatC got wanted (differ, inr (inr h)) =
      let here = row_home key.MatC form.Ss got refl h.found in
      let s = space_of m p file f.coefficients d.coefficients here in
      differ (row_width file key.MatC s.space.output.rows s.n got s.space.output.held s.space.output.wide h.found
      ∙ states_count s.n wanted s.a s.space.state h.fixed)
  none_misshapen key.MatD got wanted (differ, inl (other, count, empty, one)) =
      let s = space_of m p file f.coefficients d.coefficients (home key.MatD form.Ss got refl count) in
      no_zero p got d.outputs.count.some
      (sym s.space.through.high ∙ rows_count key.MatD s.space.through.rows got s.space.through.held count) empty
  none_misshapen key.MatD got wanted (differ, inr (inl h)) =
      let s = space_of m p file f.coefficients d.coefficients (home key.MatD form.Ss got refl h.found) in
      differ (sym (rows_count key.MatD s.space.through.rows got s.space.through.held h.found)
      ∙ s.space.through.high ∙ outputs_count wanted h.fixed)
  none_misshapen key.MatD got wanted (differ, inr (inr h)) =
      let here = row_home key.MatD form.Ss got refl h.found in
      let s = space_of m p file f.coefficients d.coefficients here in
      differ (row_width file key.MatD s.space.through.rows m got s.space.through.held s.space.through.wide h.found
      ∙ inputs_count wanted h.fixed)
  none_misshapen key.K got wanted (differ, inl (other, count, empty, one)) =
      other refl
  none_misshapen key.V got wanted (differ, inl (other, count, empty, one)) =
      let (ks, vs, is) = lattice_of m p file f.coefficients d.coefficients (home key.V form.Lattice got refl count) in
      let more = is.one_more in
      no_zero (length vs) got (omega arith) (numerals_count key.V vs got is.taps count) empty
  none_misshapen key.V got wanted (differ, inr (inl h)) =
      let (ks, vs, is) = lattice_of m p file f.coefficients d.coefficients (home key.V form.Lattice got refl h.found) in
      let (order, taps, one_more) = h.fixed in
      let same : length ks ≡ order = numerals_count key.K ks order is.reflections taps in
      differ (sym (numerals_count key.V vs got is.taps h.found) ∙ is.one_more
      ∙ ap (λ (n : ℕ). n + 1) same ∙ sym one_more)
  none_misshapen _ got wanted (differ, inr (inl h)) = absurd h.fixed
  none_misshapen _ got wanted (differ, inr (inr h)) = absurd h.fixed
