-- A table that describes a filter lacks no key, has no unknown one, and no value of another kind.
use Rattle.std.proofs.Common.{◌≡◌, ◌≢◌, ℕ, ℤ, pos}
use Rattle.std.proofs.Common.{true, false, List, [], ◌∷◌, length, Option, Some}
use Rattle.std.proofs.Common.{None, Ok, refl, sym, subst, lit<}
use Rattle.std.specs.Prelude.{IsSome, MatchOption, All}
use Rattle.toml.specs.Data.{Data, Members, string, get_member}
use Rattle.toml.specs.Data.{as_str, as_integer, as_array, as_table}
use Rattle.fx_decimal.specs.Faults.{Means}
use Rattle.fx_nums.specs.Fraction.{Fraction}
use Rattle.fx_keys.specs.Keys.{default_of, default_list_of}
use Rattle.fx_keys.specs.Numerals.{numeral_text}
use Rattle.fx_keys.specs.Table.{is_known}
use Rattle.fx_keys.specs.declared.key.Key.{Key}
use Rattle.fx_keys.specs.declared.key.Key.TheVariants as key
use Rattle.fx_files.specs.Coefficients.{form_of}
use Rattle.fx_files.specs.Describes.{DescribesInput, DescribesOutput}
use Rattle.fx_files.specs.Describes.{HoldsForm, Describes}
use Rattle.fx_files.specs.Filter.{Filter}
use Rattle.fx_files.specs.Forms.{form_text, structure_text, mode_text, default_structure, known_keys}
use Rattle.fx_files.specs.Holds.{value_at, Each, IsListOf, IsTableOf, IsWordOf, HoldsWord, HoldsInteger}
use Rattle.fx_files.specs.Holds.{IsNaturalOf, AreNaturals, HoldsNaturals, IsNumeralOf}
use Rattle.fx_files.specs.Ports.{top_word}
use Rattle.fx_files.specs.declared.forms.Form.{Form}
use Rattle.fx_files.specs.declared.forms.Form.TheVariants as form
use Rattle.fx_files.specs.declared.forms.Structure.{Structure}
use Rattle.fx_files.specs.declared.forms.Structure.TheVariants as structure
use Rattle.fx_eqs.specs.declared.mode.Mode.{Mode}
use Rattle.fx_eqs.specs.declared.mode.Mode.TheVariants as mode
use Rattle.fx_files.proofs.Steps.{and_some, some_and}
use Rattle.fx_faults.specs.Kinds as kind
use Rattle.fx_faults.specs.Kinds.{Kind, ListOf, kind_of, HasKind, EachEntry}
use Rattle.fx_faults.specs.Places.{IsTableAt, keys_in, HasValue}
use Rattle.fx_faults.specs.Faults.{IsMissing, IsUnknown, IsOfOtherKind, words_of, IsOtherWord}
use Rattle.fx_faults.proofs.Described.{own_there}
use Rattle.fx_faults.proofs.Described.{said, lacking, said_of, is_there, each_at, table_is, form_is}
use Rattle.fx_faults.proofs.Described.{at_home, transfer_of, cascade_of, space_of, lattice_of}

-- ---- kinds

is_here : {A : Type 0} (o : Option A) (x : A) → o ≡ Some x → IsSome o
is_here o x h = rw h refl

list_kind : {A : Type 0} (says : A → Data → Type 0) (kd : Kind) (xs : List A) (v : Data) →
    ((x : A) (y : Data) → says x y → HasKind kd y) → IsListOf says xs v → HasKind (ListOf kd) v
list_kind says kd xs v entry h =
    let (vs, list, each) = some_and (as_array v) (Each says xs) h in
    and_some (as_array v) (EachEntry (HasKind kd)) vs list (λ n y at.
    let (x, there, is) = each_at says xs vs n y each at in entry x y is)

table_kind : {A : Type 0} (describes : Members → A → Type 0) (x : A) (v : Data) → IsTableOf describes x v →
    HasKind kind.Table v
table_kind describes x v h = let (t, there, is) = some_and (as_table v) (λ t. describes t x) h in
    is_here (as_table v) t there

numeral_kind : (c : Fraction) (v : Data) → IsNumeralOf c v → HasKind kind.Numeral v
numeral_kind c v h = let (text, there, is) = some_and (numeral_text v) (λ text. Means text (Ok c)) h in
    is_here (numeral_text v) text there

natural_kind : (k : Key) (n : ℕ) (v : Data) → IsNaturalOf k n v → HasKind kind.Whole v
natural_kind k n v h = is_here (as_integer v) (pos n) h.number

numerals_kind : (cs : List Fraction) (v : Data) → IsListOf IsNumeralOf cs v → HasKind (ListOf kind.Numeral) v
numerals_kind cs v h = list_kind IsNumeralOf kind.Numeral cs v numeral_kind h

rows_kind : (rows : List (List Fraction)) (v : Data) → IsListOf (IsListOf IsNumeralOf) rows v →
    HasKind (ListOf (ListOf kind.Numeral)) v
rows_kind rows v h = list_kind (IsListOf IsNumeralOf) (ListOf kind.Numeral) rows v numerals_kind h

whole_kind : (k : Key) (default : Option ℤ) (t : Members) (z : ℤ) (v : Data) → HoldsInteger k default t z →
    value_at k t ≡ Some v → HasKind kind.Whole v
whole_kind k default t z v h there =
    is_here (as_integer v) z (said (default ≡ Some z) (value_at k t) (λ v. as_integer v ≡ Some z) v there h)

naturals_kind : (k : Key) (t : Members) (ns : List ℕ) (v : Data) → HoldsNaturals k t ns → value_at k t ≡ Some v →
    HasKind (ListOf kind.Whole) v
naturals_kind k t ns v h there =
    let a : AreNaturals k ns v = said (default_list_of k ≡ Some ns) (value_at k t) (AreNaturals k ns) v there h in
    list_kind (IsNaturalOf k) kind.Whole ns v (natural_kind k) a.entries

-- ---- words

other_form : (text : List ℕ) (g : Form) → text ≡ form_text g → ¬ All (λ word. text ≢ word) (words_of key.Form)
other_form text form.Tf is all = all 0 text (lit< tt) is
other_form text form.Sos is all = all 1 text (lit< tt) is
other_form text form.Ss is all = all 2 text (lit< tt) is
other_form text form.Lattice is all = all 3 text (lit< tt) is

other_structure : (text : List ℕ) (s : Structure) → text ≡ structure_text s →
    ¬ All (λ word. text ≢ word) (words_of key.Structure)
other_structure text structure.Df1 is all = all 0 text (lit< tt) is
other_structure text structure.Df2 is all = all 1 text (lit< tt) is
other_structure text structure.Df2t is all = all 2 text (lit< tt) is
other_structure text structure.Fir is all = all 3 text (lit< tt) is
other_structure text structure.Lattice is all = all 4 text (lit< tt) is
other_structure text structure.Ss is all = all 5 text (lit< tt) is

other_mode : (text : List ℕ) (m : Mode) → text ≡ mode_text m → ¬ All (λ word. text ≢ word) (words_of key.Rounding)
other_mode text mode.Nearest is all = all 0 text (lit< tt) is
other_mode text mode.Floor is all = all 1 text (lit< tt) is

-- the text at a key spells its value, where the key is there
spelled_as : {A : Type 0} (k : Key) (spelled : A → List ℕ) (default : A) (t : Members) (x : A) (text : List ℕ) →
    HoldsWord k spelled default t x → value_at k t ≡ Some (string text) → text ≡ spelled x
spelled_as k spelled default t x text h there =
    let is : ◌≡◌ {A = Option (List ℕ)} (Some text) (Some (spelled x)) =
    said (x ≡ default) (value_at k t) (IsWordOf spelled x) (string text) there h in cc

word_kind : {A : Type 0} (k : Key) (spelled : A → List ℕ) (default : A) (t : Members) (x : A) (v : Data) →
    HoldsWord k spelled default t x → value_at k t ≡ Some v → HasKind kind.Text v
word_kind k spelled default t x v h there =
    is_here (as_str v) (spelled x) (said (x ≡ default) (value_at k t) (IsWordOf spelled x) v there h)

-- ---- of a described table

module _ (file : Members) (f : Filter) (d : Describes file f) where
  abbrev m : ℕ
  m = length f.inputs

  abbrev p : ℕ
  p = length f.outputs

  own_absent : (k : Key) (owner : Members) → file ≡ owner → value_at k owner ≡ None → value_at k file ≡ None
  own_absent k owner is absent = subst (λ (t : Members). value_at k t ≡ None) (sym is) absent

  form_here : (g : Form) → HoldsForm file g → g ≡ form_of f.coefficients
  form_here g named = form_is file g (form_of f.coefficients) named d.form

  no_default : (o : Option Data) (z : ℤ) (P : Data → Type 0) → o ≡ None →
      MatchOption o (◌≡◌ {A = Option ℤ} None (Some z)) P → ⊥
  no_default o z P none h =
      let is : ◌≡◌ {A = Option ℤ} None (Some z) = lacking (◌≡◌ {A = Option ℤ} None (Some z)) o P none h in absurd cc

  pub none_missing : (k : Key) → IsMissing file k → ⊥
  none_missing key.Form h = is_there (value_at key.Form file) _ d.form (own_absent key.Form h.owner h.stands h.absent)
  none_missing key.Inputs h =
      is_there (value_at key.Inputs file) _ d.inputs.held (own_absent key.Inputs h.owner h.stands h.absent)
  none_missing key.Outputs h =
      is_there (value_at key.Outputs file) _ d.outputs.held (own_absent key.Outputs h.owner h.stands h.absent)
  none_missing key.InputsWidth h =
      let (i, at, is) = table_is DescribesInput f.inputs file key.Inputs h.place h.owner d.inputs.held h.stands in
      no_default (value_at key.InputsWidth h.owner) (pos i.width) _ h.absent is.width.number
  none_missing key.OutputsWidth h =
      let (o, at, is) =
      table_is (DescribesOutput f.input_low) f.outputs file key.Outputs h.place h.owner d.outputs.held h.stands in
      no_default (value_at key.OutputsWidth h.owner) (pos o.width) _ h.absent is.width.number
  none_missing key.OutputsError h =
      let (o, at, is) =
      table_is (DescribesOutput f.input_low) f.outputs file key.Outputs h.place h.owner d.outputs.held h.stands in
      is_there (value_at key.OutputsError h.owner) _ is.error h.absent
  none_missing key.B h =
      let (b, a, is) = transfer_of m p file f.coefficients d.coefficients (form_here form.Tf h.required) in
      is_there (value_at key.B file) _ is.numerator.entries (own_absent key.B h.owner h.stands h.absent)
  none_missing key.A h =
      let (b, a, is) = transfer_of m p file f.coefficients d.coefficients (form_here form.Tf h.required) in
      is_there (value_at key.A file) _ is.denominator.entries (own_absent key.A h.owner h.stands h.absent)
  none_missing key.Sections h =
      let (cs, is) = cascade_of m p file f.coefficients d.coefficients (form_here form.Sos h.required) in
      is_there (value_at key.Sections file) _ is.held (own_absent key.Sections h.owner h.stands h.absent)
  none_missing key.MatA h =
      let s = space_of m p file f.coefficients d.coefficients (form_here form.Ss h.required) in
      is_there (value_at key.MatA file) _ s.space.state.held (own_absent key.MatA h.owner h.stands h.absent)
  none_missing key.MatB h =
      let s = space_of m p file f.coefficients d.coefficients (form_here form.Ss h.required) in
      is_there (value_at key.MatB file) _ s.space.input.held (own_absent key.MatB h.owner h.stands h.absent)
  none_missing key.MatC h =
      let s = space_of m p file f.coefficients d.coefficients (form_here form.Ss h.required) in
      is_there (value_at key.MatC file) _ s.space.output.held (own_absent key.MatC h.owner h.stands h.absent)
  none_missing key.MatD h =
      let s = space_of m p file f.coefficients d.coefficients (form_here form.Ss h.required) in
      is_there (value_at key.MatD file) _ s.space.through.held (own_absent key.MatD h.owner h.stands h.absent)
  none_missing key.K h =
      let (k, v, is) = lattice_of m p file f.coefficients d.coefficients (form_here form.Lattice h.required) in
      is_there (value_at key.K file) _ is.reflections (own_absent key.K h.owner h.stands h.absent)
  none_missing key.V h =
      let (k, v, is) = lattice_of m p file f.coefficients d.coefficients (form_here form.Lattice h.required) in
      is_there (value_at key.V file) _ is.taps (own_absent key.V h.owner h.stands h.absent)
  none_missing _ h = absurd h.required

  -- ---- unknown keys

  unknown_at : (list : Option Key) (form : Form) (place : ℕ) (owner : Members) (known : List Key) (text : List ℕ) →
      HoldsForm file form → IsTableAt list place file owner → keys_in list form ≡ Some known →
      IsSome (get_member text owner) → is_known known text ≡ false → ⊥
  unknown_at None form place owner known text named stands may there unknown =
      let same : known_keys form ≡ known = cc in
      let is : form ≡ form_of f.coefficients = form_here form named in
      let only : is_known (known_keys form) text ≡ true =
      subst (λ (g : Form). is_known (known_keys g) text ≡ true) (sym is)
      (d.keys text (subst (λ (t : Members). IsSome (get_member text t)) (sym stands) there)) in
      let here : is_known known text ≡ true = subst (λ (x : List Key). is_known x text ≡ true) same only in absurd cc
  unknown_at (Some key.Inputs) form place owner known text named stands may there unknown =
      let same : key.InputsWidth ∷ key.InputsBound ∷ [] ≡ known = cc in
      let (i, at, is) = table_is DescribesInput f.inputs file key.Inputs place owner d.inputs.held stands in
      let only : is_known known text ≡ true =
      subst (λ (x : List Key). is_known x text ≡ true) same (is.keys text there) in absurd cc
  unknown_at (Some key.Outputs) form place owner known text named stands may there unknown =
      let same : key.OutputsWidth ∷ key.OutputsLow ∷ key.OutputsError ∷ [] ≡ known = cc in
      let (o, at, is) =
      table_is (DescribesOutput f.input_low) f.outputs file key.Outputs place owner d.outputs.held stands in
      let only : is_known known text ≡ true =
      subst (λ (x : List Key). is_known x text ≡ true) same (is.keys text there) in absurd cc
  unknown_at (Some _) form place owner known text named stands may there unknown = absurd cc

  pub none_unknown : (text : List ℕ) → IsUnknown file text → ⊥
  none_unknown text h =
      unknown_at h.list h.form h.place h.owner h.known text h.named h.stands h.may_have h.there h.unknown

  -- ---- kinds

  pub kind_held : (k : Key) (place : ℕ) (v : Data) → HasValue file k place v → HasKind (kind_of k) v
  kind_held key.Form place v h =
      let there = own_there file key.Form h.owner v h.stands h.held in
      is_here (as_str v) _ (said_of (value_at key.Form file) (λ v. as_str v ≡ Some (form_text (form_of f.coefficients)))
      v there d.form)
  kind_held key.Structure place v h =
      word_kind key.Structure structure_text (default_structure (form_of f.coefficients)) file f.settings.structure v
      d.settings.structure (own_there file key.Structure h.owner v h.stands h.held)
  kind_held key.Rounding place v h =
      word_kind key.Rounding mode_text mode.Nearest file f.settings.rounding v
      d.settings.rounding (own_there file key.Rounding h.owner v h.stands h.held)
  kind_held key.InputLow place v h =
      whole_kind key.InputLow (default_of key.InputLow) file f.input_low v d.input_low.number
      (own_there file key.InputLow h.owner v h.stands h.held)
  kind_held key.Accumulator place v h =
      whole_kind key.Accumulator (default_of key.Accumulator) file (pos f.settings.accumulator) v
      d.settings.accumulator (own_there file key.Accumulator h.owner v h.stands h.held)
  kind_held key.Word place v h =
      whole_kind key.Word (default_of key.Word) file (pos f.settings.word) v d.settings.word.number
      (own_there file key.Word h.owner v h.stands h.held)
  kind_held key.Guards place v h =
      naturals_kind key.Guards file f.settings.guards v d.settings.guards
      (own_there file key.Guards h.owner v h.stands h.held)
  kind_held key.Fractions place v h =
      naturals_kind key.Fractions file f.settings.fractions v d.settings.fractions
      (own_there file key.Fractions h.owner v h.stands h.held)
  kind_held key.Lengths place v h =
      naturals_kind key.Lengths file f.settings.lengths v d.settings.lengths
      (own_there file key.Lengths h.owner v h.stands h.held)
  kind_held key.Inputs place v h =
      let there = own_there file key.Inputs h.owner v h.stands h.held in
      list_kind (IsTableOf DescribesInput) kind.Table f.inputs v (table_kind DescribesInput)
      (said_of (value_at key.Inputs file) (IsListOf (IsTableOf DescribesInput) f.inputs) v there d.inputs.held)
  kind_held key.Outputs place v h =
      let there = own_there file key.Outputs h.owner v h.stands h.held in
      list_kind (IsTableOf (DescribesOutput f.input_low)) kind.Table f.outputs v
      (table_kind (DescribesOutput f.input_low))
      (said_of (value_at key.Outputs file) (IsListOf (IsTableOf (DescribesOutput f.input_low)) f.outputs) v there
      d.outputs.held)
  kind_held key.InputsWidth place v h =
      let (i, at, is) = table_is DescribesInput f.inputs file key.Inputs place h.owner d.inputs.held h.stands in
      whole_kind key.InputsWidth None h.owner (pos i.width) v is.width.number h.held
  kind_held key.InputsBound place v h =
      let (i, at, is) = table_is DescribesInput f.inputs file key.Inputs place h.owner d.inputs.held h.stands in
      whole_kind key.InputsBound (Some (top_word i.width)) h.owner i.bound v is.bound.number h.held
  kind_held key.OutputsWidth place v h =
      let (o, at, is) =
      table_is (DescribesOutput f.input_low) f.outputs file key.Outputs place h.owner d.outputs.held h.stands in
      whole_kind key.OutputsWidth None h.owner (pos o.width) v is.width.number h.held
  kind_held key.OutputsLow place v h =
      let (o, at, is) =
      table_is (DescribesOutput f.input_low) f.outputs file key.Outputs place h.owner d.outputs.held h.stands in
      whole_kind key.OutputsLow (Some f.input_low) h.owner o.low v is.low.number h.held
  kind_held key.OutputsError place v h =
      let (o, at, is) =
      table_is (DescribesOutput f.input_low) f.outputs file key.Outputs place h.owner d.outputs.held h.stands in
      numeral_kind o.error v (said_of (value_at key.OutputsError h.owner) (IsNumeralOf o.error) v h.held is.error)
  kind_held key.B place v h =
      let there = own_there file key.B h.owner v h.stands h.held in
      let home : form.Tf ≡ form_of f.coefficients = at_home file f key.B form.Tf v d refl there in
      let (b, a, is) = transfer_of m p file f.coefficients d.coefficients home in
      numerals_kind b v (said_of (value_at key.B file) _ v there is.numerator.entries)
  kind_held key.A place v h =
      let there = own_there file key.A h.owner v h.stands h.held in
      let home : form.Tf ≡ form_of f.coefficients = at_home file f key.A form.Tf v d refl there in
      let (b, a, is) = transfer_of m p file f.coefficients d.coefficients home in
      numerals_kind a v (said_of (value_at key.A file) _ v there is.denominator.entries)
  kind_held key.Sections place v h =
      let there = own_there file key.Sections h.owner v h.stands h.held in
      let home : form.Sos ≡ form_of f.coefficients = at_home file f key.Sections form.Sos v d refl there in
      let (cs, is) = cascade_of m p file f.coefficients d.coefficients home in
      rows_kind is.rows v (said_of (value_at key.Sections file) _ v there is.held)
  kind_held key.MatA place v h =
      let there = own_there file key.MatA h.owner v h.stands h.held in
      let home : form.Ss ≡ form_of f.coefficients = at_home file f key.MatA form.Ss v d refl there in
      let s = space_of m p file f.coefficients d.coefficients home in
      rows_kind s.space.state.rows v (said_of (value_at key.MatA file) _ v there s.space.state.held)
  kind_held key.MatB place v h =
      let there = own_there file key.MatB h.owner v h.stands h.held in
      let home : form.Ss ≡ form_of f.coefficients = at_home file f key.MatB form.Ss v d refl there in
      let s = space_of m p file f.coefficients d.coefficients home in
      rows_kind s.space.input.rows v (said_of (value_at key.MatB file) _ v there s.space.input.held)
  kind_held key.MatC place v h =
      let there = own_there file key.MatC h.owner v h.stands h.held in
      let home : form.Ss ≡ form_of f.coefficients = at_home file f key.MatC form.Ss v d refl there in
      let s = space_of m p file f.coefficients d.coefficients home in
      rows_kind s.space.output.rows v (said_of (value_at key.MatC file) _ v there s.space.output.held)
  kind_held key.MatD place v h =
      let there = own_there file key.MatD h.owner v h.stands h.held in
      let home : form.Ss ≡ form_of f.coefficients = at_home file f key.MatD form.Ss v d refl there in
      let s = space_of m p file f.coefficients d.coefficients home in
      rows_kind s.space.through.rows v (said_of (value_at key.MatD file) _ v there s.space.through.held)
  kind_held key.K place v h =
      let there = own_there file key.K h.owner v h.stands h.held in
      let home : form.Lattice ≡ form_of f.coefficients = at_home file f key.K form.Lattice v d refl there in
      let (ks, vs, is) = lattice_of m p file f.coefficients d.coefficients home in
      numerals_kind ks v (said_of (value_at key.K file) _ v there is.reflections)
  kind_held key.V place v h =
      let there = own_there file key.V h.owner v h.stands h.held in
      let home : form.Lattice ≡ form_of f.coefficients = at_home file f key.V form.Lattice v d refl there in
      let (ks, vs, is) = lattice_of m p file f.coefficients d.coefficients home in
      numerals_kind vs v (said_of (value_at key.V file) _ v there is.taps)

  pub none_other : (k : Key) → IsOfOtherKind file k → ⊥
  none_other k h = h.other (kind_held k h.place h.value h.held)

  -- ---- words

  pub no_other_word : (k : Key) → IsOtherWord file k → ⊥
  no_other_word key.Form h =
      let g = form_of f.coefficients in
      let is : ◌≡◌ {A = Option (List ℕ)} (Some h.text) (Some (form_text g)) =
      said_of (value_at key.Form file) (λ v. as_str v ≡ Some (form_text g)) (string h.text) h.held d.form in
      let same : h.text ≡ form_text g = cc in other_form h.text g same h.other
  no_other_word key.Structure h =
      let s = f.settings.structure in
      other_structure h.text s
      (spelled_as key.Structure structure_text (default_structure (form_of f.coefficients)) file s h.text
      d.settings.structure h.held) h.other
  no_other_word key.Rounding h =
      let m = f.settings.rounding in
      other_mode h.text m
      (spelled_as key.Rounding mode_text mode.Nearest file m h.text d.settings.rounding h.held) h.other
  no_other_word _ h = let is = h.words in absurd cc
