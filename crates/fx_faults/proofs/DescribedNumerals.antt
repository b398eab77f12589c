-- A table that describes a filter has no entry that is no numeral, and none that is not 1 and has to be.
use Rattle.std.proofs.Common.{◌≡◌, ◌<◌, ◌∙◌, ℕ, zero, suc, ◌+◌, ◌*◌}
use Rattle.std.proofs.Common.{true, false, List, [], ◌∷◌, ◌++◌, length, get_or, Some}
use Rattle.std.proofs.Common.{Result, Ok, Err, refl, sym, ap, subst, arith}
use Rattle.std.specs.Prelude.{IsSomeAnd, All, slice_get}
use Rattle.std.proofs.lemmas.List.Elements.{All-head, All-tail}
use Rattle.toml.specs.Data.{Data, Members}
use Rattle.toml.specs.Data.{as_array}
use Rattle.fx_decimal.specs.Faults.{Means, numeral}
use Rattle.fx_decimal.specs.declared.fault.DecimalFault.{DecimalFault}
use Rattle.fx_decimal.specs.declared.fault.DecimalFault.TheVariants as decimal
use Rattle.fx_decimal.proofs.Continued.{empty_law, bad_byte_law}
use Rattle.fx_decimal.proofs.ReadingLaws.{numeral_law, text_law}
use Rattle.fx_nums.specs.Fraction.{Fraction, is_one, zero_fraction}
use Rattle.fx_keys.specs.Numerals.{numeral_text}
use Rattle.fx_keys.specs.declared.key.Key.{Key}
use Rattle.fx_keys.specs.declared.key.Key.TheVariants as key
use Rattle.fx_keys.specs.declared.limits.TheConstants.{SECTION_COEFFICIENTS}
use Rattle.fx_files.specs.Coefficients.{form_of}
use Rattle.fx_files.specs.Describes.{DescribesOutput}
use Rattle.fx_files.specs.Describes.{Describes}
use Rattle.fx_files.specs.Filter.{Filter}
use Rattle.fx_files.specs.Holds.{value_at, Each, IsListOf}
use Rattle.fx_files.specs.Holds.{IsNumeralOf}
use Rattle.fx_files.specs.Holds.{row_after_row, AreWide}
use Rattle.fx_files.specs.declared.forms.Form.{Form}
use Rattle.fx_files.specs.declared.forms.Form.TheVariants as form
use Rattle.fx_files.proofs.Steps.{some_and}
use Rattle.fx_faults.specs.Kinds as kind
use Rattle.fx_faults.specs.Kinds.{ListOf, kind_of, entries_of}
use Rattle.fx_faults.specs.Faults.{IsNoNumeral}
use Rattle.fx_faults.specs.Faults.{IsBadNumeral, IsNotOne}
use Rattle.fx_faults.proofs.Listed.{is_array}
use Rattle.std.proofs.lemmas.Option.{get_or_from_slice_get}
use Rattle.fx_faults.proofs.CoefficientFaults.{MeanEach, mean_row, mean_rows, entry_means}
use Rattle.fx_faults.proofs.Described.{said_of, table_is}
use Rattle.fx_faults.proofs.Described.{home_of, at_home, transfer_of, cascade_of, space_of, lattice_of}

-- ---- what a text means

no_meaning : (text : List ℕ) (bad : DecimalFault) → IsNoNumeral bad text → numeral text ≡ Err bad
no_meaning text decimal.Empty h = (empty_law text).1 h
no_meaning text (decimal.BadByte at) h = (bad_byte_law text at).1 h
no_meaning text decimal.TooManyDigits h = ap numeral h.stands ∙ text_law h.parts h.proper ∙ h.value
no_meaning text decimal.TooFine h = ap numeral h.stands ∙ text_law h.parts h.proper ∙ h.value
no_meaning text decimal.TooLarge h = ap numeral h.stands ∙ text_law h.parts h.proper ∙ h.value

bad_entry : (x : Data) (text : List ℕ) (bad : DecimalFault) (c : Fraction) → numeral_text x ≡ Some text →
    IsNoNumeral bad text → IsNumeralOf c x → ⊥
bad_entry x text bad c written is_bad means =
    let read : numeral text ≡ Ok c =
    (numeral_law text c).1 (said_of (numeral_text x) (λ text. Means text (Ok c)) text written means) in
    let e : ◌≡◌ {A = Result Fraction DecimalFault} (Err bad) (Ok c) = sym (no_meaning text bad is_bad) ∙ read in
    absurd cc

pub one_number : (x : Data) (c e : Fraction) → IsNumeralOf c x → IsNumeralOf e x → c ≡ e
one_number x c e first second =
    let (text, written, means) = some_and (numeral_text x) (λ text. Means text (Ok c)) first in
    let other : Means text (Ok e) = said_of (numeral_text x) (λ text. Means text (Ok e)) text written second in
    let same : ◌≡◌ {A = Result Fraction DecimalFault} (Ok c) (Ok e) =
    sym ((numeral_law text c).1 means) ∙ (numeral_law text e).1 other in cc

-- ---- entries of lists

list_means : (cs : List Fraction) (v : Data) → IsListOf IsNumeralOf cs v →
    MeanEach cs (entries_of (ListOf kind.Numeral) v)
list_means cs v h =
    let (vs, list, each) = some_and (as_array v) (Each IsNumeralOf cs) h in
    subst (λ (x : Data). MeanEach cs (entries_of (ListOf kind.Numeral) x)) (sym (is_array v vs list))
    (mean_row cs vs each)

rows_mean : (rows : List (List Fraction)) (v : Data) → IsListOf (IsListOf IsNumeralOf) rows v →
    MeanEach (row_after_row rows) (entries_of (ListOf (ListOf kind.Numeral)) v)
rows_mean rows v h =
    let (vs, list, each) = some_and (as_array v) (Each (IsListOf IsNumeralOf) rows) h in
    subst (λ (x : Data). MeanEach (row_after_row rows) (entries_of (ListOf (ListOf kind.Numeral)) x))
    (sym (is_array v vs list)) (mean_rows rows vs each)

in_first : {A : Type 0} (n : ℕ) (xs ys : List A) → n < length xs → slice_get (xs ++ ys) n ≡ slice_get xs n
in_first n [] ys h = absurd (omega arith)
in_first zero (x ∷ xs) ys h = refl
in_first (suc n) (x ∷ xs) ys h = in_first n xs ys (omega arith)

in_second : {A : Type 0} (n m : ℕ) (xs ys : List A) → m ≡ length xs + n → slice_get (xs ++ ys) m ≡ slice_get ys n
in_second n m [] ys h = let same : m ≡ n = omega arith in rw same refl
in_second n zero (x ∷ xs) ys h = absurd (omega arith)
in_second n (suc m) (x ∷ xs) ys h = in_second n m xs ys (omega arith)

abbrev Leads : List Fraction → Type 0
Leads row = is_one (get_or row 3 zero_fraction) ≡ true

abbrev IsWide : List Fraction → Type 0
IsWide row = length row ≡ SECTION_COEFFICIENTS

-- the fourth entry of each section is 1
lead_at : (s n : ℕ) (rows : List (List Fraction)) (c : Fraction) → n ≡ 6 * s + 3 → AreWide SECTION_COEFFICIENTS rows →
    All Leads rows → slice_get (row_after_row rows) n ≡ Some c → is_one c ≡ true
lead_at s n [] c is wide lead there = absurd cc
lead_at zero n (r ∷ rs) c is wide lead there =
    let width : length r ≡ 6 = All-head IsWide r rs wide in
    let three : n ≡ 3 = omega arith in
    let at : slice_get r 3 ≡ Some c =
    sym (in_first 3 r (row_after_row rs) (omega arith))
    ∙ subst (λ (x : ℕ). slice_get (row_after_row (r ∷ rs)) x ≡ Some c) three there in
    let same : get_or r 3 zero_fraction ≡ c = get_or_from_slice_get r 3 c zero_fraction at in
    subst (λ (x : Fraction). is_one x ≡ true) same (All-head Leads r rs lead)
lead_at (suc s) n (r ∷ rs) c is wide lead there =
    let width : length r ≡ 6 = All-head IsWide r rs wide in
    let behind : n ≡ length r + (6 * s + 3) = omega arith in
    lead_at s (6 * s + 3) rs c refl (All-tail IsWide r rs wide) (All-tail Leads r rs lead)
    (sym (in_second (6 * s + 3) n r (row_after_row rs) behind) ∙ there)

-- ---- of a described table

module _ (file : Members) (f : Filter) (d : Describes file f) where
  abbrev m : ℕ
  m = length f.inputs

  abbrev p : ℕ
  p = length f.outputs

  -- what the entries of a key of coefficients mean
  numerals_held : (k : Key) (home : Form) (v : Data) → home_of k ≡ Some home → value_at k file ≡ Some v →
      (cs : List Fraction) × MeanEach cs (entries_of (kind_of k) v)
  numerals_held key.B home v own there =
      let same : form.Tf ≡ home = cc in
      let here : form.Tf ≡ form_of f.coefficients = same ∙ at_home file f key.B home v d own there in
      let (b, a, is) = transfer_of m p file f.coefficients d.coefficients here in
      (b, list_means b v (said_of (value_at key.B file) _ v there is.numerator.entries))
  numerals_held key.A home v own there =
      let same : form.Tf ≡ home = cc in
      let here : form.Tf ≡ form_of f.coefficients = same ∙ at_home file f key.A home v d own there in
      let (b, a, is) = transfer_of m p file f.coefficients d.coefficients here in
      (a, list_means a v (said_of (value_at key.A file) _ v there is.denominator.entries))
  numerals_held key.Sections home v own there =
      let same : form.Sos ≡ home = cc in
      let here : form.Sos ≡ form_of f.coefficients = same ∙ at_home file f key.Sections home v d own there in
      let (cs, is) = cascade_of m p file f.coefficients d.coefficients here in
      (row_after_row is.rows, rows_mean is.rows v (said_of (value_at key.Sections file) _ v there is.held))
  numerals_held key.MatA home v own there =
      let same : form.Ss ≡ home = cc in
      let here : form.Ss ≡ form_of f.coefficients = same ∙ at_home file f key.MatA home v d own there in
      let s = space_of m p file f.coefficients d.coefficients here in
      let held = s.space.state in
      (row_after_row held.rows, rows_mean held.rows v (said_of (value_at key.MatA file) _ v there held.held))
  numerals_held key.MatB home v own there =
      let same : form.Ss ≡ home = cc in
      let here : form.Ss ≡ form_of f.coefficients = same ∙ at_home file f key.MatB home v d own there in
      let s = space_of m p file f.coefficients d.coefficients here in
      let held = s.space.input in
      (row_after_row held.rows, rows_mean held.rows v (said_of (value_at key.MatB file) _ v there held.held))
  numerals_held key.MatC home v own there =
      let same : form.Ss ≡ home = cc in
      let here : form.Ss ≡ form_of f.coefficients = same ∙ at_home file f key.MatC home v d own there in
      let s = space_of m p file f.coefficients d.coefficients here in
      let held = s.space.output in
      (row_after_row held.rows, rows_mean held.rows v (said_of (value_at key.MatC file) _ v there held.held))
  numerals_held key.MatD home v own there =
      let same : form.Ss ≡ home = cc in
      let here : form.Ss ≡ form_of f.coefficients = same ∙ at_home file f key.MatD home v d own there in
      let s = space_of m p file f.coefficients d.coefficients here in
      let held = s.space.through in
      (row_after_row held.rows, rows_mean held.rows v (said_of (value_at key.MatD file) _ v there held.held))
  numerals_held key.K home v own there =
      let same : form.Lattice ≡ home = cc in
      let here : form.Lattice ≡ form_of f.coefficients = same ∙ at_home file f key.K home v d own there in
      let (ks, vs, is) = lattice_of m p file f.coefficients d.coefficients here in
      (ks, list_means ks v (said_of (value_at key.K file) _ v there is.reflections))
  numerals_held key.V home v own there =
      let same : form.Lattice ≡ home = cc in
      let here : form.Lattice ≡ form_of f.coefficients = same ∙ at_home file f key.V home v d own there in
      let (ks, vs, is) = lattice_of m p file f.coefficients d.coefficients here in
      (vs, list_means vs v (said_of (value_at key.V file) _ v there is.taps))
  numerals_held _ home v own there = absurd cc

  -- the entry of a key of coefficients at a place is a numeral
  entry_held : (k : Key) (home : Form) (place : ℕ) (x : Data) → home_of k ≡ Some home →
      IsSomeAnd (value_at k file) (λ v. slice_get (entries_of (kind_of k) v) place ≡ Some x) →
      (c : Fraction) × IsNumeralOf c x
  entry_held k home place x own h =
      let (v, there, at) = some_and (value_at k file) (λ v. slice_get (entries_of (kind_of k) v) place ≡ Some x) h in
      let (cs, mean) = numerals_held k home v own there in
      let (c, found, means) = entry_means place cs (entries_of (kind_of k) v) x mean at in
      (c, means)

  pub none_bad : (k : Key) (place : ℕ) (bad : DecimalFault) → IsBadNumeral file k place bad → ⊥
  none_bad key.OutputsError place bad h =
      let v = h.held in
      let (o, at, is) =
      table_is (DescribesOutput f.input_low) f.outputs file key.Outputs place v.owner d.outputs.held v.stands in
      bad_entry h.value h.text bad o.error h.written h.no_numeral
      (said_of (value_at key.OutputsError v.owner) (IsNumeralOf o.error) h.value v.held is.error)
  none_bad key.B place bad h =
      let (c, means) = entry_held key.B form.Tf place h.value refl h.held in
      bad_entry h.value h.text bad c h.written h.no_numeral means
  none_bad key.A place bad h =
      let (c, means) = entry_held key.A form.Tf place h.value refl h.held in
      bad_entry h.value h.text bad c h.written h.no_numeral means
  none_bad key.Sections place bad h =
      let (c, means) = entry_held key.Sections form.Sos place h.value refl h.held in
      bad_entry h.value h.text bad c h.written h.no_numeral means
  none_bad key.MatA place bad h =
      let (c, means) = entry_held key.MatA form.Ss place h.value refl h.held in
      bad_entry h.value h.text bad c h.written h.no_numeral means
  none_bad key.MatB place bad h =
      let (c, means) = entry_held key.MatB form.Ss place h.value refl h.held in
      bad_entry h.value h.text bad c h.written h.no_numeral means
  none_bad key.MatC place bad h =
      let (c, means) = entry_held key.MatC form.Ss place h.value refl h.held in
      bad_entry h.value h.text bad c h.written h.no_numeral means
  none_bad key.MatD place bad h =
      let (c, means) = entry_held key.MatD form.Ss place h.value refl h.held in
      bad_entry h.value h.text bad c h.written h.no_numeral means
  none_bad key.K place bad h =
      let (c, means) = entry_held key.K form.Lattice place h.value refl h.held in
      bad_entry h.value h.text bad c h.written h.no_numeral means
  none_bad key.V place bad h =
      let (c, means) = entry_held key.V form.Lattice place h.value refl h.held in
      bad_entry h.value h.text bad c h.written h.no_numeral means
  none_bad _ place bad h = absurd h.numerals

  -- ---- entries that are 1

  pub each_one : (k : Key) (place : ℕ) → IsNotOne file k place → ⊥
  each_one key.A place h =
      let (v, there, at) = some_and (value_at key.A file) (λ v.
      slice_get (entries_of (kind_of key.A) v) place ≡ Some h.value) h.held in
      let here : form.Tf ≡ form_of f.coefficients = at_home file f key.A form.Tf v d refl there in
      let (b, a, is) = transfer_of m p file f.coefficients d.coefficients here in
      let mean = list_means a v (said_of (value_at key.A file) _ v there is.denominator.entries) in
      let (c, found, means) = entry_means place a (entries_of (kind_of key.A) v) h.value mean at in
      let first : slice_get a 0 ≡ Some c = subst (λ (n : ℕ). slice_get a n ≡ Some c) h.one found in
      let same : get_or a 0 zero_fraction ≡ c = get_or_from_slice_get a 0 c zero_fraction first in
      let one : is_one c ≡ true = subst (λ (x : Fraction). is_one x ≡ true) same is.leads in
      let other : is_one c ≡ false =
      subst (λ (x : Fraction). is_one x ≡ false) (one_number h.value h.number c h.means means) h.other in absurd cc
  each_one key.Sections place h =
      let (v, there, at) = some_and (value_at key.Sections file) (λ v.
      slice_get (entries_of (kind_of key.Sections) v) place ≡ Some h.value) h.held in
      let here : form.Sos ≡ form_of f.coefficients = at_home file f key.Sections form.Sos v d refl there in
      let (cs, is) = cascade_of m p file f.coefficients d.coefficients here in
      let all = row_after_row is.rows in
      let mean = rows_mean is.rows v (said_of (value_at key.Sections file) _ v there is.held) in
      let (c, found, means) = entry_means place all (entries_of (kind_of key.Sections) v) h.value mean at in
      let one : is_one c ≡ true = lead_at h.one.0 place is.rows c h.one.1 is.wide is.lead found in
      let other : is_one c ≡ false =
      subst (λ (x : Fraction). is_one x ≡ false) (one_number h.value h.number c h.means means) h.other in absurd cc
  each_one _ place h = absurd h.one
