-- A table that describes a filter has no number and no count past a limit, and no fault is true of it.
use Rattle.std.proofs.Common.{◌≡◌, ◌≤◌, ◌<◌, ◌∙◌, ℕ, zero, suc, ℤ, pos, ◌<ℤ◌}
use Rattle.std.proofs.Common.{true, List, length, Option, Some}
use Rattle.std.proofs.Common.{None, Result, Ok, Err, refl, sym, ap, subst, arith, inl, inr}
use Rattle.std.specs.Prelude.{MatchOption, flat_map, slice_get, ◌-ℤ◌}
use Rattle.std.proofs.lemmas.Bool.Decides.{nat_tests}
use Rattle.std.proofs.lemmas.Int.{ints}
use Rattle.toml.specs.Data.{Data, Members, Items, no_items, item, integer, get_item}
use Rattle.toml.specs.Data.{as_integer, as_array}
use Rattle.fx_math.specs.Words.{is_accumulator}
use Rattle.fx_nums.specs.Fraction.{Fraction}
use Rattle.fx_keys.specs.Keys.{IsWithin, range_of, most_of, default_of, default_list_of}
use Rattle.fx_keys.specs.declared.fault.FilterFault.{FilterFault}
use Rattle.fx_keys.specs.declared.fault.FilterFault.TheVariants as fault
use Rattle.fx_keys.specs.declared.key.Key.{Key}
use Rattle.fx_keys.specs.declared.key.Key.TheVariants as key
use Rattle.fx_keys.specs.declared.limits.Range.{Range}
use Rattle.fx_keys.specs.declared.limits.TheConstants.{LOWS, LOW_DIFFERENCES}
use Rattle.fx_files.specs.Describes.{DescribesInput, DescribesOutput, IsNear}
use Rattle.fx_files.specs.Describes.{Describes}
use Rattle.fx_files.specs.Filter.{Filter}
use Rattle.fx_files.specs.Holds.{value_at, Each, HoldsInteger}
use Rattle.fx_files.specs.Holds.{HoldsWhole, IsNaturalOf, AreNaturals, HoldsNaturals, IsNumeralOf}
use Rattle.fx_files.specs.Ports.{bounds_of, top_word}
use Rattle.fx_files.specs.declared.forms.Form.TheVariants as form
use Rattle.fx_files.proofs.Steps.{some_and}
use Rattle.fx_faults.specs.Kinds as kind
use Rattle.fx_faults.specs.Kinds.{ListOf, entries_of, listed}
use Rattle.fx_faults.specs.Places.{HasCount}
use Rattle.fx_faults.specs.Faults.{IsPast}
use Rattle.fx_faults.specs.Faults.{IsOutOfRange, IsTooLong, IsNoAccumulator, IsFarFromInputs}
use Rattle.fx_faults.specs.Faults.{IsWiderThanAccumulator, IsNegativeError, IsPastLimit, IsTrueOf}
use Rattle.fx_faults.proofs.Listed.{is_array}
use Rattle.fx_faults.specs.Laws.{FaultlessLaw}
use Rattle.fx_files.specs.Reading.{filter_in}
use Rattle.fx_files.proofs.HeldFilter.{filter_read}
use Rattle.fx_faults.proofs.NumberFaults.{not_past}
use Rattle.fx_faults.proofs.FileFaults.{fault_true}
use Rattle.fx_faults.proofs.Described.{own_there}
use Rattle.fx_faults.proofs.Described.{said, said_of, each_at, table_is}
use Rattle.fx_faults.proofs.Described.{transfer_of, cascade_of, space_of, lattice_of}
use Rattle.fx_faults.proofs.DescribedKeys.{none_missing, none_unknown, none_other, no_other_word}
use Rattle.fx_faults.proofs.DescribedNumerals.{one_number, none_bad, each_one}
use Rattle.fx_faults.proofs.DescribedCounts.{all_at, home, inputs_count, outputs_count, naturals_count, numerals_count}
use Rattle.fx_faults.proofs.DescribedCounts.{rows_count, none_misshapen}

-- ---- whole numbers

same_integer : (y z : ℤ) → ◌≡◌ {A = Option ℤ} (Some y) (Some z) → y ≡ z
same_integer y z h = cc

one_of : (default : Option ℤ) (o : Option Data) (y z : ℤ) →
    MatchOption o (default ≡ Some y) (λ v. as_integer v ≡ Some y) →
    MatchOption o (default ≡ Some z) (λ v. as_integer v ≡ Some z) → y ≡ z
one_of default None y z a b = same_integer y z (sym a ∙ b)
one_of default (Some v) y z a b = same_integer y z (sym a ∙ b)

-- a key has one whole number
one_integer : (k : Key) (default : Option ℤ) (t : Members) (y z : ℤ) → HoldsInteger k default t y →
    HoldsInteger k default t z → y ≡ z
one_integer k default t y z a b = one_of default (value_at k t) y z a b

-- the number that stands at a key is the one that is held
number_is : (k : Key) (default : Option ℤ) (t : Members) (v : Data) (got z : ℤ) → value_at k t ≡ Some v →
    as_integer v ≡ Some got → HoldsInteger k default t z → got ≡ z
number_is k default t v got z there is held =
    same_integer got z (sym is ∙ said (default ≡ Some z) (value_at k t) (λ v. as_integer v ≡ Some z) v there held)

only_entry : (n : ℕ) (v : Data) (got : ℤ) → slice_get (entries_of kind.Whole v) n ≡ Some (integer got) →
    as_integer v ≡ Some got
only_entry zero v got h = let same : v ≡ integer got = cc in ap as_integer same
only_entry (suc n) v got h = absurd cc

whole_entry : (n : ℕ) (vs : Items) (x : Data) →
    slice_get (flat_map (entries_of kind.Whole) (listed vs)) n ≡ Some x → get_item n vs ≡ Some x
whole_entry n no_items x h = absurd cc
whole_entry zero (item v vs) x h = h
whole_entry (suc n) (item v vs) x h = whole_entry n vs x h

-- a whole number of a range
held_within : (k : Key) (range : Range) (default : Option ℤ) (t : Members) (z : ℤ) (v : Data) (n : ℕ) (got limit : ℤ) →
    HoldsWhole k range default t z → value_at k t ≡ Some v →
    slice_get (entries_of kind.Whole v) n ≡ Some (integer got) → IsPast range got limit → ⊥
held_within k range default t z v n got limit h there among past =
    let same : z ≡ got = sym (number_is k default t v got z there (only_entry n v got among) h.number) in
    not_past range got limit (subst (IsWithin range) same h.within) past

-- entries of a list of whole numbers
entries_within : (k : Key) (t : Members) (ns : List ℕ) (v : Data) (n : ℕ) (got limit : ℤ) → HoldsNaturals k t ns →
    value_at k t ≡ Some v → slice_get (entries_of (ListOf kind.Whole) v) n ≡ Some (integer got) →
    IsPast (range_of k) got limit → ⊥
entries_within k t ns v n got limit h there among past =
    let a : AreNaturals k ns v = said (default_list_of k ≡ Some ns) (value_at k t) (AreNaturals k ns) v there h in
    let (vs, list, each) = some_and (as_array v) (Each (IsNaturalOf k) ns) a.entries in
    let at : slice_get (flat_map (entries_of kind.Whole) (listed vs)) n ≡ Some (integer got) =
    subst (λ (x : Data). slice_get (entries_of (ListOf kind.Whole) x) n ≡ Some (integer got)) (is_array v vs list)
    among in
    let (x, found, is) = each_at (IsNaturalOf k) ns vs n (integer got) each (whole_entry n vs (integer got) at) in
    let same : pos x ≡ got = same_integer (pos x) got (sym is.number) in
    not_past (range_of k) got limit (subst (IsWithin (range_of k)) same is.within) past

-- an accumulator of a listed number of bits is within the range
listed_within : (bits : ℕ) → is_accumulator bits ≡ true → IsWithin (range_of key.Accumulator) (pos bits)
listed_within bits h =
    let low : 16 ≤ bits = grind (arith, nat_tests, h) in
    let high : bits ≤ 64 = grind (arith, nat_tests, h) in
    (omega (arith, ints), omega (arith, ints))

too_many : (n most : ℕ) → n ≤ most → most < n → ⊥
too_many n most few above = omega arith

-- ---- of a described table

module _ (file : Members) (f : Filter) (d : Describes file f) where
  abbrev m : ℕ
  m = length f.inputs

  abbrev p : ℕ
  p = length f.outputs

  -- a key of which no count is limited
  no_most : (k : Key) (got limit : ℤ) → most_of k ≡ 0 → ¬ IsTooLong file k got limit
  no_most k got limit none h =
      let some : 1 ≤ most_of k = h.limited in let zeros : 1 ≤ 0 = subst (λ (n : ℕ). 1 ≤ n) none some in omega arith

  count_past : (k : Key) (got limit : ℤ) → ((n : ℕ) → HasCount file k n → n ≤ most_of k) → ¬ IsTooLong file k got limit
  count_past k got limit few h = too_many h.count (most_of k) (few h.count h.found) h.above

  -- ---- numbers out of range

  none_out : (k : Key) (got limit : ℤ) → IsOutOfRange file k got limit → ⊥
  none_out key.InputLow got limit h =
      let v = h.held in
      held_within key.InputLow (range_of key.InputLow) (default_of key.InputLow) file f.input_low h.value h.entry got
      limit d.input_low (own_there file key.InputLow v.owner h.value v.stands v.held) h.among
      (subst (λ (r : Range). IsPast r got limit) h.ranged h.past)
  none_out key.Word got limit h =
      let v = h.held in
      held_within key.Word (range_of key.Word) (default_of key.Word) file (pos f.settings.word) h.value h.entry got
      limit d.settings.word (own_there file key.Word v.owner h.value v.stands v.held) h.among
      (subst (λ (r : Range). IsPast r got limit) h.ranged h.past)
  none_out key.Accumulator got limit h =
      let v = h.held in
      let there = own_there file key.Accumulator v.owner h.value v.stands v.held in
      let bits = f.settings.accumulator in
      let same : pos bits ≡ got =
      sym (number_is key.Accumulator (default_of key.Accumulator) file h.value got (pos bits) there
      (only_entry h.entry h.value got h.among) d.settings.accumulator) in
      let past : IsPast (range_of key.Accumulator) got limit =
      subst (λ (r : Range). IsPast r got limit) h.ranged h.past in
      not_past (range_of key.Accumulator) got limit
      (subst (IsWithin (range_of key.Accumulator)) same (listed_within bits d.settings.is_listed)) past
  none_out key.InputsWidth got limit h =
      let v = h.held in
      let (i, at, is) = table_is DescribesInput f.inputs file key.Inputs h.place v.owner d.inputs.held v.stands in
      held_within key.InputsWidth (range_of key.InputsWidth) None v.owner (pos i.width) h.value h.entry got limit
      is.width
      v.held h.among (subst (λ (r : Range). IsPast r got limit) h.ranged h.past)
  none_out key.InputsBound got limit h =
      let v = h.held in
      let (i, at, is) = table_is DescribesInput f.inputs file key.Inputs h.place v.owner d.inputs.held v.stands in
      let (width, held, range) = h.ranged in
      let same : ◌≡◌ {A = ℤ} (pos width) (pos i.width) =
      one_integer key.InputsWidth None v.owner (pos width) (pos i.width) held.number is.width.number in
      let wide : width ≡ i.width = cc in
      let past : IsPast (bounds_of i.width) got limit =
      subst (λ (r : Range). IsPast r got limit) (range ∙ ap bounds_of wide) h.past in
      held_within key.InputsBound (bounds_of i.width) (Some (top_word i.width)) v.owner i.bound h.value h.entry got
      limit is.bound v.held h.among past
  none_out key.OutputsWidth got limit h =
      let v = h.held in
      let (o, at, is) =
      table_is (DescribesOutput f.input_low) f.outputs file key.Outputs h.place v.owner d.outputs.held v.stands in
      held_within key.OutputsWidth (range_of key.OutputsWidth) None v.owner (pos o.width) h.value h.entry got limit
      is.width v.held h.among (subst (λ (r : Range). IsPast r got limit) h.ranged h.past)
  none_out key.OutputsLow got limit h =
      let v = h.held in
      let (o, at, is) =
      table_is (DescribesOutput f.input_low) f.outputs file key.Outputs h.place v.owner d.outputs.held v.stands in
      held_within key.OutputsLow LOWS (Some f.input_low) v.owner o.low h.value h.entry got limit is.low v.held h.among
      (subst (λ (r : Range). IsPast r got limit) h.ranged h.past)
  none_out key.Guards got limit h =
      let v = h.held in
      entries_within key.Guards file f.settings.guards h.value h.entry got limit d.settings.guards
      (own_there file key.Guards v.owner h.value v.stands v.held) h.among
      (subst (λ (r : Range). IsPast r got limit) h.ranged h.past)
  none_out key.Fractions got limit h =
      let v = h.held in
      entries_within key.Fractions file f.settings.fractions h.value h.entry got limit d.settings.fractions
      (own_there file key.Fractions v.owner h.value v.stands v.held) h.among
      (subst (λ (r : Range). IsPast r got limit) h.ranged h.past)
  none_out key.Lengths got limit h =
      let v = h.held in
      entries_within key.Lengths file f.settings.lengths h.value h.entry got limit d.settings.lengths
      (own_there file key.Lengths v.owner h.value v.stands v.held) h.among
      (subst (λ (r : Range). IsPast r got limit) h.ranged h.past)
  none_out _ got limit h = absurd h.whole

  -- ---- outputs beside the inputs and the accumulator

  none_far : (got limit : ℤ) → IsFarFromInputs file got limit → ⊥
  none_far got limit h =
      let v = h.held in
      let (o, at, is) =
      table_is (DescribesOutput f.input_low) f.outputs file key.Outputs h.place v.owner d.outputs.held v.stands in
      let near : IsNear f.input_low f.settings.accumulator o =
      all_at (IsNear f.input_low f.settings.accumulator) h.place f.outputs o d.near at in
      let low : h.low ≡ o.low =
      number_is key.OutputsLow (Some f.input_low) v.owner (integer h.low) h.low o.low v.held refl is.low.number in
      let input : h.input_low ≡ f.input_low =
      one_integer key.InputLow (default_of key.InputLow) file h.input_low f.input_low h.inputs d.input_low.number in
      let same : f.input_low -ℤ o.low ≡ got = rw (h.difference, low, input) refl in
      not_past LOW_DIFFERENCES got limit (subst (IsWithin LOW_DIFFERENCES) same near.low) h.past

  none_wider : (got limit : ℤ) → IsWiderThanAccumulator file got limit → ⊥
  none_wider got limit h =
      let v = h.held in
      let bits = f.settings.accumulator in
      let (o, at, is) =
      table_is (DescribesOutput f.input_low) f.outputs file key.Outputs h.place v.owner d.outputs.held v.stands in
      let near : IsNear f.input_low bits o = all_at (IsNear f.input_low bits) h.place f.outputs o d.near at in
      let width : got ≡ pos o.width =
      number_is key.OutputsWidth None v.owner (integer got) got (pos o.width) v.held refl is.width.number in
      let accumulator : limit ≡ pos bits =
      one_integer key.Accumulator (default_of key.Accumulator) file limit (pos bits) h.accumulator
      d.settings.accumulator in
      let above : pos bits <ℤ pos o.width =
      subst (λ (x : ℤ). pos bits <ℤ x) width (subst (λ (x : ℤ). x <ℤ got) accumulator h.above) in
      let narrow = near.width in omega (arith, ints)

  none_negative : (got limit : ℤ) → IsNegativeError file got limit → ⊥
  none_negative got limit h =
      let v = h.held in
      let (o, at, is) =
      table_is (DescribesOutput f.input_low) f.outputs file key.Outputs h.place v.owner d.outputs.held v.stands in
      let means = said_of (value_at key.OutputsError v.owner) (IsNumeralOf o.error) h.value v.held is.error in
      let same : h.number ≡ o.error = one_number h.value h.number o.error h.means means in
      let below : o.error.num <ℤ pos 0 = subst (λ (x : Fraction). x.num <ℤ pos 0) same h.negative in
      let above = is.not_negative in omega (arith, ints)

  no_other_accumulator : (got limit : ℤ) → IsNoAccumulator file got limit → ⊥
  no_other_accumulator got limit h =
      let bits = f.settings.accumulator in
      let same : got ≡ pos bits =
      number_is key.Accumulator (default_of key.Accumulator) file (integer got) got (pos bits) h.held refl
      d.settings.accumulator in
      h.other bits d.settings.is_listed same

  -- ---- counts

  few_of : (n most count : ℕ) → n ≡ count → n ≤ most → count ≤ most
  few_of n most count same few = subst (λ (x : ℕ). x ≤ most) same few

  pub none_past : (k : Key) (got limit : ℤ) → IsPastLimit file k got limit → ⊥
  none_past key.Accumulator got limit h = no_other_accumulator got limit h
  none_past key.OutputsError got limit h = none_negative got limit h
  none_past key.OutputsLow got limit (inr h) = none_far got limit h
  none_past key.OutputsWidth got limit (inr h) = none_wider got limit h
  none_past key.Inputs got limit (inr h) = count_past key.Inputs got limit (λ n count.
      few_of m (most_of key.Inputs) n (inputs_count file f d n count) d.inputs.count.few) h
  none_past key.Outputs got limit (inr h) = count_past key.Outputs got limit (λ n count.
      few_of p (most_of key.Outputs) n (outputs_count file f d n count) d.outputs.count.few) h
  none_past key.Guards got limit (inr h) = count_past key.Guards got limit (λ n count.
      (naturals_count file f d key.Guards f.settings.guards n d.settings.guards count).few) h
  none_past key.Fractions got limit (inr h) = count_past key.Fractions got limit (λ n count.
      (naturals_count file f d key.Fractions f.settings.fractions n d.settings.fractions count).few) h
  none_past key.Lengths got limit (inr h) = count_past key.Lengths got limit (λ n count.
      (naturals_count file f d key.Lengths f.settings.lengths n d.settings.lengths count).few) h
  none_past key.B got limit (inr h) = count_past key.B got limit (λ n count.
      let (b, a, is) =
      transfer_of m p file f.coefficients d.coefficients (home file f d key.B form.Tf n refl count) in
      few_of (length b) (most_of key.B) n (numerals_count file f d key.B b n is.numerator.entries count)
      is.numerator.count.few) h
  none_past key.A got limit (inr h) = count_past key.A got limit (λ n count.
      let (b, a, is) =
      transfer_of m p file f.coefficients d.coefficients (home file f d key.A form.Tf n refl count) in
      few_of (length a) (most_of key.A) n (numerals_count file f d key.A a n is.denominator.entries count)
      is.denominator.count.few) h
  none_past key.Sections got limit (inr h) = count_past key.Sections got limit (λ n count.
      let (cs, is) =
      cascade_of m p file f.coefficients d.coefficients (home file f d key.Sections form.Sos n refl count) in
      few_of (length is.rows) (most_of key.Sections) n (rows_count file f d key.Sections is.rows n is.held count)
      is.count.few) h
  none_past key.MatA got limit (inr h) = count_past key.MatA got limit (λ n count.
      let s = space_of m p file f.coefficients d.coefficients (home file f d key.MatA form.Ss n refl count) in
      let rows = s.space.state in
      few_of s.n (most_of key.MatA) n (sym rows.high ∙ rows_count file f d key.MatA rows.rows n rows.held count)
      s.space.states.few) h
  none_past key.K got limit (inr h) = count_past key.K got limit (λ n count.
      let (ks, vs, is) =
      lattice_of m p file f.coefficients d.coefficients (home file f d key.K form.Lattice n refl count) in
      few_of (length ks) (most_of key.K) n (numerals_count file f d key.K ks n is.reflections count) is.few) h
  none_past k got limit (inl h) = none_out k got limit h
  none_past k got limit (inr h) = no_most k got limit refl h

  -- ---- all faults

  none_true : (told : FilterFault) → IsTrueOf file told → ⊥
  none_true (fault.Missing k) h = none_missing file f d k h
  none_true (fault.WrongKind k) h = none_other file f d k h
  none_true (fault.Numeral k place bad) h = none_bad file f d k place bad h
  none_true (fault.NotMonic k place) h = each_one file f d k place h
  none_true (fault.Shape k got wanted) h = none_misshapen file f d k got wanted h
  none_true (fault.Limit k got limit) h = none_past k got limit h
  none_true (fault.UnknownKey text) h = none_unknown file f d text h
  none_true (fault.UnknownWord k) h = no_other_word file f d k h
  none_true fault.NotToml h = h
  none_true fault.NoMemory h = h

-- what is read, or what is told, decides
described_by : (file : Members) (r : Result Filter FilterFault) → filter_in file ≡ r →
    ((told : FilterFault) → ¬ IsTrueOf file told) → (f : Filter) × Describes file f
described_by file (Ok f) same none = (f, filter_read file f same)
described_by file (Err told) same none = absurd (none told (fault_true file told same))

pub faultless_law : FaultlessLaw
faultless_law file =
    (λ (h : (f : Filter) × Describes file f) told. none_true file h.0 h.1 told, described_by file (filter_in file) refl)
