-- What is told of settings, of parts that have to agree, and of a whole file, is true.
use Rattle.std.proofs.Common.{◌≡◌, ◌≢◌, ◌<◌, ◌∙◌, ℕ, suc, ℤ, pos}
use Rattle.std.proofs.Common.{Bool, true, false, List, [], ◌∷◌, length, Option, Some, None}
use Rattle.std.proofs.Common.{Result, Ok, Err, refl, sym, ap, subst, arith, lit≤, inl, inr}
use Rattle.std.specs.Prelude.{IsSomeAnd, nat_le, T}
use Rattle.std.specs.Int.Signed.{lt_z, lt_z_yes}
use Rattle.std.proofs.lemmas.Bool.{cases_Bool}
use Rattle.std.proofs.lemmas.Bool.Decides.{nat_tests}
use Rattle.std.proofs.lemmas.Int.{ints}
use Rattle.toml.specs.Data.{Data, Members, Items, no_items, item, table, get_item, as_array}
use Rattle.fx_math.specs.Faults.{◌>>=◌, unless}
use Rattle.fx_keys.specs.Keys.{IsWithin, range_of, default_of}
use Rattle.fx_keys.specs.Wholes.{integer_or, natural_in}
use Rattle.fx_keys.specs.Wholes.{naturals_in}
use Rattle.fx_keys.specs.declared.fault.FilterFault.{FilterFault}
use Rattle.fx_keys.specs.declared.fault.FilterFault.TheVariants.{Shape, Limit}
use Rattle.fx_keys.specs.declared.key.Key.{Key}
use Rattle.fx_keys.specs.declared.key.Key.TheVariants as key
use Rattle.fx_files.specs.Describes.{HoldsForm}
use Rattle.fx_files.specs.Holds.{value_at, HoldsInteger}
use Rattle.fx_files.specs.declared.forms.Form.{Form}
use Rattle.fx_files.proofs.Steps.{fault_ok, fault_err, test_err, in_step, some_and}
use Rattle.fx_files.proofs.HeldNumbers.{integer_read}
use Rattle.fx_faults.specs.Places.{IsTableAt, HasCount, IsFixedCount}
use Rattle.fx_faults.specs.Faults.{IsPast}
use Rattle.fx_faults.specs.Faults.{IsTrueOf}
use Rattle.fx_faults.proofs.Listed.{is_integer}
use Rattle.std.specs.Prelude.{◌-ℤ◌, not}
use Rattle.std.specs.Str.{is_utf8}
use Rattle.toml.specs.Data.{as_table}
use Rattle.toml.specs.Parse.{parse_document}
use Rattle.fx_math.specs.Words.{is_accumulator}
use Rattle.fx_keys.specs.Table.{table_at}
use Rattle.fx_keys.specs.declared.fault.FilterFault.TheVariants.{NotToml}
use Rattle.fx_keys.specs.declared.limits.TheConstants.{LOW_DIFFERENCES}
use Rattle.fx_files.specs.Describes.{DescribesInput}
use Rattle.fx_files.specs.Filter.{Filter}
use Rattle.fx_files.specs.Head.{head_in}
use Rattle.fx_files.specs.Holds.{Each, IsListOf, IsTableOf}
use Rattle.fx_files.specs.Lists.{coefficients_in}
use Rattle.fx_files.specs.Ports.{Ports, ports_in, alone, single, output_fits, outputs_fit}
use Rattle.fx_files.specs.Reading.{filter_in, filter_of_bytes}
use Rattle.fx_files.specs.Settings.{is_listed, structure_in, mode_in, accumulator_in, settings_in}
use Rattle.fx_files.specs.declared.forms.Form.TheVariants as form
use Rattle.fx_files.proofs.HeldChoices.{head_read, settings_read}
use Rattle.fx_files.proofs.HeldFilter.{filter_stands}
use Rattle.fx_files.proofs.HeldNumbers.{count_of}
use Rattle.fx_files.proofs.HeldTables.{DescribesEntry, PortsHeld, ports_read}
use Rattle.fx_faults.specs.Faults.{IsTextOf, IsNoTable, IsTrueOfFile}
use Rattle.fx_faults.specs.Laws.{FaultsAreTrue, NoTableLaw, NoneIsDescribed}
use Rattle.fx_faults.proofs.Listed.{is_table}
use Rattle.fx_files.proofs.HeldNumbers.{integer_read}
use Rattle.fx_faults.proofs.NumberFaults.{integer_true, there_or_default, natural_true, numbers_true, not_past}
use Rattle.fx_faults.proofs.WordFaults.{head_true, structure_true, mode_true}
use Rattle.fx_faults.proofs.PortFaults.{ports_true}
use Rattle.fx_faults.proofs.CoefficientFaults.{coefficients_true}

-- ---- counts of inputs and outputs

list_count : {A : Type 0} (says : A → Data → Type 0) (xs : List A) (file : Members) (k : Key) →
    IsSomeAnd (value_at k file) (IsListOf says xs) → HasCount file k (length xs)
list_count says xs file k h =
    let (v, there, is) = some_and (value_at k file) (IsListOf says xs) h in
    let (vs, list, each) = some_and (as_array v) (Each says xs) is in
    rw (there, list) (count_of says xs vs each)

alone_true : (file : Members) (form : Form) (k : Key) (n : ℕ) (f : FilterFault) → HoldsForm file form →
    HasCount file k n → IsFixedCount file form k 1 → alone k n ≡ Err f → IsTrueOf file f
alone_true file form k n f named count fixed h =
    let (test, e) = test_err (Shape k n 1) f (nat_le n 1) h in
    subst (IsTrueOf file) e (
      (λ same. absurd (grind (arith, nat_tests))),
      inr (inl (record { form = form; named = named; found = count; fixed = fixed })),
    )

both_true : (file : Members) (fm : Form) (m p : ℕ) (f : FilterFault) → HoldsForm file fm → fm ≢ form.Ss →
    HasCount file key.Inputs m → HasCount file key.Outputs p →
    (alone key.Inputs m >>= (λ u. alone key.Outputs p)) ≡ Err f → IsTrueOf file f
both_true file fm m p f named other ins outs h =
    in_step (alone key.Inputs m) (λ u. alone key.Outputs p) f h
    (alone_true file fm key.Inputs m f named ins (other, refl))
    (λ u one past_one. alone_true file fm key.Outputs p f named outs (other, refl) past_one)

single_true : (file : Members) (form : Form) (m p : ℕ) (f : FilterFault) → HoldsForm file form →
    HasCount file key.Inputs m → HasCount file key.Outputs p → single form m p ≡ Err f → IsTrueOf file f
unfolding single
single_true file form.Tf m p f named ins outs h = both_true file form.Tf m p f named (λ e. absurd cc) ins outs h
single_true file form.Sos m p f named ins outs h = both_true file form.Sos m p f named (λ e. absurd cc) ins outs h
single_true file form.Ss m p f named ins outs h = absurd cc
single_true file form.Lattice m p f named ins outs h =
    both_true file form.Lattice m p f named (λ e. absurd cc) ins outs h

-- ---- settings

listed_not : (z : ℤ) (bits : ℕ) → is_listed z ≡ false → is_accumulator bits ≡ true → z ≢ pos bits
listed_not z bits h is same =
    let e : is_listed (pos bits) ≡ false = subst (λ (x : ℤ). is_listed x ≡ false) same h in absurd cc

accumulator_true : (file : Members) (f : FilterFault) → accumulator_in file ≡ Err f → IsTrueOf file f
accumulator_true file f h =
    let default = default_of key.Accumulator in
    in_step (integer_or key.Accumulator default file) _ f h
    (integer_true file key.Accumulator 0 file default f refl refl (λ none. absurd cc))
    (λ z number past_number. in_step (unless (Limit key.Accumulator z (range_of key.Accumulator).high)
    (is_listed z)) _ f past_number
    (λ wrong.
    let (test, e) = test_err (Limit key.Accumulator z (range_of key.Accumulator).high) f (is_listed z) wrong in
    elim (there_or_default (value_at key.Accumulator file) default z
    (integer_read key.Accumulator default file z number)) [
      | inl none ↦
          let same : pos 64 ≡ z = cc in
          absurd (listed_not z 64 test refl (sym same))
      | inr (v, there, is) ↦ subst (IsTrueOf file) e
          (record {
            held = there ∙ ap (λ (x : Data). Some x) (is_integer v z is);
            other = λ bits listed. listed_not z bits test listed;
            greatest = refl;
          })
    ])
    (λ u fits past_fits. absurd cc))

settings_true : (file : Members) (form : Form) (f : FilterFault) → settings_in form file ≡ Err f → IsTrueOf file f
unfolding settings_in
settings_true file form f h =
    in_step (structure_in form file) _ f h (structure_true file form f)
    (λ s structured past_s. in_step (mode_in file) _ f past_s (mode_true file f)
    (λ r moded past_r. in_step (accumulator_in file) _ f past_r (accumulator_true file f)
    (λ a summed past_a. in_step (natural_in key.Word file) _ f past_a (natural_true file key.Word 0 file f (record {
      stands = refl;
      is = refl;
      required = λ none. absurd cc;
      fits = λ z held. let same : pos 32 ≡ z = cc in
          subst (IsWithin (range_of key.Word)) same (record { le = tt }, record { le = tt });
      ranged = refl;
      past = λ got limit x. inl x;
    }))
    (λ w stored past_w. in_step (naturals_in key.Guards file) _ f past_w (numbers_true file key.Guards f (record {
      list = record { own = refl; is = refl; entry = λ n v x. x; past = λ got limit x. x };
      other = λ e. absurd cc;
      limited = lit≤ tt;
      defaulted = refl;
      ranged = refl;
    }))
    (λ g guarded past_g. in_step (naturals_in key.Fractions file) _ f past_g
    (numbers_true file key.Fractions f (record {
      list = record { own = refl; is = refl; entry = λ n v x. x; past = λ got limit x. x };
      other = λ e. absurd cc;
      limited = lit≤ tt;
      defaulted = refl;
      ranged = refl;
    }))
    (λ t rounded past_t. in_step (naturals_in key.Lengths file) _ f past_t (numbers_true file key.Lengths f (record {
      list = record { own = refl; is = refl; entry = λ n v x. x; past = λ got limit x. x };
      other = λ e. absurd cc;
      limited = lit≤ tt;
      defaulted = refl;
      ranged = refl;
    }))
    (λ l h10 h11. absurd cc)))))))

-- ---- outputs beside the inputs and the accumulator

-- what is told of an output
near_fault : {W : Type 0} (low : ℤ) (bits : ℕ) (os : List _) (vs : Items) (f : FilterFault) →
    Each (IsTableOf (DescribesEntry low)) os vs → outputs_fit low bits os ≡ Err f →
    ((n : ℕ) (t : Members) (o : _) → get_item n vs ≡ Some (table t) → DescribesEntry low t o →
    output_fits low bits o ≡ Err f → W) → W
unfolding outputs_fit
near_fault low bits [] vs f each h told = absurd cc
near_fault low bits (o ∷ os) no_items f each h told = absurd each
near_fault low bits (o ∷ os) (item v vs) f each h told =
    in_step (output_fits low bits o) (λ u. outputs_fit low bits os) f h
    (λ wrong. let (t, there, is) = some_and (as_table v) (λ t. DescribesEntry low t o) each.0 in
    told 0 t o (ap (λ (x : Data). Some x) (is_table v t there)) is wrong)
    (λ u first past_first. near_fault low bits os vs f each.1 past_first (λ n t p there. told (suc n) t p there))

no_difference : (low : ℤ) → low -ℤ low ≡ pos 0
no_difference low = omega (arith, ints)

far_true : (file : Members) (low z : ℤ) (n : ℕ) (t : Members) (limit : ℤ) (f : FilterFault) →
    HoldsInteger key.InputLow (default_of key.InputLow) file low → IsTableAt (Some key.Outputs) n file t →
    HoldsInteger key.OutputsLow (Some low) t z → IsPast LOW_DIFFERENCES (low -ℤ z) limit →
    Limit key.OutputsLow (low -ℤ z) limit ≡ f → IsTrueOf file f
far_true file low z n t limit f ins stands held past e =
    elim (there_or_default (value_at key.OutputsLow t) (Some low) z held) [
      | inl none ↦
          let same : low ≡ z = cc in
          let none_far : low -ℤ z ≡ pos 0 = subst (λ (x : ℤ). low -ℤ x ≡ pos 0) same (no_difference low) in
          absurd (not_past LOW_DIFFERENCES (pos 0) limit (record { le = tt }, record { le = tt })
          (subst (λ (d : ℤ). IsPast LOW_DIFFERENCES d limit) none_far past))
      | inr (v, there, is) ↦ subst (IsTrueOf file) e (inr (record {
        place = n;
        low = z;
        held = record { owner = t; stands = stands; held = there ∙ ap (λ (x : Data). Some x) (is_integer v z is) };
        input_low = low;
        inputs = ins;
        difference = refl;
        past = past;
      }))
    ]

wide_true : (file : Members) (width bits n : ℕ) (t : Members) (f : FilterFault) →
    HoldsInteger key.Accumulator (default_of key.Accumulator) file (pos bits) → IsTableAt (Some key.Outputs) n file t →
    HoldsInteger key.OutputsWidth None t (pos width) → bits < width →
    Limit key.OutputsWidth (pos width) (pos bits) ≡ f → IsTrueOf file f
wide_true file width bits n t f accumulator stands held above e =
    elim (there_or_default (value_at key.OutputsWidth t) None (pos width) held) [
      | inl none ↦ absurd cc
      | inr (v, there, is) ↦ subst (IsTrueOf file) e (inr (record {
        place = n;
        held = record {
          owner = t;
          stands = stands;
          held = there ∙ ap (λ (x : Data). Some x) (is_integer v (pos width) is);
        };
        accumulator = accumulator;
        above = omega (arith, ints);
      }))
    ]

not_sure : (b : Bool) → not b ≡ false → T b
not_sure true h = tt
not_sure false h = absurd cc

near_true : (file : Members) (low : ℤ) (bits n : ℕ) (t : Members) (o : _) (f : FilterFault) →
    HoldsInteger key.InputLow (default_of key.InputLow) file low →
    HoldsInteger key.Accumulator (default_of key.Accumulator) file (pos bits) → IsTableAt (Some key.Outputs) n file t →
    DescribesEntry low t o → output_fits low bits o ≡ Err f → IsTrueOf file f
near_true file low bits n t o f ins accumulator stands is h =
    let d = low -ℤ o.low in
    let least = LOW_DIFFERENCES.low in
    let greatest = LOW_DIFFERENCES.high in
    in_step (unless (Limit key.OutputsLow d least) (not (lt_z d least))) _ f h
    (λ wrong. let (test, e) = test_err (Limit key.OutputsLow d least) f (not (lt_z d least)) wrong in
    far_true file low o.low n t least f ins stands is.low.number
    (inl (lt_z_yes {a = d} {b = least} (not_sure (lt_z d least) test), refl)) e)
    (λ u above past_above. in_step (unless (Limit key.OutputsLow d greatest) (not (lt_z greatest d))) _ f past_above
    (λ wrong. let (test, e) = test_err (Limit key.OutputsLow d greatest) f (not (lt_z greatest d)) wrong in
    far_true file low o.low n t greatest f ins stands is.low.number
    (inr (lt_z_yes {a = greatest} {b = d} (not_sure (lt_z greatest d) test), refl)) e)
    (λ u below past_below.
    let (test, e) = test_err (Limit key.OutputsWidth (pos o.width) (pos bits)) f (nat_le o.width bits) past_below in
    let more : bits < o.width = grind (arith, nat_tests) in
    wide_true file o.width bits n t f accumulator stands is.width.number more e))

outputs_near : (file : Members) (ports : Ports) (bits : ℕ) (f : FilterFault) → PortsHeld file ports →
    HoldsInteger key.Accumulator (default_of key.Accumulator) file (pos bits) →
    outputs_fit ports.inputs.low bits ports.outputs ≡ Err f → IsTrueOf file f
outputs_near file ports bits f held accumulator h =
    let low = ports.inputs.low in
    let outs = ports.outputs in
    let (v, there, is) = some_and (value_at key.Outputs file) (IsListOf (IsTableOf (DescribesEntry low)) outs)
    held.outputs.held in
    let (vs, list, each) = some_and (as_array v) (Each (IsTableOf (DescribesEntry low)) outs) is in
    near_fault low bits outs vs f each h (λ n t o at described fails.
    near_true file low bits n t o f held.low.number accumulator (rw (there, list) at) described fails)

-- ---- a whole file

pub fault_true : (file : Members) (f : FilterFault) → filter_in file ≡ Err f → IsTrueOf file f
unfolding filter_in
fault_true file f h =
    in_step (head_in file) _ f h (head_true file f)
    (λ form head past_head.
    let named : HoldsForm file form = (head_read file form head).0 in
    in_step (ports_in file) _ f past_head (ports_true file form f named)
    (λ ports both past_both.
    let held = ports_read file ports both in
    let m = length ports.inputs.formats in
    let p = length ports.outputs in
    let ins : HasCount file key.Inputs m =
    list_count (IsTableOf DescribesInput) ports.inputs.formats file key.Inputs held.inputs.held in
    let outs : HasCount file key.Outputs p =
    list_count (IsTableOf (DescribesEntry ports.inputs.low)) ports.outputs file key.Outputs held.outputs.held in
    in_step (coefficients_in form m p file) _ f past_both (coefficients_true form m p file f named ins outs)
    (λ c lists past_lists. in_step (settings_in form file) _ f past_lists (settings_true file form f)
    (λ settings chosen past_chosen. in_step (single form m p) _ f past_chosen
    (single_true file form m p f named ins outs)
    (λ u one past_one. in_step (outputs_fit ports.inputs.low settings.accumulator ports.outputs) _ f past_one
    (outputs_near file ports settings.accumulator f held (settings_read form file settings chosen).accumulator)
    (λ u near past_near. absurd cc))))))

-- what is told of the table is told of the file
of_file : (bytes : List ℕ) (file : Members) (f : FilterFault) → IsTextOf bytes file → IsTrueOf file f →
    IsTrueOfFile bytes f
of_file bytes file NotToml text is = absurd is
of_file bytes file _ text is = (file, text, is)

one_text : (bytes : List ℕ) (file : Members) → table_at bytes ≡ Ok file → IsTextOf bytes file
one_text bytes file h = elim (cases_Bool (is_utf8 bytes)) [
  | inl is ↦ record { text = is; parsed = fault_ok NotToml (parse_document bytes) file (rw is at h) }
  | inr other ↦ absurd (let e : ◌≡◌ {A = Result Members FilterFault} (Err NotToml) (Ok file) = rw other at h in cc)
]

no_text : (bytes : List ℕ) (f : FilterFault) → table_at bytes ≡ Err f → (NotToml ≡ f) × IsNoTable bytes
no_text bytes f h = elim (cases_Bool (is_utf8 bytes)) [
  | inl is ↦
      let (none, e) = fault_err NotToml f (parse_document bytes) (rw is at h) in (
        e,
        λ file text. let some = text.parsed in
            let apart : ◌≡◌ {A = Option Members} None (Some file) = sym none ∙ some in absurd cc,
      )
  | inr other ↦
      let e : ◌≡◌ {A = Result Members FilterFault} (Err NotToml) (Err f) = rw other at h in
      (cc, λ file text. let some = text.text in let apart : false ≡ true = sym other ∙ some in absurd cc)
]

pub faults_are_true : FaultsAreTrue
unfolding filter_of_bytes
faults_are_true bytes f h =
    in_step (table_at bytes) filter_in f h
    (λ wrong. let (e, none) = no_text bytes f wrong in subst (IsTrueOfFile bytes) e none)
    (λ file table past_table. of_file bytes file f (one_text bytes file table) (fault_true file f past_table))

no_table_told : (bytes : List ℕ) → IsNoTable bytes → table_at bytes ≡ Err NotToml
no_table_told bytes none = told_by (table_at bytes) refl
  where
    told_by : (r : Result Members FilterFault) → table_at bytes ≡ r → r ≡ Err NotToml
    told_by (Ok file) same = absurd (none file (one_text bytes file same))
    told_by (Err f) same = let e : NotToml ≡ f = (no_text bytes f same).0 in ap (λ (x : FilterFault). Err x) (sym e)

no_table : (bytes : List ℕ) → IsNoTable bytes → filter_of_bytes bytes ≡ Err NotToml
unfolding filter_of_bytes
no_table bytes none = rw (no_table_told bytes none) refl

pub no_table_law : NoTableLaw
no_table_law bytes = (faults_are_true bytes NotToml, no_table bytes)

pub none_is_described : NoneIsDescribed
none_is_described file fault f h is =
    let read : filter_in file ≡ Ok f = filter_stands file f is in
    let e : ◌≡◌ {A = Result Filter FilterFault} (Err fault) (Ok f) = sym h ∙ read in absurd cc
