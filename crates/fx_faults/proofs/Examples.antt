-- Small tables with a fault each, the fault that is told, and what it says, worked by hand.
use Rattle.std.proofs.lemmas.Int.{ints}
use Rattle.std.proofs.Common.{arith, ◌<ℤ◌, zero, suc, false, true, sym, ◌∙◌}
use Rattle.std.proofs.Common.{◌≡◌, ℕ, pos, negsuc, List, [], ◌∷◌, None, Err, refl, lit<, lit≤, inl, inr}
use Rattle.std.specs.Prelude.{codes}
use Rattle.std.specs.List.{AllByRecursion}
use Rattle.std.specs.Str.{is_utf8, chars}
use Rattle.toml.specs.Data.{Data, Members, no_members, member, Items, no_items, item, string, integer, array, table}
use Rattle.fx_decimal.specs.Faults.{numeral, parts_in, exponent_in}
use Rattle.fx_decimal.specs.Numeral.{digits_value}
use Rattle.fx_decimal.specs.declared.fault.DecimalFault.TheVariants as decimal
use Rattle.fx_keys.specs.Entries.{item_count, all_tables}
use Rattle.fx_keys.specs.Numerals.{numeral_at, all_numerals, each_numeral, entries_in, all_rows, rows_in, row_of}
use Rattle.fx_keys.specs.Numerals.{each_exactly, each_row, matrix}
use Rattle.fx_keys.specs.Table.{only_keys}
use Rattle.fx_keys.specs.Wholes.{all_whole, each_natural, naturals}
use Rattle.fx_keys.specs.declared.fault.FilterFault.{FilterFault}
use Rattle.fx_keys.specs.declared.fault.FilterFault.TheVariants.{Missing, WrongKind, Numeral, NotMonic, Shape}
use Rattle.fx_keys.specs.declared.fault.FilterFault.TheVariants.{Limit, UnknownKey, UnknownWord}
use Rattle.fx_keys.specs.declared.key.Key.TheVariants as key
use Rattle.fx_files.specs.Building.{assembled, with_rows}
use Rattle.fx_files.specs.Forms.{known_keys}
use Rattle.fx_files.specs.Head.{head_in}
use Rattle.fx_files.specs.Lists.{each_monic, polynomial_in, transfer_in, cascade_in, state_rows, matrix_in, space_in}
use Rattle.fx_files.specs.Lists.{reflections_in, taps_in, ladder_in}
use Rattle.fx_files.specs.Ports.{tables_in, input_in, each_input, inputs_in, error_in, output_in, each_output}
use Rattle.fx_files.specs.Ports.{outputs_in, ports_in, single, outputs_fit}
use Rattle.fx_files.specs.Reading.{filter_in}
use Rattle.fx_files.specs.Settings.{settings_in}
use Rattle.fx_files.specs.declared.forms.Form.TheVariants as form
use Rattle.fx_faults.specs.Faults.{IsMissing, IsUnknown, IsOfOtherKind}
use Rattle.fx_faults.specs.Faults.{IsMisshapen, IsPastLimit, IsTrueOf, IsNoTable}
use Rattle.fx_faults.proofs.FileFaults.{fault_true}

-- ---- values

abbrev list_of_one : Data → Data
list_of_one x = array (item x no_items)

abbrev list_of_two : Data → Data → Data
list_of_two x y = array (item x (item y no_items))

abbrev list_of_six : Data → Data → Data → Data → Data → Data → Data
list_of_six a b c d e f = array (item a (item b (item c (item d (item e (item f no_items))))))

abbrev whole : ℕ → Data
whole n = integer (pos n)

abbrev zero_text : Data
zero_text = string (codes "0")

abbrev one_text : Data
one_text = string (codes "1")

abbrev ones : ℕ → Items
ones zero = no_items
ones (suc n) = item one_text (ones n)

-- ---- files

abbrev form_at : List ℕ → Members → Members
form_at word rest = member (codes "form") (string word) rest

-- an input of so many bits
abbrev input : ℕ → Data
input width = table (member (codes "width") (whole width) no_members)

-- an output of so many bits, with this error
abbrev error_and_width : Data → ℕ → Members
error_and_width error width = member (codes "error") error (member (codes "width") (whole width) no_members)

abbrev output : Data → ℕ → Data
output error width = table (error_and_width error width)

abbrev inputs : Members → Members
inputs rest = member (codes "inputs") (list_of_one (input 16)) rest

abbrev outputs : Members → Members
outputs rest = member (codes "outputs") (list_of_one (output one_text 16)) rest

-- a transfer function b / a
abbrev transfer : Data → Data → Members
transfer b a = member (codes "a") a (member (codes "b") b (form_at (codes "tf") (inputs (outputs no_members))))

-- the transfer function 1 / 1 beside an accumulator of so many bits, this input and this list of outputs
abbrev with_ports : ℕ → Data → Data → Members
with_ports bits i os =
    member (codes "a") (list_of_one one_text)
    (member (codes "accumulator") (whole bits)
    (member (codes "b") (list_of_one one_text)
    (form_at (codes "tf") (member (codes "inputs") (list_of_one i) (member (codes "outputs") os no_members)))))

-- ---- keys, kinds and words

below : pos 16 <ℤ pos 17
below = omega (arith, ints)

farther : negsuc 16 <ℤ negsuc 15
farther = omega (arith, ints)

-- `a` is required of a transfer function, and is not there
abbrev without_a : Members
without_a = member (codes "b") (list_of_one one_text) (form_at (codes "tf") (inputs (outputs no_members)))

without_a_true : IsMissing without_a key.A
without_a_true = record {
  required = refl;
  place = 0;
  owner = without_a;
  stands = refl;
  absent = refl;
}

abbrev widthless : Members
widthless = member (codes "error") one_text no_members

-- the second output has no width
abbrev without_width : Members
without_width = with_ports 32 (input 16) (list_of_two (output one_text 16) (table widthless))

without_width_true : IsMissing without_width key.OutputsWidth
without_width_true =
    record { required = tt; place = 1; owner = widthless; stands = refl; absent = refl }

-- `b` is no list
abbrev no_list : Members
no_list = transfer one_text (list_of_one one_text)

no_list_true : IsOfOtherKind no_list key.B
no_list_true = record {
  place = 0;
  value = one_text;
  held = record { owner = no_list; stands = refl; held = refl };
  other = λ is. is;
}

-- `fir` is no form
abbrev no_form : Members
no_form = form_at (codes "fir") (inputs (outputs no_members))

-- rows cannot be rounded up
abbrev other_rounding : Members
other_rounding =
    member (codes "a") (list_of_one one_text)
    (member (codes "b") (list_of_one one_text)
    (form_at (codes "tf") (inputs (outputs (member (codes "rounding") (string (codes "up")) no_members)))))

-- `k` is no key of a transfer function
abbrev other_key : Members
other_key = form_at (codes "tf") (inputs (member (codes "k") (array no_items) (outputs no_members)))

other_key_true : IsUnknown other_key (codes "k")
other_key_true = record {
  form = form.Tf;
  named = refl;
  list = None;
  place = 0;
  owner = other_key;
  stands = refl;
  known = known_keys form.Tf;
  may_have = refl;
  there = refl;
  unknown = refl;
}

-- ---- numerals

-- the second entry of `b` lacks a digit
abbrev no_digit : Members
no_digit = transfer (list_of_two one_text (string (codes "-"))) (list_of_one one_text)

-- the entry of `b` is past a limit of numerals
abbrev too_fine : Members
too_fine = transfer (list_of_one (string (codes "1e-29"))) (list_of_one one_text)

-- the first entry of `a` is 0
abbrev zero_leads : Members
zero_leads = transfer (list_of_one one_text) (list_of_one zero_text)

-- the fourth entry of the second section is 0
abbrev second_section : Members
second_section =
    form_at (codes "sos")
    (inputs (outputs (member (codes "sections")
    (list_of_two (list_of_six one_text one_text one_text one_text one_text one_text)
    (list_of_six one_text one_text one_text zero_text one_text one_text)) no_members)))

-- ---- counts

-- `b` is empty
abbrev empty_b : Members
empty_b = transfer (array no_items) (list_of_one one_text)

empty_b_true : IsMisshapen empty_b key.B 0 1
unfolding item_count
empty_b_true = (λ same. absurd cc, inl (λ same. absurd cc, refl, refl, refl))

-- one tap stands beside one reflection coefficient
abbrev one_tap : Members
one_tap =
    form_at (codes "lattice")
    (inputs (member (codes "k") (list_of_one one_text)
    (outputs (member (codes "v") (list_of_one one_text) no_members))))

one_tap_true : IsMisshapen one_tap key.V 1 2
unfolding item_count
one_tap_true = (
  λ same. absurd cc,
  inr (inl (record { form = form.Lattice; named = refl; found = refl; fixed = (1, refl, refl) })),
)

-- a row of one state has two entries
abbrev wide_state : Members
wide_state =
    member (codes "A") (list_of_one (list_of_two one_text one_text))
    (form_at (codes "ss") (inputs (outputs no_members)))

wide_state_true : IsMisshapen wide_state key.MatA 2 1
unfolding item_count
wide_state_true = (
  λ same. absurd cc,
  inr (inr (record {
    found = record {
      rows = item (list_of_two one_text one_text) no_items;
      held = refl;
      place = 0;
      row = item one_text (item one_text no_items);
      stands = refl;
      count = refl;
    };
    fixed = refl;
  })),
)

-- a transfer function has two outputs
abbrev two_outputs : Members
two_outputs = with_ports 32 (input 16) (list_of_two (output one_text 16) (output one_text 16))

-- ---- limits

-- `b` has fourteen entries, and may have thirteen
abbrev long_b : Members
long_b = transfer (array (ones 14)) (list_of_one one_text)

long_b_true : IsPastLimit long_b key.B (pos 14) (pos 13)
unfolding item_count
long_b_true =
    inr (record { count = 14; found = refl; limited = lit≤ tt; above = lit< tt; counted = refl; most = refl })

-- no accumulator has 24 bits
abbrev other_accumulator : Members
other_accumulator = with_ports 24 (input 16) (list_of_one (output one_text 16))

-- the bound of an input of 4 bits is 8
abbrev high_bound : Members
high_bound =
    with_ports 32 (table (member (codes "bound") (whole 8) (member (codes "width") (whole 4) no_members)))
    (list_of_one (output one_text 16))

-- an output of 17 bits stands beside an accumulator of 16
abbrev wide_output : Members
wide_output = with_ports 16 (input 16) (list_of_one (output one_text 17))

wide_output_true : IsPastLimit wide_output key.OutputsWidth (pos 17) (pos 16)
wide_output_true = inr (record {
  place = 0;
  held = record { owner = error_and_width one_text 17; stands = refl; held = refl };
  accumulator = refl;
  above = below;
})

abbrev high_output : Members
high_output =
    member (codes "error") one_text (member (codes "low") (whole 17) (member (codes "width") (whole 16) no_members))

-- the low position of an output is 17 above the inputs'
abbrev far_output : Members
far_output = with_ports 32 (input 16) (list_of_one (table high_output))

far_output_true : IsPastLimit far_output key.OutputsLow (negsuc 16) (negsuc 15)
far_output_true = inr (record {
  place = 0;
  low = pos 17;
  held = record { owner = high_output; stands = refl; held = refl };
  input_low = pos 0;
  inputs = refl;
  difference = refl;
  past = inl (farther, refl);
})

-- the error of the output is -1
abbrev negative_error : Members
negative_error = with_ports 32 (input 16) (list_of_one (output (string (codes "-1")) 16))

-- ---- what is told

abbrev examples : List (Members × FilterFault)
examples =
    (without_a, Missing key.A) ∷
    (without_width, Missing key.OutputsWidth) ∷
    (no_list, WrongKind key.B) ∷
    (no_form, UnknownWord key.Form) ∷
    (other_rounding, UnknownWord key.Rounding) ∷
    (other_key, UnknownKey (codes "k")) ∷
    (no_digit, Numeral key.B 1 decimal.Empty) ∷
    (too_fine, Numeral key.B 0 decimal.TooFine) ∷
    (zero_leads, NotMonic key.A 0) ∷
    (second_section, NotMonic key.Sections 9) ∷
    (empty_b, Shape key.B 0 1) ∷
    (one_tap, Shape key.V 1 2) ∷
    (wide_state, Shape key.MatA 2 1) ∷
    (two_outputs, Shape key.Outputs 2 1) ∷
    (long_b, Limit key.B (pos 14) (pos 13)) ∷
    (other_accumulator, Limit key.Accumulator (pos 24) (pos 64)) ∷
    (high_bound, Limit key.InputsBound (pos 8) (pos 7)) ∷
    (wide_output, Limit key.OutputsWidth (pos 17) (pos 16)) ∷
    (far_output, Limit key.OutputsLow (negsuc 16) (negsuc 15)) ∷
    (negative_error, Limit key.OutputsError (pos 0) (pos 0)) ∷ []

told : AllByRecursion (λ e. filter_in e.0 ≡ Err e.1) examples
unfolding filter_in head_in only_keys ports_in inputs_in outputs_in tables_in input_in each_input error_in output_in
    each_output single outputs_fit settings_in all_tables item_count all_whole each_natural naturals numeral_at
    all_numerals each_numeral entries_in all_rows rows_in row_of each_exactly each_row matrix each_monic polynomial_in
    transfer_in cascade_in state_rows matrix_in space_in reflections_in taps_in ladder_in assembled with_rows numeral
    parts_in exponent_in digits_value
told = (
  refl,
  (
    refl,
    (
      refl,
      (
        refl,
        (
          refl,
          (
            refl,
            (
              refl,
              (
                refl,
                (
                  refl,
                  (
                    refl,
                    (
                      refl,
                      (
                        refl,
                        (
                          refl,
                          (
                            refl,
                            (
                              refl,
                              (
                                refl,
                                (
                                  refl,
                                  (refl, (refl, (refl, tt))),
                                ),
                              ),
                            ),
                          ),
                        ),
                      ),
                    ),
                  ),
                ),
              ),
            ),
          ),
        ),
      ),
    ),
  ),
)

-- what is told of them is so
true_of_each : (es : List (Members × FilterFault)) → AllByRecursion (λ e. filter_in e.0 ≡ Err e.1) es →
    AllByRecursion (λ e. IsTrueOf e.0 e.1) es
true_of_each [] h = tt
true_of_each (e ∷ es) h = (fault_true e.0 e.1 h.0, true_of_each es h.1)

all_true : AllByRecursion (λ e. IsTrueOf e.0 e.1) examples
all_true = true_of_each examples told

-- ---- no table

no_text : is_utf8 (255 ∷ []) ≡ false
unfolding is_utf8 chars
no_text = refl

no_text_true : IsNoTable (255 ∷ [])
no_text_true file is = let apart : true ≡ false = sym is.text ∙ no_text in absurd cc
