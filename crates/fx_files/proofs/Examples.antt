-- The tables of example filters, and the filters that they describe.
use Rattle.std.proofs.Common.{◌≡◌, pos, negsuc, [], ◌∷◌, Ok, lit<, refl}
use Rattle.std.proofs.lemmas.Fmt.{decimal_digit}
use Rattle.std.specs.Prelude.{codes}
use Rattle.toml.specs.Data.{string, integer, array, table, Members, no_members, member, no_items, item}
use Rattle.fx_nums.specs.declared.fraction.Den.TheVariants.{Ten}
use Rattle.fx_decimal.specs.Faults.{numeral, parts_in, exponent_in}
use Rattle.fx_decimal.specs.Numeral.{digits_value}
use Rattle.fx_eqs.specs.declared.term.Source.TheVariants.{Row, In}
use Rattle.fx_files.specs.Settings.{settings_in}
use Rattle.fx_files.specs.Coefficients as coefficients
use Rattle.fx_files.specs.Lists.{each_monic, polynomial_in, transfer_in, cascade_in, state_rows, matrix_in, space_in, reflections_in, taps_in, ladder_in}
use Rattle.fx_files.specs.Describes.{Describes}
use Rattle.fx_keys.specs.Entries.{item_count, all_tables}
use Rattle.fx_files.specs.Head.{head_in}
use Rattle.fx_keys.specs.Numerals.{numeral_at, all_numerals, each_numeral, entries_in, all_rows, rows_in, row_of, each_exactly, each_row, matrix}
use Rattle.fx_files.specs.Ports.{tables_in, input_in, each_input, inputs_in, error_in, output_in, each_output, outputs_in, ports_in, single, outputs_fit}
use Rattle.fx_files.specs.Building.{assembled, with_rows}
use Rattle.fx_files.specs.Filter.{Filter}
use Rattle.fx_files.specs.Reading.{filter_in}
use Rattle.fx_keys.specs.Table.{only_keys}
use Rattle.fx_keys.specs.Wholes.{all_whole, each_natural, naturals}
use Rattle.fx_files.specs.declared.forms.Structure.TheVariants as structure
use Rattle.fx_eqs.specs.declared.mode.Mode.TheVariants.{Nearest}
use Rattle.fx_files.proofs.HeldFilter.{filter_read}

abbrev pub butterworth8_table : Members
butterworth8_table = member (codes "form") (string (codes "sos")) (member (codes "fractions") (array (item (integer (pos 20)) (item (integer (pos 26)) (no_items)))) (member (codes "guards") (array (item (integer (pos 4)) (item (integer (pos 8)) (no_items)))) (member (codes "inputs") (array (item (table (member (codes "bound") (integer (pos 16384)) (member (codes "width") (integer (pos 16)) (no_members)))) (no_items))) (member (codes "outputs") (array (item (table (member (codes "error") (string (codes "4")) (member (codes "width") (integer (pos 16)) (no_members)))) (no_items))) (member (codes "sections") (array (item (array (item (string (codes "0.013587863327805832")) (item (string (codes "0.027175726655611665")) (item (string (codes "0.013587863327805832")) (item (string (codes "1")) (item (string (codes "-1.5407408817902508")) (item (string (codes "0.59509233510147416")) (no_items)))))))) (item (array (item (string (codes "0.0140199839177223")) (item (string (codes "0.0280399678354446")) (item (string (codes "0.0140199839177223")) (item (string (codes "1")) (item (string (codes "-1.5897394507841835")) (item (string (codes "0.64581938645507273")) (no_items)))))))) (item (array (item (string (codes "0.014895264623259493")) (item (string (codes "0.029790529246518986")) (item (string (codes "0.014895264623259493")) (item (string (codes "1")) (item (string (codes "-1.6889883712015437")) (item (string (codes "0.74856942969458162")) (no_items)))))))) (item (array (item (string (codes "0.016218180779877796")) (item (string (codes "0.032436361559755593")) (item (string (codes "0.016218180779877796")) (item (string (codes "1")) (item (string (codes "-1.8389951056313485")) (item (string (codes "0.90386782875085972")) (no_items)))))))) (no_items)))))) (no_members))))))

abbrev pub butterworth8_filter : Filter
butterworth8_filter = record {
  input_low = pos 0;
  inputs = record { width = 16; bound = pos 16384 } ∷ [];
  outputs = record { row = 3; width = 16; low = pos 0; error = record { num = pos 4; den = Ten 0 }; target = pos 73786976294838206464 } ∷ [];
  coefficients = coefficients.Sos (record { num = pos 13587863327805832; den = Ten 18 } ∷ record { num = pos 27175726655611665; den = Ten 18 } ∷ record { num = pos 13587863327805832; den = Ten 18 } ∷ record { num = pos 1; den = Ten 0 } ∷ record { num = negsuc 15407408817902507; den = Ten 16 } ∷ record { num = pos 59509233510147416; den = Ten 17 } ∷ record { num = pos 140199839177223; den = Ten 16 } ∷ record { num = pos 280399678354446; den = Ten 16 } ∷ record { num = pos 140199839177223; den = Ten 16 } ∷ record { num = pos 1; den = Ten 0 } ∷ record { num = negsuc 15897394507841834; den = Ten 16 } ∷ record { num = pos 64581938645507273; den = Ten 17 } ∷ record { num = pos 14895264623259493; den = Ten 18 } ∷ record { num = pos 29790529246518986; den = Ten 18 } ∷ record { num = pos 14895264623259493; den = Ten 18 } ∷ record { num = pos 1; den = Ten 0 } ∷ record { num = negsuc 16889883712015436; den = Ten 16 } ∷ record { num = pos 74856942969458162; den = Ten 17 } ∷ record { num = pos 16218180779877796; den = Ten 18 } ∷ record { num = pos 32436361559755593; den = Ten 18 } ∷ record { num = pos 16218180779877796; den = Ten 18 } ∷ record { num = pos 1; den = Ten 0 } ∷ record { num = negsuc 18389951056313484; den = Ten 16 } ∷ record { num = pos 90386782875085972; den = Ten 17 } ∷ []);
  settings = record { structure = structure.Df2t; rounding = Nearest; accumulator = 64; word = 32; guards = 4 ∷ 8 ∷ []; fractions = 20 ∷ 26 ∷ []; lengths = 64 ∷ 256 ∷ 1024 ∷ 4096 ∷ [] };
  equations = record { rows = 4; inputs = 1; terms = record { row = 0; coef = record { num = pos 13587863327805832; den = Ten 18 }; from = In 0; lag = 0 } ∷ record { row = 0; coef = record { num = pos 27175726655611665; den = Ten 18 }; from = In 0; lag = 1 } ∷ record { row = 0; coef = record { num = pos 13587863327805832; den = Ten 18 }; from = In 0; lag = 2 } ∷ record { row = 0; coef = record { num = pos 15407408817902508; den = Ten 16 }; from = Row 0; lag = 1 } ∷ record { row = 0; coef = record { num = negsuc 59509233510147415; den = Ten 17 }; from = Row 0; lag = 2 } ∷ record { row = 1; coef = record { num = pos 140199839177223; den = Ten 16 }; from = Row 0; lag = 0 } ∷ record { row = 1; coef = record { num = pos 280399678354446; den = Ten 16 }; from = Row 0; lag = 1 } ∷ record { row = 1; coef = record { num = pos 140199839177223; den = Ten 16 }; from = Row 0; lag = 2 } ∷ record { row = 1; coef = record { num = pos 15897394507841835; den = Ten 16 }; from = Row 1; lag = 1 } ∷ record { row = 1; coef = record { num = negsuc 64581938645507272; den = Ten 17 }; from = Row 1; lag = 2 } ∷ record { row = 2; coef = record { num = pos 14895264623259493; den = Ten 18 }; from = Row 1; lag = 0 } ∷ record { row = 2; coef = record { num = pos 29790529246518986; den = Ten 18 }; from = Row 1; lag = 1 } ∷ record { row = 2; coef = record { num = pos 14895264623259493; den = Ten 18 }; from = Row 1; lag = 2 } ∷ record { row = 2; coef = record { num = pos 16889883712015437; den = Ten 16 }; from = Row 2; lag = 1 } ∷ record { row = 2; coef = record { num = negsuc 74856942969458161; den = Ten 17 }; from = Row 2; lag = 2 } ∷ record { row = 3; coef = record { num = pos 16218180779877796; den = Ten 18 }; from = Row 2; lag = 0 } ∷ record { row = 3; coef = record { num = pos 32436361559755593; den = Ten 18 }; from = Row 2; lag = 1 } ∷ record { row = 3; coef = record { num = pos 16218180779877796; den = Ten 18 }; from = Row 2; lag = 2 } ∷ record { row = 3; coef = record { num = pos 18389951056313485; den = Ten 16 }; from = Row 3; lag = 1 } ∷ record { row = 3; coef = record { num = negsuc 90386782875085971; den = Ten 17 }; from = Row 3; lag = 2 } ∷ []; outputs = 3 ∷ [] };
}

butterworth8_read : filter_in butterworth8_table ≡ Ok butterworth8_filter
unfolding filter_in head_in only_keys ports_in inputs_in outputs_in tables_in input_in each_input error_in output_in each_output single outputs_fit settings_in all_tables item_count all_whole each_natural naturals numeral_at all_numerals each_numeral entries_in all_rows rows_in row_of each_exactly each_row matrix each_monic polynomial_in transfer_in cascade_in state_rows matrix_in space_in reflections_in taps_in ladder_in assembled with_rows numeral parts_in exponent_in digits_value
butterworth8_read = refl

pub butterworth8_described : Describes butterworth8_table butterworth8_filter
butterworth8_described = filter_read butterworth8_table butterworth8_filter butterworth8_read

abbrev pub dc_blocker_table : Members
dc_blocker_table = member (codes "a") (array (item (string (codes "1")) (item (string (codes "-0.99738543007936288")) (no_items)))) (member (codes "b") (array (item (string (codes "1")) (item (string (codes "-1")) (no_items)))) (member (codes "form") (string (codes "tf")) (member (codes "inputs") (array (item (table (member (codes "bound") (integer (pos 32767)) (member (codes "width") (integer (pos 16)) (no_members)))) (no_items))) (member (codes "lengths") (array (item (integer (pos 1024)) (item (integer (pos 2048)) (item (integer (pos 4096)) (no_items))))) (member (codes "outputs") (array (item (table (member (codes "error") (string (codes "4")) (member (codes "low") (integer (negsuc 1)) (member (codes "width") (integer (pos 19)) (no_members))))) (no_items))) (no_members))))))

abbrev pub dc_blocker_filter : Filter
dc_blocker_filter = record {
  input_low = pos 0;
  inputs = record { width = 16; bound = pos 32767 } ∷ [];
  outputs = record { row = 0; width = 19; low = negsuc 1; error = record { num = pos 4; den = Ten 0 }; target = pos 73786976294838206464 } ∷ [];
  coefficients = coefficients.Tf (record { num = pos 1; den = Ten 0 } ∷ record { num = negsuc 0; den = Ten 0 } ∷ []) (record { num = pos 1; den = Ten 0 } ∷ record { num = negsuc 99738543007936287; den = Ten 17 } ∷ []);
  settings = record { structure = structure.Df1; rounding = Nearest; accumulator = 64; word = 32; guards = 0 ∷ 4 ∷ 8 ∷ []; fractions = 14 ∷ 20 ∷ 26 ∷ []; lengths = 1024 ∷ 2048 ∷ 4096 ∷ [] };
  equations = record { rows = 1; inputs = 1; terms = record { row = 0; coef = record { num = pos 1; den = Ten 0 }; from = In 0; lag = 0 } ∷ record { row = 0; coef = record { num = negsuc 0; den = Ten 0 }; from = In 0; lag = 1 } ∷ record { row = 0; coef = record { num = pos 99738543007936288; den = Ten 17 }; from = Row 0; lag = 1 } ∷ []; outputs = 0 ∷ [] };
}

dc_blocker_read : filter_in dc_blocker_table ≡ Ok dc_blocker_filter
unfolding filter_in head_in only_keys ports_in inputs_in outputs_in tables_in input_in each_input error_in output_in each_output single outputs_fit settings_in all_tables item_count all_whole each_natural naturals numeral_at all_numerals each_numeral entries_in all_rows rows_in row_of each_exactly each_row matrix each_monic polynomial_in transfer_in cascade_in state_rows matrix_in space_in reflections_in taps_in ladder_in assembled with_rows numeral parts_in exponent_in digits_value
dc_blocker_read = refl

pub dc_blocker_described : Describes dc_blocker_table dc_blocker_filter
dc_blocker_described = filter_read dc_blocker_table dc_blocker_filter dc_blocker_read

abbrev pub fir13_table : Members
fir13_table = member (codes "a") (array (item (string (codes "1")) (no_items))) (member (codes "accumulator") (integer (pos 32)) (member (codes "b") (array (item (string (codes "-0.0027197482964866295")) (item (string (codes "0")) (item (string (codes "0.015808536973328534")) (item (string (codes "0.059408709991559901")) (item (string (codes "0.12706862970416979")) (item (string (codes "0.19141010953237059")) (item (string (codes "0.21804752419011562")) (item (string (codes "0.19141010953237059")) (item (string (codes "0.12706862970416979")) (item (string (codes "0.059408709991559901")) (item (string (codes "0.015808536973328534")) (item (string (codes "0")) (item (string (codes "-0.0027197482964866295")) (no_items))))))))))))))) (member (codes "form") (string (codes "tf")) (member (codes "inputs") (array (item (table (member (codes "bound") (integer (pos 2047)) (member (codes "width") (integer (pos 12)) (no_members)))) (no_items))) (member (codes "lengths") (array (item (integer (pos 13)) (item (integer (pos 16)) (no_items)))) (member (codes "outputs") (array (item (table (member (codes "error") (string (codes "1")) (member (codes "low") (integer (negsuc 0)) (member (codes "width") (integer (pos 13)) (no_members))))) (no_items))) (member (codes "structure") (string (codes "fir")) (no_members))))))))

abbrev pub fir13_filter : Filter
fir13_filter = record {
  input_low = pos 0;
  inputs = record { width = 12; bound = pos 2047 } ∷ [];
  outputs = record { row = 0; width = 13; low = negsuc 0; error = record { num = pos 1; den = Ten 0 }; target = pos 18446744073709551616 } ∷ [];
  coefficients = coefficients.Tf (record { num = negsuc 27197482964866294; den = Ten 19 } ∷ record { num = pos 0; den = Ten 0 } ∷ record { num = pos 15808536973328534; den = Ten 18 } ∷ record { num = pos 59408709991559901; den = Ten 18 } ∷ record { num = pos 12706862970416979; den = Ten 17 } ∷ record { num = pos 19141010953237059; den = Ten 17 } ∷ record { num = pos 21804752419011562; den = Ten 17 } ∷ record { num = pos 19141010953237059; den = Ten 17 } ∷ record { num = pos 12706862970416979; den = Ten 17 } ∷ record { num = pos 59408709991559901; den = Ten 18 } ∷ record { num = pos 15808536973328534; den = Ten 18 } ∷ record { num = pos 0; den = Ten 0 } ∷ record { num = negsuc 27197482964866294; den = Ten 19 } ∷ []) (record { num = pos 1; den = Ten 0 } ∷ []);
  settings = record { structure = structure.Fir; rounding = Nearest; accumulator = 32; word = 32; guards = 0 ∷ 4 ∷ 8 ∷ []; fractions = 14 ∷ 20 ∷ 26 ∷ []; lengths = 13 ∷ 16 ∷ [] };
  equations = record { rows = 1; inputs = 1; terms = record { row = 0; coef = record { num = negsuc 27197482964866294; den = Ten 19 }; from = In 0; lag = 0 } ∷ record { row = 0; coef = record { num = pos 15808536973328534; den = Ten 18 }; from = In 0; lag = 2 } ∷ record { row = 0; coef = record { num = pos 59408709991559901; den = Ten 18 }; from = In 0; lag = 3 } ∷ record { row = 0; coef = record { num = pos 12706862970416979; den = Ten 17 }; from = In 0; lag = 4 } ∷ record { row = 0; coef = record { num = pos 19141010953237059; den = Ten 17 }; from = In 0; lag = 5 } ∷ record { row = 0; coef = record { num = pos 21804752419011562; den = Ten 17 }; from = In 0; lag = 6 } ∷ record { row = 0; coef = record { num = pos 19141010953237059; den = Ten 17 }; from = In 0; lag = 7 } ∷ record { row = 0; coef = record { num = pos 12706862970416979; den = Ten 17 }; from = In 0; lag = 8 } ∷ record { row = 0; coef = record { num = pos 59408709991559901; den = Ten 18 }; from = In 0; lag = 9 } ∷ record { row = 0; coef = record { num = pos 15808536973328534; den = Ten 18 }; from = In 0; lag = 10 } ∷ record { row = 0; coef = record { num = negsuc 27197482964866294; den = Ten 19 }; from = In 0; lag = 12 } ∷ []; outputs = 0 ∷ [] };
}

fir13_read : filter_in fir13_table ≡ Ok fir13_filter
unfolding filter_in head_in only_keys ports_in inputs_in outputs_in tables_in input_in each_input error_in output_in each_output single outputs_fit settings_in all_tables item_count all_whole each_natural naturals numeral_at all_numerals each_numeral entries_in all_rows rows_in row_of each_exactly each_row matrix each_monic polynomial_in transfer_in cascade_in state_rows matrix_in space_in reflections_in taps_in ladder_in assembled with_rows numeral parts_in exponent_in digits_value
fir13_read = refl

pub fir13_described : Describes fir13_table fir13_filter
fir13_described = filter_read fir13_table fir13_filter fir13_read

abbrev pub lattice4_table : Members
lattice4_table = member (codes "form") (string (codes "lattice")) (member (codes "inputs") (array (item (table (member (codes "bound") (integer (pos 12000)) (member (codes "width") (integer (pos 16)) (no_members)))) (no_items))) (member (codes "k") (array (item (string (codes "-0.90553314901352354")) (item (string (codes "0.87452575888362697")) (item (string (codes "-0.63288866218612674")) (item (string (codes "0.18737949236818492")) (no_items)))))) (member (codes "outputs") (array (item (table (member (codes "error") (string (codes "3")) (member (codes "width") (integer (pos 16)) (no_members)))) (no_items))) (member (codes "v") (array (item (string (codes "0.048833017209118986")) (item (string (codes "0.11209451325686592")) (item (string (codes "0.086950552367782329")) (item (string (codes "0.030728717768085796")) (item (string (codes "0.0048243433577162304")) (no_items))))))) (no_members)))))

abbrev pub lattice4_filter : Filter
lattice4_filter = record {
  input_low = pos 0;
  inputs = record { width = 16; bound = pos 12000 } ∷ [];
  outputs = record { row = 8; width = 16; low = pos 0; error = record { num = pos 3; den = Ten 0 }; target = pos 55340232221128654848 } ∷ [];
  coefficients = coefficients.Lattice (record { num = negsuc 90553314901352353; den = Ten 17 } ∷ record { num = pos 87452575888362697; den = Ten 17 } ∷ record { num = negsuc 63288866218612673; den = Ten 17 } ∷ record { num = pos 18737949236818492; den = Ten 17 } ∷ []) (record { num = pos 48833017209118986; den = Ten 18 } ∷ record { num = pos 11209451325686592; den = Ten 17 } ∷ record { num = pos 86950552367782329; den = Ten 18 } ∷ record { num = pos 30728717768085796; den = Ten 18 } ∷ record { num = pos 48243433577162304; den = Ten 19 } ∷ []);
  settings = record { structure = structure.Lattice; rounding = Nearest; accumulator = 64; word = 32; guards = 0 ∷ 4 ∷ 8 ∷ []; fractions = 14 ∷ 20 ∷ 26 ∷ []; lengths = 64 ∷ 256 ∷ 1024 ∷ 4096 ∷ [] };
  equations = record { rows = 9; inputs = 1; terms = record { row = 0; coef = record { num = pos 1; den = Ten 0 }; from = In 0; lag = 0 } ∷ record { row = 0; coef = record { num = negsuc 18737949236818491; den = Ten 17 }; from = Row 6; lag = 1 } ∷ record { row = 1; coef = record { num = pos 1; den = Ten 0 }; from = Row 0; lag = 0 } ∷ record { row = 1; coef = record { num = pos 63288866218612674; den = Ten 17 }; from = Row 5; lag = 1 } ∷ record { row = 2; coef = record { num = pos 1; den = Ten 0 }; from = Row 1; lag = 0 } ∷ record { row = 2; coef = record { num = negsuc 87452575888362696; den = Ten 17 }; from = Row 4; lag = 1 } ∷ record { row = 3; coef = record { num = pos 1; den = Ten 0 }; from = Row 2; lag = 0 } ∷ record { row = 3; coef = record { num = pos 90553314901352354; den = Ten 17 }; from = Row 3; lag = 1 } ∷ record { row = 4; coef = record { num = negsuc 90553314901352353; den = Ten 17 }; from = Row 3; lag = 0 } ∷ record { row = 4; coef = record { num = pos 1; den = Ten 0 }; from = Row 3; lag = 1 } ∷ record { row = 5; coef = record { num = pos 87452575888362697; den = Ten 17 }; from = Row 2; lag = 0 } ∷ record { row = 5; coef = record { num = pos 1; den = Ten 0 }; from = Row 4; lag = 1 } ∷ record { row = 6; coef = record { num = negsuc 63288866218612673; den = Ten 17 }; from = Row 1; lag = 0 } ∷ record { row = 6; coef = record { num = pos 1; den = Ten 0 }; from = Row 5; lag = 1 } ∷ record { row = 7; coef = record { num = pos 18737949236818492; den = Ten 17 }; from = Row 0; lag = 0 } ∷ record { row = 7; coef = record { num = pos 1; den = Ten 0 }; from = Row 6; lag = 1 } ∷ record { row = 8; coef = record { num = pos 48833017209118986; den = Ten 18 }; from = Row 3; lag = 0 } ∷ record { row = 8; coef = record { num = pos 11209451325686592; den = Ten 17 }; from = Row 4; lag = 0 } ∷ record { row = 8; coef = record { num = pos 86950552367782329; den = Ten 18 }; from = Row 5; lag = 0 } ∷ record { row = 8; coef = record { num = pos 30728717768085796; den = Ten 18 }; from = Row 6; lag = 0 } ∷ record { row = 8; coef = record { num = pos 48243433577162304; den = Ten 19 }; from = Row 7; lag = 0 } ∷ []; outputs = 8 ∷ [] };
}

lattice4_read : filter_in lattice4_table ≡ Ok lattice4_filter
unfolding filter_in head_in only_keys ports_in inputs_in outputs_in tables_in input_in each_input error_in output_in each_output single outputs_fit settings_in all_tables item_count all_whole each_natural naturals numeral_at all_numerals each_numeral entries_in all_rows rows_in row_of each_exactly each_row matrix each_monic polynomial_in transfer_in cascade_in state_rows matrix_in space_in reflections_in taps_in ladder_in assembled with_rows numeral parts_in exponent_in digits_value
lattice4_read = refl

pub lattice4_described : Describes lattice4_table lattice4_filter
lattice4_described = filter_read lattice4_table lattice4_filter lattice4_read

abbrev pub lead_lag_table : Members
lead_lag_table = member (codes "form") (string (codes "sos")) (member (codes "guards") (array (item (integer (pos 4)) (item (integer (pos 8)) (item (integer (pos 12)) (no_items))))) (member (codes "inputs") (array (item (table (member (codes "bound") (integer (pos 4000)) (member (codes "width") (integer (pos 14)) (no_members)))) (no_items))) (member (codes "outputs") (array (item (table (member (codes "error") (string (codes "3")) (member (codes "width") (integer (pos 16)) (no_members)))) (no_items))) (member (codes "sections") (array (item (array (item (string (codes "9.3333333333333333")) (item (string (codes "-9.1851851851851852")) (item (string (codes "0")) (item (string (codes "1")) (item (string (codes "-0.85185185185185185")) (item (string (codes "0")) (no_items)))))))) (item (array (item (string (codes "0.25037481259370315")) (item (string (codes "-0.24937531234382809")) (item (string (codes "0")) (item (string (codes "1")) (item (string (codes "-0.99900049975012494")) (item (string (codes "0")) (no_items)))))))) (no_items)))) (member (codes "structure") (string (codes "df1")) (no_members))))))

abbrev pub lead_lag_filter : Filter
lead_lag_filter = record {
  input_low = pos 0;
  inputs = record { width = 14; bound = pos 4000 } ∷ [];
  outputs = record { row = 1; width = 16; low = pos 0; error = record { num = pos 3; den = Ten 0 }; target = pos 55340232221128654848 } ∷ [];
  coefficients = coefficients.Sos (record { num = pos 93333333333333333; den = Ten 16 } ∷ record { num = negsuc 91851851851851851; den = Ten 16 } ∷ record { num = pos 0; den = Ten 0 } ∷ record { num = pos 1; den = Ten 0 } ∷ record { num = negsuc 85185185185185184; den = Ten 17 } ∷ record { num = pos 0; den = Ten 0 } ∷ record { num = pos 25037481259370315; den = Ten 17 } ∷ record { num = negsuc 24937531234382808; den = Ten 17 } ∷ record { num = pos 0; den = Ten 0 } ∷ record { num = pos 1; den = Ten 0 } ∷ record { num = negsuc 99900049975012493; den = Ten 17 } ∷ record { num = pos 0; den = Ten 0 } ∷ []);
  settings = record { structure = structure.Df1; rounding = Nearest; accumulator = 64; word = 32; guards = 4 ∷ 8 ∷ 12 ∷ []; fractions = 14 ∷ 20 ∷ 26 ∷ []; lengths = 64 ∷ 256 ∷ 1024 ∷ 4096 ∷ [] };
  equations = record { rows = 2; inputs = 1; terms = record { row = 0; coef = record { num = pos 93333333333333333; den = Ten 16 }; from = In 0; lag = 0 } ∷ record { row = 0; coef = record { num = negsuc 91851851851851851; den = Ten 16 }; from = In 0; lag = 1 } ∷ record { row = 0; coef = record { num = pos 85185185185185185; den = Ten 17 }; from = Row 0; lag = 1 } ∷ record { row = 1; coef = record { num = pos 25037481259370315; den = Ten 17 }; from = Row 0; lag = 0 } ∷ record { row = 1; coef = record { num = negsuc 24937531234382808; den = Ten 17 }; from = Row 0; lag = 1 } ∷ record { row = 1; coef = record { num = pos 99900049975012494; den = Ten 17 }; from = Row 1; lag = 1 } ∷ []; outputs = 1 ∷ [] };
}

lead_lag_read : filter_in lead_lag_table ≡ Ok lead_lag_filter
unfolding filter_in head_in only_keys ports_in inputs_in outputs_in tables_in input_in each_input error_in output_in each_output single outputs_fit settings_in all_tables item_count all_whole each_natural naturals numeral_at all_numerals each_numeral entries_in all_rows rows_in row_of each_exactly each_row matrix each_monic polynomial_in transfer_in cascade_in state_rows matrix_in space_in reflections_in taps_in ladder_in assembled with_rows numeral parts_in exponent_in digits_value
lead_lag_read = refl

pub lead_lag_described : Describes lead_lag_table lead_lag_filter
lead_lag_described = filter_read lead_lag_table lead_lag_filter lead_lag_read

abbrev pub low_pass_table : Members
low_pass_table = member (codes "a") (array (item (string (codes "1")) (item (string (codes "-1.8153410827045681")) (item (string (codes "0.83100558934675755")) (no_items))))) (member (codes "b") (array (item (string (codes "0.0039161266605473695")) (item (string (codes "0.007832253321094739")) (item (string (codes "0.0039161266605473695")) (no_items))))) (member (codes "form") (string (codes "tf")) (member (codes "inputs") (array (item (table (member (codes "bound") (integer (pos 16384)) (member (codes "width") (integer (pos 16)) (no_members)))) (no_items))) (member (codes "outputs") (array (item (table (member (codes "error") (string (codes "2")) (member (codes "width") (integer (pos 16)) (no_members)))) (no_items))) (no_members)))))

abbrev pub low_pass_filter : Filter
low_pass_filter = record {
  input_low = pos 0;
  inputs = record { width = 16; bound = pos 16384 } ∷ [];
  outputs = record { row = 0; width = 16; low = pos 0; error = record { num = pos 2; den = Ten 0 }; target = pos 36893488147419103232 } ∷ [];
  coefficients = coefficients.Tf (record { num = pos 39161266605473695; den = Ten 19 } ∷ record { num = pos 7832253321094739; den = Ten 18 } ∷ record { num = pos 39161266605473695; den = Ten 19 } ∷ []) (record { num = pos 1; den = Ten 0 } ∷ record { num = negsuc 18153410827045680; den = Ten 16 } ∷ record { num = pos 83100558934675755; den = Ten 17 } ∷ []);
  settings = record { structure = structure.Df1; rounding = Nearest; accumulator = 64; word = 32; guards = 0 ∷ 4 ∷ 8 ∷ []; fractions = 14 ∷ 20 ∷ 26 ∷ []; lengths = 64 ∷ 256 ∷ 1024 ∷ 4096 ∷ [] };
  equations = record { rows = 1; inputs = 1; terms = record { row = 0; coef = record { num = pos 39161266605473695; den = Ten 19 }; from = In 0; lag = 0 } ∷ record { row = 0; coef = record { num = pos 7832253321094739; den = Ten 18 }; from = In 0; lag = 1 } ∷ record { row = 0; coef = record { num = pos 39161266605473695; den = Ten 19 }; from = In 0; lag = 2 } ∷ record { row = 0; coef = record { num = pos 18153410827045681; den = Ten 16 }; from = Row 0; lag = 1 } ∷ record { row = 0; coef = record { num = negsuc 83100558934675754; den = Ten 17 }; from = Row 0; lag = 2 } ∷ []; outputs = 0 ∷ [] };
}

low_pass_read : filter_in low_pass_table ≡ Ok low_pass_filter
unfolding filter_in head_in only_keys ports_in inputs_in outputs_in tables_in input_in each_input error_in output_in each_output single outputs_fit settings_in all_tables item_count all_whole each_natural naturals numeral_at all_numerals each_numeral entries_in all_rows rows_in row_of each_exactly each_row matrix each_monic polynomial_in transfer_in cascade_in state_rows matrix_in space_in reflections_in taps_in ladder_in assembled with_rows numeral parts_in exponent_in digits_value
low_pass_read = refl

pub low_pass_described : Describes low_pass_table low_pass_filter
low_pass_described = filter_read low_pass_table low_pass_filter low_pass_read

abbrev pub moving_average_table : Members
moving_average_table = member (codes "a") (array (item (integer (pos 1)) (no_items))) (member (codes "accumulator") (integer (pos 16)) (member (codes "b") (array (item (string (codes "0.125")) (item (string (codes "0.125")) (item (string (codes "0.125")) (item (string (codes "0.125")) (item (string (codes "0.125")) (item (string (codes "0.125")) (item (string (codes "0.125")) (item (string (codes "0.125")) (no_items)))))))))) (member (codes "form") (string (codes "tf")) (member (codes "inputs") (array (item (table (member (codes "width") (integer (pos 12)) (no_members))) (no_items))) (member (codes "lengths") (array (item (integer (pos 8)) (no_items))) (member (codes "outputs") (array (item (table (member (codes "error") (string (codes "0.5")) (member (codes "width") (integer (pos 12)) (no_members)))) (no_items))) (member (codes "structure") (string (codes "fir")) (no_members))))))))

abbrev pub moving_average_filter : Filter
moving_average_filter = record {
  input_low = pos 0;
  inputs = record { width = 12; bound = pos 2047 } ∷ [];
  outputs = record { row = 0; width = 12; low = pos 0; error = record { num = pos 5; den = Ten 1 }; target = pos 9223372036854775808 } ∷ [];
  coefficients = coefficients.Tf (record { num = pos 125; den = Ten 3 } ∷ record { num = pos 125; den = Ten 3 } ∷ record { num = pos 125; den = Ten 3 } ∷ record { num = pos 125; den = Ten 3 } ∷ record { num = pos 125; den = Ten 3 } ∷ record { num = pos 125; den = Ten 3 } ∷ record { num = pos 125; den = Ten 3 } ∷ record { num = pos 125; den = Ten 3 } ∷ []) (record { num = pos 1; den = Ten 0 } ∷ []);
  settings = record { structure = structure.Fir; rounding = Nearest; accumulator = 16; word = 32; guards = 0 ∷ 4 ∷ 8 ∷ []; fractions = 14 ∷ 20 ∷ 26 ∷ []; lengths = 8 ∷ [] };
  equations = record { rows = 1; inputs = 1; terms = record { row = 0; coef = record { num = pos 125; den = Ten 3 }; from = In 0; lag = 0 } ∷ record { row = 0; coef = record { num = pos 125; den = Ten 3 }; from = In 0; lag = 1 } ∷ record { row = 0; coef = record { num = pos 125; den = Ten 3 }; from = In 0; lag = 2 } ∷ record { row = 0; coef = record { num = pos 125; den = Ten 3 }; from = In 0; lag = 3 } ∷ record { row = 0; coef = record { num = pos 125; den = Ten 3 }; from = In 0; lag = 4 } ∷ record { row = 0; coef = record { num = pos 125; den = Ten 3 }; from = In 0; lag = 5 } ∷ record { row = 0; coef = record { num = pos 125; den = Ten 3 }; from = In 0; lag = 6 } ∷ record { row = 0; coef = record { num = pos 125; den = Ten 3 }; from = In 0; lag = 7 } ∷ []; outputs = 0 ∷ [] };
}

moving_average_read : filter_in moving_average_table ≡ Ok moving_average_filter
unfolding filter_in head_in only_keys ports_in inputs_in outputs_in tables_in input_in each_input error_in output_in each_output single outputs_fit settings_in all_tables item_count all_whole each_natural naturals numeral_at all_numerals each_numeral entries_in all_rows rows_in row_of each_exactly each_row matrix each_monic polynomial_in transfer_in cascade_in state_rows matrix_in space_in reflections_in taps_in ladder_in assembled with_rows numeral parts_in exponent_in digits_value
moving_average_read = rw (decimal_digit 1 (lit< tt)) refl

pub moving_average_described : Describes moving_average_table moving_average_filter
moving_average_described = filter_read moving_average_table moving_average_filter moving_average_read

abbrev pub notch_table : Members
notch_table = member (codes "a") (array (item (string (codes "1")) (item (string (codes "-1.8731709497482241")) (item (string (codes "0.96956849320077512")) (no_items))))) (member (codes "accumulator") (integer (pos 32)) (member (codes "b") (array (item (string (codes "0.98478424660038756")) (item (string (codes "-1.8731709497482241")) (item (string (codes "0.98478424660038756")) (no_items))))) (member (codes "form") (string (codes "tf")) (member (codes "input_low") (integer (negsuc 7)) (member (codes "inputs") (array (item (table (member (codes "bound") (integer (pos 12000)) (member (codes "width") (integer (pos 16)) (no_members)))) (no_items))) (member (codes "outputs") (array (item (table (member (codes "error") (string (codes "1.5")) (member (codes "width") (integer (pos 16)) (no_members)))) (no_items))) (member (codes "structure") (string (codes "df2t")) (no_members))))))))

abbrev pub notch_filter : Filter
notch_filter = record {
  input_low = negsuc 7;
  inputs = record { width = 16; bound = pos 12000 } ∷ [];
  outputs = record { row = 0; width = 16; low = negsuc 7; error = record { num = pos 15; den = Ten 1 }; target = pos 27670116110564327424 } ∷ [];
  coefficients = coefficients.Tf (record { num = pos 98478424660038756; den = Ten 17 } ∷ record { num = negsuc 18731709497482240; den = Ten 16 } ∷ record { num = pos 98478424660038756; den = Ten 17 } ∷ []) (record { num = pos 1; den = Ten 0 } ∷ record { num = negsuc 18731709497482240; den = Ten 16 } ∷ record { num = pos 96956849320077512; den = Ten 17 } ∷ []);
  settings = record { structure = structure.Df2t; rounding = Nearest; accumulator = 32; word = 32; guards = 0 ∷ 4 ∷ 8 ∷ []; fractions = 14 ∷ 20 ∷ 26 ∷ []; lengths = 64 ∷ 256 ∷ 1024 ∷ 4096 ∷ [] };
  equations = record { rows = 1; inputs = 1; terms = record { row = 0; coef = record { num = pos 98478424660038756; den = Ten 17 }; from = In 0; lag = 0 } ∷ record { row = 0; coef = record { num = negsuc 18731709497482240; den = Ten 16 }; from = In 0; lag = 1 } ∷ record { row = 0; coef = record { num = pos 98478424660038756; den = Ten 17 }; from = In 0; lag = 2 } ∷ record { row = 0; coef = record { num = pos 18731709497482241; den = Ten 16 }; from = Row 0; lag = 1 } ∷ record { row = 0; coef = record { num = negsuc 96956849320077511; den = Ten 17 }; from = Row 0; lag = 2 } ∷ []; outputs = 0 ∷ [] };
}

notch_read : filter_in notch_table ≡ Ok notch_filter
unfolding filter_in head_in only_keys ports_in inputs_in outputs_in tables_in input_in each_input error_in output_in each_output single outputs_fit settings_in all_tables item_count all_whole each_natural naturals numeral_at all_numerals each_numeral entries_in all_rows rows_in row_of each_exactly each_row matrix each_monic polynomial_in transfer_in cascade_in state_rows matrix_in space_in reflections_in taps_in ladder_in assembled with_rows numeral parts_in exponent_in digits_value
notch_read = refl

pub notch_described : Describes notch_table notch_filter
notch_described = filter_read notch_table notch_filter notch_read

abbrev pub peaking_equaliser_table : Members
peaking_equaliser_table = member (codes "form") (string (codes "sos")) (member (codes "inputs") (array (item (table (member (codes "bound") (integer (pos 32767)) (member (codes "width") (integer (pos 16)) (no_members)))) (no_items))) (member (codes "outputs") (array (item (table (member (codes "error") (string (codes "2")) (member (codes "low") (integer (negsuc 1)) (member (codes "width") (integer (pos 20)) (no_members))))) (no_items))) (member (codes "sections") (array (item (array (item (string (codes "1.0748072607706671")) (item (string (codes "-1.7515113564680519")) (item (string (codes "0.77486601702644074")) (item (string (codes "1")) (item (string (codes "-1.7515113564680519")) (item (string (codes "0.84967327779710781")) (no_items)))))))) (no_items))) (member (codes "structure") (string (codes "df2t")) (no_members)))))

abbrev pub peaking_equaliser_filter : Filter
peaking_equaliser_filter = record {
  input_low = pos 0;
  inputs = record { width = 16; bound = pos 32767 } ∷ [];
  outputs = record { row = 0; width = 20; low = negsuc 1; error = record { num = pos 2; den = Ten 0 }; target = pos 36893488147419103232 } ∷ [];
  coefficients = coefficients.Sos (record { num = pos 10748072607706671; den = Ten 16 } ∷ record { num = negsuc 17515113564680518; den = Ten 16 } ∷ record { num = pos 77486601702644074; den = Ten 17 } ∷ record { num = pos 1; den = Ten 0 } ∷ record { num = negsuc 17515113564680518; den = Ten 16 } ∷ record { num = pos 84967327779710781; den = Ten 17 } ∷ []);
  settings = record { structure = structure.Df2t; rounding = Nearest; accumulator = 64; word = 32; guards = 0 ∷ 4 ∷ 8 ∷ []; fractions = 14 ∷ 20 ∷ 26 ∷ []; lengths = 64 ∷ 256 ∷ 1024 ∷ 4096 ∷ [] };
  equations = record { rows = 1; inputs = 1; terms = record { row = 0; coef = record { num = pos 10748072607706671; den = Ten 16 }; from = In 0; lag = 0 } ∷ record { row = 0; coef = record { num = negsuc 17515113564680518; den = Ten 16 }; from = In 0; lag = 1 } ∷ record { row = 0; coef = record { num = pos 77486601702644074; den = Ten 17 }; from = In 0; lag = 2 } ∷ record { row = 0; coef = record { num = pos 17515113564680519; den = Ten 16 }; from = Row 0; lag = 1 } ∷ record { row = 0; coef = record { num = negsuc 84967327779710780; den = Ten 17 }; from = Row 0; lag = 2 } ∷ []; outputs = 0 ∷ [] };
}

peaking_equaliser_read : filter_in peaking_equaliser_table ≡ Ok peaking_equaliser_filter
unfolding filter_in head_in only_keys ports_in inputs_in outputs_in tables_in input_in each_input error_in output_in each_output single outputs_fit settings_in all_tables item_count all_whole each_natural naturals numeral_at all_numerals each_numeral entries_in all_rows rows_in row_of each_exactly each_row matrix each_monic polynomial_in transfer_in cascade_in state_rows matrix_in space_in reflections_in taps_in ladder_in assembled with_rows numeral parts_in exponent_in digits_value
peaking_equaliser_read = refl

pub peaking_equaliser_described : Describes peaking_equaliser_table peaking_equaliser_filter
peaking_equaliser_described = filter_read peaking_equaliser_table peaking_equaliser_filter peaking_equaliser_read

abbrev pub two_masses_table : Members
two_masses_table = member (codes "A") (array (item (array (item (string (codes "0.98758139935901399")) (item (string (codes "0.018961365749011179")) (item (string (codes "0.0046931539427885035")) (item (string (codes "0.00040725772274287582")) (no_items)))))) (item (array (item (string (codes "-1.2121258875485828")) (item (string (codes "0.8944036015049296")) (item (string (codes "0.45367125758813567")) (item (string (codes "0.040986854549839357")) (no_items)))))) (item (array (item (string (codes "0.0093735857226490888")) (item (string (codes "0.00081451544548575163")) (item (string (codes "0.99041001388761501")) (item (string (codes "0.019168175151114596")) (no_items)))))) (item (array (item (string (codes "0.90546525359915595")) (item (string (codes "0.081973709099678715")) (item (string (codes "-0.93804587141858601")) (item (string (codes "0.91536634417412813")) (no_items)))))) (no_items)))))) (member (codes "B") (array (item (array (item (string (codes "0.019313616745493765")) (item (string (codes "0.00054100097433975107")) (no_items)))) (item (array (item (string (codes "1.8961365749011179")) (item (string (codes "0.081451544548575163")) (no_items)))) (item (array (item (string (codes "0.00054100097433975107")) (item (string (codes "0.038900945423879708")) (no_items)))) (item (array (item (string (codes "0.081451544548575163")) (item (string (codes "3.8336350302229192")) (no_items)))) (no_items)))))) (member (codes "C") (array (item (array (item (string (codes "1")) (item (string (codes "0")) (item (string (codes "0")) (item (string (codes "0")) (no_items)))))) (item (array (item (string (codes "0")) (item (string (codes "0")) (item (string (codes "1")) (item (string (codes "0")) (no_items)))))) (no_items)))) (member (codes "D") (array (item (array (item (string (codes "0")) (item (string (codes "0")) (no_items)))) (item (array (item (string (codes "0")) (item (string (codes "0")) (no_items)))) (no_items)))) (member (codes "form") (string (codes "ss")) (member (codes "guards") (array (item (integer (pos 4)) (item (integer (pos 8)) (item (integer (pos 12)) (no_items))))) (member (codes "input_low") (integer (negsuc 7)) (member (codes "inputs") (array (item (table (member (codes "bound") (integer (pos 256)) (member (codes "width") (integer (pos 12)) (no_members)))) (item (table (member (codes "bound") (integer (pos 256)) (member (codes "width") (integer (pos 12)) (no_members)))) (no_items)))) (member (codes "lengths") (array (item (integer (pos 256)) (item (integer (pos 1024)) (no_items)))) (member (codes "outputs") (array (item (table (member (codes "error") (string (codes "4")) (member (codes "width") (integer (pos 20)) (no_members)))) (item (table (member (codes "error") (string (codes "4")) (member (codes "width") (integer (pos 20)) (no_members)))) (no_items)))) (no_members))))))))))

abbrev pub two_masses_filter : Filter
two_masses_filter = record {
  input_low = negsuc 7;
  inputs = record { width = 12; bound = pos 256 } ∷ record { width = 12; bound = pos 256 } ∷ [];
  outputs = record { row = 4; width = 20; low = negsuc 7; error = record { num = pos 4; den = Ten 0 }; target = pos 73786976294838206464 } ∷ record { row = 5; width = 20; low = negsuc 7; error = record { num = pos 4; den = Ten 0 }; target = pos 73786976294838206464 } ∷ [];
  coefficients = coefficients.Ss 4 (record { num = pos 98758139935901399; den = Ten 17 } ∷ record { num = pos 18961365749011179; den = Ten 18 } ∷ record { num = pos 46931539427885035; den = Ten 19 } ∷ record { num = pos 40725772274287582; den = Ten 20 } ∷ record { num = negsuc 12121258875485827; den = Ten 16 } ∷ record { num = pos 8944036015049296; den = Ten 16 } ∷ record { num = pos 45367125758813567; den = Ten 17 } ∷ record { num = pos 40986854549839357; den = Ten 18 } ∷ record { num = pos 93735857226490888; den = Ten 19 } ∷ record { num = pos 81451544548575163; den = Ten 20 } ∷ record { num = pos 99041001388761501; den = Ten 17 } ∷ record { num = pos 19168175151114596; den = Ten 18 } ∷ record { num = pos 90546525359915595; den = Ten 17 } ∷ record { num = pos 81973709099678715; den = Ten 18 } ∷ record { num = negsuc 93804587141858600; den = Ten 17 } ∷ record { num = pos 91536634417412813; den = Ten 17 } ∷ []) (record { num = pos 19313616745493765; den = Ten 18 } ∷ record { num = pos 54100097433975107; den = Ten 20 } ∷ record { num = pos 18961365749011179; den = Ten 16 } ∷ record { num = pos 81451544548575163; den = Ten 18 } ∷ record { num = pos 54100097433975107; den = Ten 20 } ∷ record { num = pos 38900945423879708; den = Ten 18 } ∷ record { num = pos 81451544548575163; den = Ten 18 } ∷ record { num = pos 38336350302229192; den = Ten 16 } ∷ []) (record { num = pos 1; den = Ten 0 } ∷ record { num = pos 0; den = Ten 0 } ∷ record { num = pos 0; den = Ten 0 } ∷ record { num = pos 0; den = Ten 0 } ∷ record { num = pos 0; den = Ten 0 } ∷ record { num = pos 0; den = Ten 0 } ∷ record { num = pos 1; den = Ten 0 } ∷ record { num = pos 0; den = Ten 0 } ∷ []) (record { num = pos 0; den = Ten 0 } ∷ record { num = pos 0; den = Ten 0 } ∷ record { num = pos 0; den = Ten 0 } ∷ record { num = pos 0; den = Ten 0 } ∷ []);
  settings = record { structure = structure.Ss; rounding = Nearest; accumulator = 64; word = 32; guards = 4 ∷ 8 ∷ 12 ∷ []; fractions = 14 ∷ 20 ∷ 26 ∷ []; lengths = 256 ∷ 1024 ∷ [] };
  equations = record { rows = 6; inputs = 2; terms = record { row = 0; coef = record { num = pos 98758139935901399; den = Ten 17 }; from = Row 0; lag = 1 } ∷ record { row = 0; coef = record { num = pos 18961365749011179; den = Ten 18 }; from = Row 1; lag = 1 } ∷ record { row = 0; coef = record { num = pos 46931539427885035; den = Ten 19 }; from = Row 2; lag = 1 } ∷ record { row = 0; coef = record { num = pos 40725772274287582; den = Ten 20 }; from = Row 3; lag = 1 } ∷ record { row = 0; coef = record { num = pos 19313616745493765; den = Ten 18 }; from = In 0; lag = 0 } ∷ record { row = 0; coef = record { num = pos 54100097433975107; den = Ten 20 }; from = In 1; lag = 0 } ∷ record { row = 1; coef = record { num = negsuc 12121258875485827; den = Ten 16 }; from = Row 0; lag = 1 } ∷ record { row = 1; coef = record { num = pos 8944036015049296; den = Ten 16 }; from = Row 1; lag = 1 } ∷ record { row = 1; coef = record { num = pos 45367125758813567; den = Ten 17 }; from = Row 2; lag = 1 } ∷ record { row = 1; coef = record { num = pos 40986854549839357; den = Ten 18 }; from = Row 3; lag = 1 } ∷ record { row = 1; coef = record { num = pos 18961365749011179; den = Ten 16 }; from = In 0; lag = 0 } ∷ record { row = 1; coef = record { num = pos 81451544548575163; den = Ten 18 }; from = In 1; lag = 0 } ∷ record { row = 2; coef = record { num = pos 93735857226490888; den = Ten 19 }; from = Row 0; lag = 1 } ∷ record { row = 2; coef = record { num = pos 81451544548575163; den = Ten 20 }; from = Row 1; lag = 1 } ∷ record { row = 2; coef = record { num = pos 99041001388761501; den = Ten 17 }; from = Row 2; lag = 1 } ∷ record { row = 2; coef = record { num = pos 19168175151114596; den = Ten 18 }; from = Row 3; lag = 1 } ∷ record { row = 2; coef = record { num = pos 54100097433975107; den = Ten 20 }; from = In 0; lag = 0 } ∷ record { row = 2; coef = record { num = pos 38900945423879708; den = Ten 18 }; from = In 1; lag = 0 } ∷ record { row = 3; coef = record { num = pos 90546525359915595; den = Ten 17 }; from = Row 0; lag = 1 } ∷ record { row = 3; coef = record { num = pos 81973709099678715; den = Ten 18 }; from = Row 1; lag = 1 } ∷ record { row = 3; coef = record { num = negsuc 93804587141858600; den = Ten 17 }; from = Row 2; lag = 1 } ∷ record { row = 3; coef = record { num = pos 91536634417412813; den = Ten 17 }; from = Row 3; lag = 1 } ∷ record { row = 3; coef = record { num = pos 81451544548575163; den = Ten 18 }; from = In 0; lag = 0 } ∷ record { row = 3; coef = record { num = pos 38336350302229192; den = Ten 16 }; from = In 1; lag = 0 } ∷ record { row = 4; coef = record { num = pos 1; den = Ten 0 }; from = Row 0; lag = 1 } ∷ record { row = 5; coef = record { num = pos 1; den = Ten 0 }; from = Row 2; lag = 1 } ∷ []; outputs = 4 ∷ 5 ∷ [] };
}

two_masses_read : filter_in two_masses_table ≡ Ok two_masses_filter
unfolding filter_in head_in only_keys ports_in inputs_in outputs_in tables_in input_in each_input error_in output_in each_output single outputs_fit settings_in all_tables item_count all_whole each_natural naturals numeral_at all_numerals each_numeral entries_in all_rows rows_in row_of each_exactly each_row matrix each_monic polynomial_in transfer_in cascade_in state_rows matrix_in space_in reflections_in taps_in ladder_in assembled with_rows numeral parts_in exponent_in digits_value
two_masses_read = refl

pub two_masses_described : Describes two_masses_table two_masses_filter
two_masses_described = filter_read two_masses_table two_masses_filter two_masses_read
