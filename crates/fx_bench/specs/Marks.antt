-- What calls leave in a checksum.
use Rattle.std.specs.Prelude.{ℕ, zero, suc, ◌+◌, ◌/◌, ◌%◌, ◌^◌, ℤ, pos, ◌+ℤ◌, unsigned_abs, List, [], length}
use Rattle.std.specs.Prelude.{slice_index_or, Result, Ok, Err}
use Rattle.std.specs.List.{sum}
use Rattle.fx_nums.specs.Fraction.{Fraction, tens}
use Rattle.fx_decimal.specs.declared.fault.DecimalFault.{DecimalFault}
use Rattle.fx_decimal.specs.Faults.{numeral}
use Rattle.fx_decimal.specs.Printed.{up_text}
use Rattle.fx_bench.specs.Checksum.{mixed}

-- the magnitude of the numerator and the places; nothing for a fault
abbrev pub read_mark : Result Fraction DecimalFault → ℕ
read_mark (Ok c) = unsigned_abs c.num + tens c.den
read_mark (Err fault) = 0

-- the sum of the bytes that a value is printed as, up with nine places
abbrev pub printed_mark : ℤ → ℕ
printed_mark v = sum (up_text v 9)

-- the numeral that a call reads: the calls go round the table, moved on by the first four bits of
-- the checksum so far
abbrev pub numeral_of_call : List (List ℕ) → ℕ → ℕ → List ℕ
numeral_of_call numerals call sum =
    slice_index_or numerals ((call + sum / 2 ^ 60) % length numerals) []

-- the checksum of so many calls, each on the numeral that the calls before it lead to
unfoldable pub read_sum : List (List ℕ) → ℕ → ℕ
read_sum numerals zero = 0
read_sum numerals (suc call) =
    mixed (read_sum numerals call)
    (read_mark (numeral (numeral_of_call numerals call (read_sum numerals call))))

-- the value that a call prints: the calls go round the table, and the last 34 bits of the checksum
-- so far are added
abbrev pub value_of_call : List ℤ → ℕ → ℕ → ℤ
value_of_call values call sum =
    slice_index_or values (call % length values) (pos 0) +ℤ pos (sum % 2 ^ 34)

-- the checksum of so many calls, each on the value that the calls before it lead to
unfoldable pub printed_sum : List ℤ → ℕ → ℕ
printed_sum values zero = 0
printed_sum values (suc call) =
    mixed (printed_sum values call)
    (printed_mark (value_of_call values call (printed_sum values call)))
