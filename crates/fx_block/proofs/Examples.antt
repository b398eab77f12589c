-- The inequalities on small filters, programs and certificates: what passes, and the first failure with both sides,
-- computed.
use Rattle.std.proofs.Common.{◌≡◌, ℕ, ◌*◌, ◌^◌, refl, List, [], ◌∷◌, None, Some}
use Rattle.std.proofs.Math.IntN.{ℤ, pos, negsuc, ◌*ℤ◌}
use Rattle.fx_nums.specs.Fraction.{Fraction, one_fraction}
use Rattle.fx_nums.specs.Products.{product_down, product_up}
use Rattle.fx_nums.specs.declared.fraction.Den.TheVariants.{Ten}
use Rattle.fx_eqs.specs.declared.mode.Mode.{Mode}
use Rattle.fx_eqs.specs.declared.mode.Mode.TheVariants.{Nearest, Floor}
use Rattle.fx_eqs.specs.Textbook.{tf_equations}
use Rattle.fx_files.specs.Coefficients.{Tf}
use Rattle.fx_files.specs.Filter.{Filter}
use Rattle.fx_files.specs.declared.forms.Structure.TheVariants.{Df1}
use Rattle.fx_net.specs.Rows.{put_rows, row_of}
use Rattle.fx_code.specs.Code.{Code, Row}
use Rattle.fx_code.specs.declared.term.CodeTerm.{CodeTerm}
use Rattle.fx_code.specs.declared.term.Read.{Read}
use Rattle.fx_code.specs.declared.term.Read.TheVariants.{Now, Old, In}
use Rattle.fx_cert.specs.Certificate.{Certificate}
use Rattle.fx_sweep.specs.Weights.{hand_on, carry, to_input}
use Rattle.fx_sweep.specs.declared.target.Place.TheVariants.{Rest}
use Rattle.fx_block.specs.Candidate.{Trial, trial}
use Rattle.fx_block.specs.Candidate.Trial.{Passed, OverCap}
use Rattle.fx_block.specs.Joint.{net_of}
use Rattle.fx_block.specs.Raising.{least_by_raises, raises}
use Rattle.fx_block.specs.Raising.Raises.{Over, Slow}
use Rattle.fx_block.specs.Failure.{first_failure, bound_failure, error_failure}
use Rattle.fx_block.specs.declared.inequality.Inequality.TheVariants.{Accumulator, Sweep, Bound, Word, Sum}
use Rattle.fx_block.specs.declared.inequality.Inequality.TheVariants.{Error, Wanted}

-- ---- in short

abbrev over_ten : ℤ → ℕ → Fraction
over_ten n d = record { num = n; den = Ten d }

-- a transfer function with words of 16 bits, inputs up to a bound, and one output with a low position and a wanted
-- error
abbrev filter_of : List Fraction → List Fraction → ℤ → ℕ → ℤ → ℤ → Filter
filter_of b a bound accumulator low error = record {
  input_low = pos 0;
  inputs = record { width = 16; bound = bound } ∷ [];
  outputs = record { row = 0; width = 16; low = low; error = over_ten error 0; target = error *ℤ pos (2 ^ 64) } ∷ [];
  coefficients = Tf b a;
  settings = record {
    structure = Df1;
    rounding = Nearest;
    accumulator = accumulator;
    word = 32;
    guards = [];
    fractions =
        [];
    lengths = [];
  };
  equations = tf_equations b a;
}

abbrev term : ℤ → Read → ℕ → CodeTerm
term coef from left = record { coef = coef; from = from; left = left }

abbrev row_in : Mode → ℕ → List CodeTerm → Row
row_in mode shift terms = record { width = 16; own = record { shift = shift; mode = mode; terms = terms } }

abbrev row : ℕ → List CodeTerm → Row
row shift terms = row_in Nearest shift terms

-- its last row is put out
abbrev code_of : ℕ → ℕ → List Row → Code
code_of accumulator output rows =
    record { accumulator = accumulator; inputs = 16 ∷ []; rows = rows; outputs = output ∷ [] }

abbrev certificate : ℕ → List ℤ → ℤ → Certificate
certificate length bounds error = record { length = length; bounds = bounds; errors = error ∷ [] }

-- ---- half of the input

abbrev half : Filter
half = filter_of (over_ten (pos 5) 1 ∷ []) (one_fraction ∷ []) (pos 100) 32 (pos 0) (pos 1)

abbrev half_code : Code
half_code = code_of 32 0 (row 1 (term (pos 1) (In 0) 0 ∷ []) ∷ [])

half-passes : first_failure half half_code (certificate 1 (pos 51 ∷ pos 50 ∷ []) (pos (2 ^ 63))) ≡ None
unfolding put_rows row_of hand_on carry to_input product_down product_up
half-passes = refl

half-bound : first_failure half half_code (certificate 1 (pos 50 ∷ pos 50 ∷ []) (pos (2 ^ 63)))
    ≡ Some (record { which = Bound 0; left = pos 931560575722332356608; right = pos 922337203685477580800 })
unfolding put_rows row_of hand_on carry to_input product_down product_up
half-bound = refl

half-form : first_failure half (record half_code { accumulator = 16 })
    (certificate 1 (pos 51 ∷ pos 50 ∷ []) (pos (2 ^ 63)))
    ≡ Some (record { which = Accumulator; left = pos 16; right = pos 32 })
unfolding put_rows row_of hand_on carry to_input product_down product_up
half-form = refl

-- ---- half of the last value

abbrev halving : ℤ → Filter
halving bound = filter_of (one_fraction ∷ []) (one_fraction ∷ over_ten (negsuc 4) 1 ∷ []) bound 32 (pos 0) (pos 3)

abbrev halving_code : Code
halving_code = code_of 32 0 (row 1 (term (pos 1) (Old 0) 0 ∷ term (pos 1) (In 0) 1 ∷ []) ∷ [])

halving-passes : first_failure (halving (pos 100)) halving_code
    (certificate 8 (pos 201 ∷ pos 200 ∷ []) (pos 47269781688880726016)) ≡ None
unfolding put_rows row_of hand_on carry to_input product_down product_up
halving-passes = refl

halving-error : first_failure (halving (pos 100)) halving_code
    (certificate 8 (pos 201 ∷ pos 200 ∷ []) (pos 47269781688880726015))
    ≡ Some (record { which = Error 0; left = pos 47269781688880726016; right = pos 47269781688880726015 })
unfolding put_rows row_of hand_on carry to_input product_down product_up
halving-error = refl

halving-wanted : first_failure (halving (pos 100)) halving_code
    (certificate 8 (pos 201 ∷ pos 200 ∷ []) (pos (2 ^ 66)))
    ≡ Some (record { which = Wanted 0; left = pos (2 ^ 66); right = pos (3 * 2 ^ 64) })
unfolding put_rows row_of hand_on carry to_input product_down product_up
halving-wanted = refl

halving-bound : bound_failure (halving (pos 100)) halving_code
    (certificate 64 (pos 200 ∷ pos 200 ∷ []) (pos 18446744073709552016))
    ≡ Some (record { which = Bound 0; left = pos 3707795558815619874815; right = pos 3689348814741910323200 })
unfolding put_rows row_of hand_on carry to_input product_down product_up
halving-bound = refl

no-input : error_failure (halving (pos 0)) halving_code (certificate 64 (pos 1 ∷ pos 0 ∷ []) (pos (2 ^ 64))) ≡ None
unfolding put_rows row_of hand_on carry to_input product_down product_up
no-input = refl

-- the same without the half step: each word is off by less than a whole one, so by twice as much in all
abbrev floored_code : Code
floored_code = code_of 32 0 (row_in Floor 1 (term (pos 1) (Old 0) 0 ∷ term (pos 1) (In 0) 1 ∷ []) ∷ [])

floored-holds : bound_failure (halving (pos 100)) floored_code
    (certificate 64 (pos 202 ∷ pos 200 ∷ []) (pos 36893488147419103632)) ≡ None
unfolding put_rows row_of hand_on carry to_input product_down product_up
floored-holds = refl

floored-bound : bound_failure (halving (pos 100)) floored_code
    (certificate 64 (pos 201 ∷ pos 200 ∷ []) (pos 36893488147419103632))
    ≡ Some (record { which = Bound 0; left = pos 3726242302889329426431; right = pos 3707795558815619874816 })
unfolding put_rows row_of hand_on carry to_input product_down product_up
floored-bound = refl

floored-error : error_failure (halving (pos 100)) floored_code
    (certificate 64 (pos 202 ∷ pos 200 ∷ []) (pos 36893488147419103631))
    ≡ Some (record { which = Error 0; left = pos 36893488147419103632; right = pos 36893488147419103631 })
unfolding put_rows row_of hand_on carry to_input product_down product_up
floored-error = refl

-- ---- a tenth of the last value, and 819 / 2 ^ 13 in its place

abbrev tenth : Filter
tenth = filter_of (one_fraction ∷ []) (one_fraction ∷ over_ten (negsuc 0) 1 ∷ []) (pos 100) 32 (pos 0) (pos 3)

abbrev tenth_code : Code
tenth_code = code_of 32 0 (row 13 (term (pos 819) (Old 0) 0 ∷ term (pos 1) (In 0) 13 ∷ []) ∷ [])

tenth-passes : first_failure tenth tenth_code (certificate 2 (pos 112 ∷ pos 112 ∷ []) (pos 51501139950229698888)) ≡ None
unfolding put_rows row_of hand_on carry to_input product_down product_up
tenth-passes = refl

tenth-error : first_failure tenth tenth_code
    (certificate 2 (pos 112 ∷ pos 112 ∷ []) (pos 51501139950229698887))
    ≡ Some (record { which = Error 0; left = pos 51501139950229698888; right = pos 51501139950229698887 })
unfolding put_rows row_of hand_on carry to_input product_down product_up
tenth-error = refl

tenth-bound : first_failure tenth tenth_code
    (certificate 2 (pos 111 ∷ pos 112 ∷ []) (pos 51501139950229698888))
    ≡ Some (record { which = Bound 0; left = pos 2059708185323438604288; right = pos 2047588592181760229376 })
unfolding put_rows row_of hand_on carry to_input product_down product_up
tenth-bound = refl

-- ---- the input as it is: a second row whose partial sums leave the accumulator, and one that drops four places

abbrev same : ℕ → ℤ → Filter
same accumulator low = filter_of (one_fraction ∷ []) (one_fraction ∷ []) (pos 1000) accumulator low (pos 1)

abbrev twice_code : Code
twice_code = code_of 16 1
    (row 0 (term (pos 1) (In 0) 0 ∷ []) ∷ row 0 (term (pos 200) (In 0) 0 ∷ term (negsuc 198) (Now 0) 0 ∷ []) ∷
    [])

abbrev dropping_code : Code
dropping_code = code_of 16 0 (row 4 (term (pos 16) (In 0) 0 ∷ []) ∷ [])

twice-passes : first_failure (same 16 (pos 0)) twice_code
    (certificate 1 (pos 1000 ∷ pos 1000 ∷ pos 1000 ∷ []) (pos 0)) ≡ None
unfolding put_rows row_of hand_on carry to_input product_down product_up
twice-passes = refl

twice-word : first_failure (same 16 (pos 0)) twice_code
    (certificate 1 (pos 1000 ∷ pos 32768 ∷ pos 1000 ∷ []) (pos 0))
    ≡ Some (record { which = Word 1; left = pos 32768; right = pos 32767 })
unfolding put_rows row_of hand_on carry to_input product_down product_up
twice-word = refl

dropping-sum : first_failure (same 16 (pos 0)) dropping_code
    (certificate 1 (pos 2048 ∷ pos 1000 ∷ []) (pos (2 ^ 63)))
    ≡ Some (record { which = Sum 0; left = pos 32784; right = pos 32768 })
unfolding put_rows row_of hand_on carry to_input product_down product_up
dropping-sum = refl

dropping-passes : first_failure (same 16 (pos 0)) dropping_code
    (certificate 1 (pos 2047 ∷ pos 1000 ∷ []) (pos (2 ^ 63))) ≡ None
unfolding put_rows row_of hand_on carry to_input product_down product_up
dropping-passes = refl

-- ---- outputs of another low position

abbrev shifted : ℤ → Filter
shifted low = filter_of (one_fraction ∷ []) (one_fraction ∷ []) (pos 100) 32 low (pos 1)

coarser-passes : first_failure (shifted (pos 4)) (code_of 32 0 (row 4 (term (pos 1) (In 0) 0 ∷ []) ∷ []))
    (certificate 1 (pos 7 ∷ pos 100 ∷ []) (pos (2 ^ 63))) ≡ None
unfolding put_rows row_of hand_on carry to_input product_down product_up
coarser-passes = refl

finer-passes : first_failure (shifted (negsuc 3)) (code_of 32 0 (row 0 (term (pos 1) (In 0) 4 ∷ []) ∷ []))
    (certificate 1 (pos 1600 ∷ pos 100 ∷ []) (pos 0)) ≡ None
unfolding put_rows row_of hand_on carry to_input product_down product_up
finer-passes = refl

-- ---- a thousand times the last value

growing : first_failure (filter_of (one_fraction ∷ []) (one_fraction ∷ over_ten (negsuc 999) 0 ∷ []) (pos 100)
    32 (pos 0) (pos 3)) (code_of 32 0 (row 0 (term (pos 1000) (Old 0) 0 ∷ term (pos 1) (In 0) 0 ∷ []) ∷ []))
    (certificate 5 (pos 1 ∷ pos 1 ∷ []) (pos 0))
    ≡ Some (record { which = Sweep 0 (Rest 0); left = pos (10 ^ 9 * 2 ^ 64); right = pos (2 ^ 88) })
unfolding put_rows row_of hand_on carry to_input product_down product_up
growing = refl

-- ---- bounds by raises: a sum of all words, whose bounds rise by 100 each time, and half of the input

abbrev adding : Filter
adding = filter_of (one_fraction ∷ []) (one_fraction ∷ over_ten (negsuc 0) 0 ∷ []) (pos 100) 32 (pos 0) (pos 1)

abbrev adding_code : Code
adding_code = code_of 32 0 (row 0 (term (pos 1) (Old 0) 0 ∷ term (pos 1) (In 0) 0 ∷ []) ∷ [])

adding-over : least_by_raises (net_of adding_code adding.equations) 2 (λ j. 1) (λ j. 100) (λ j. 150) ≡ Over 0 200 150
unfolding put_rows row_of hand_on carry to_input product_down product_up
adding-over = refl

adding-slow : raises (net_of adding_code adding.equations) 2 (λ j. 1) (λ j. 100) (λ j. 1000) 1 (λ j. 0) ≡ Slow 0 100 200
unfolding put_rows row_of hand_on carry to_input product_down product_up
adding-slow = refl

-- ---- what becomes of candidates

-- the bounds with which it passes, by their rows
abbrev bounds_of : Trial → ℕ → ℕ
bounds_of (Passed x) = x
bounds_of _ = λ j. 0

half-candidate : bounds_of (trial half ((row 1 (term (pos 1) (In 0) 0 ∷ [])).own ∷ []) 1) 0 ≡ 51
unfolding put_rows row_of hand_on carry to_input product_down product_up
half-candidate = refl

half-original : bounds_of (trial half ((row 1 (term (pos 1) (In 0) 0 ∷ [])).own ∷ []) 1) 1 ≡ 50
unfolding put_rows row_of hand_on carry to_input product_down product_up
half-original = refl

adding-candidate : trial
    (record adding {
      outputs =
          record { row = 0; width = 8; low = pos 0; error = over_ten (pos 1) 0; target = pos (2 ^ 64) } ∷ [];
    })
    ((row 0 (term (pos 1) (Old 0) 0 ∷ term (pos 1) (In 0) 0 ∷ [])).own ∷ []) 1 ≡ OverCap 0 200 127
unfolding put_rows row_of hand_on carry to_input product_down product_up
adding-candidate = refl
