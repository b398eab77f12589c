-- The lines of certificates and verdicts have no control byte before their line feed.
use Rattle.std.proofs.Common.{◌+◌, ℕ, ℤ, List, [], ◌∷◌, ◌++◌, length, codes, decimal, refl}
use Rattle.fx_cert.specs.declared.fault.CertFault.TheVariants.{Version, Line, Number, Count, AfterEnd, NoMemory}
use Rattle.fx_sweep.specs.declared.target.Place.{Place}
use Rattle.fx_sweep.specs.declared.target.Place.TheVariants.{Weight, Gain, Input, Rest}
use Rattle.fx_block.specs.declared.inequality.Inequality.{Inequality}
use Rattle.fx_block.specs.declared.inequality.Inequality.TheVariants.{Inputs, Outputs, Accumulator, InputWidth}
use Rattle.fx_block.specs.declared.inequality.Inequality.TheVariants.{OutputWidth, Rows, Errors, Sweep, Bound}
use Rattle.fx_block.specs.declared.inequality.Inequality.TheVariants.{Word, Sum, Error, Wanted}
use Rattle.fx_lines.specs.Laws.{AcceptedLines, AreLines, CertFaultLine, IsLine, RefusedLine}
use Rattle.fx_block.specs.Failure.{Failure}
use Rattle.fx_lines.specs.Verdict.{error_line, error_lines, inequality_text, place_text, up_part}
use Rattle.fx_lines.proofs.PrintedParts.{Printed, both_printed, decimal_printed, part_printed, sides_are_line}
use Rattle.fx_lines.proofs.PrintedParts.{line_of, more, number_line, numbered, three_line}

-- ---- faults of certificates

pub cert_line : CertFaultLine
cert_line Version there = line_of (codes "bad certificate version") refl
cert_line (Line n) there = number_line (codes "bad certificate line ") (decimal n) refl (decimal_printed n)
cert_line (Number n) there = number_line (codes "bad certificate number ") (decimal n) refl (decimal_printed n)
cert_line (Count n got wanted) there =
    three_line (codes "bad certificate count ") (decimal n) (decimal got) (decimal wanted) refl
    (decimal_printed n) (decimal_printed got) (decimal_printed wanted)
cert_line AfterEnd there = line_of (codes "bad certificate after end") refl
cert_line NoMemory there = absurd (there refl)

-- ---- refused

pub place_printed : (place : Place) → Printed (place_text place)
place_printed (Weight i) = numbered (codes "weight ") i refl
place_printed (Gain i) = numbered (codes "gain ") i refl
place_printed (Input j) = numbered (codes "input ") j refl
place_printed (Rest i) = numbered (codes "rest ") i refl

inequality_printed : (which : Inequality) → Printed (inequality_text which)
inequality_printed Inputs = refl
inequality_printed Outputs = refl
inequality_printed Accumulator = refl
inequality_printed (InputWidth j) = numbered (codes "I1 input ") j refl
inequality_printed (OutputWidth o) = numbered (codes "I1 output ") o refl
inequality_printed Rows = refl
inequality_printed Errors = refl
inequality_printed (Sweep t place) =
    more (codes "I2 target " ++ decimal t) (place_text place) (numbered (codes "I2 target ") t refl)
    (place_printed place)
inequality_printed (Bound i) = numbered (codes "I3 row ") i refl
inequality_printed (Word i) = numbered (codes "I4 row ") i refl
inequality_printed (Sum i) = numbered (codes "I5 row ") i refl
inequality_printed (Error o) = numbered (codes "I6 output ") o refl
inequality_printed (Wanted o) = numbered (codes "I7 output ") o refl

-- what stands before its sides
front_printed : (failure : Failure) → Printed (codes "refused " ++ inequality_text failure.which)
front_printed failure =
    both_printed (codes "refused ") (inequality_text failure.which) refl (inequality_printed failure.which)

pub refused : RefusedLine
refused failure = sides_are_line (codes "refused " ++ inequality_text failure.which) failure.left failure.right
    (front_printed failure)

-- ---- accepted

error_is_line : (o : ℕ) (e : ℤ) → IsLine (error_line o e)
error_is_line o e =
    line_of (codes "error " ++ decimal o ++ up_part (codes " ") e)
    (both_printed (codes "error " ++ decimal o) (up_part (codes " ") e) (numbered (codes "error ") o refl)
    (part_printed (codes " ") e refl))

pub errors_are_lines : (o : ℕ) (errors : List ℤ) → AreLines (length errors) (error_lines o errors)
errors_are_lines o [] = refl
errors_are_lines o (e ∷ es) =
    (error_line o e, (error_lines (o + 1) es, (refl, (error_is_line o e, errors_are_lines (o + 1) es))))

pub accepted : AcceptedLines
accepted errors =
    (codes "accepted\n", (error_lines 0 errors, (refl, (line_of (codes "accepted") refl, errors_are_lines 0 errors))))
