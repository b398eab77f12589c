-- The lines of a design, and of candidates that fail.
use Rattle.std.specs.Prelude.{ℕ, ℤ, List, ◌++◌, codes}
use Rattle.std.specs.Fmt.{decimal, signed_decimal}
use Rattle.std.specs.List.{flat_map}
use Rattle.fx_make.specs.declared.fail.Fail.{Fail}
use Rattle.fx_make.specs.declared.fail.Fail.TheVariants.{Shift, Wide, Range, Over, Slow, Error}
use Rattle.fx_make.specs.declared.fail.Failed.{Failed}
use Rattle.fx_lines.specs.Verdict.{error_lines, sides_line}
use Rattle.fx_findings.specs.Peaks.{range_line}

-- the guard bits, the fraction bits and the moments of a block
abbrev pub choice_text : ℕ → ℕ → ℕ → List ℕ
choice_text guard fraction moments =
    decimal guard ++ codes " " ++ decimal fraction ++ codes " " ++ decimal moments

-- the candidate that passed, and its errors
abbrev pub design_lines : ℕ → ℕ → ℕ → List ℤ → List ℕ
design_lines guard fraction moments errors =
    codes "design " ++ choice_text guard fraction moments ++ codes "\n" ++ error_lines 0 errors

-- why a candidate fails, as the end of its line
abbrev pub fail_line : Fail → List ℕ
fail_line (Shift row) = codes " shift row " ++ decimal row ++ codes "\n"
fail_line (Wide row term value) =
    codes " wide row " ++ decimal row ++ codes " term " ++ decimal term ++ codes " " ++ signed_decimal value
    ++ codes "\n"
fail_line (Range range) = range_line range
fail_line (Over row value cap) = codes " over row " ++ decimal row ++ sides_line value cap
fail_line (Slow row before after) = codes " slow row " ++ decimal row ++ sides_line before after
fail_line (Error output total target) = codes " error output " ++ decimal output ++ sides_line total target

abbrev pub failed_line : Failed → List ℕ
failed_line f = codes "candidate " ++ choice_text f.guard f.fraction f.length ++ fail_line f.why

-- each candidate with its first failure
abbrev pub no_design_lines : List Failed → List ℕ
no_design_lines fails = codes "no design\n" ++ flat_map failed_line fails
