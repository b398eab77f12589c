-- The lines of a job that is drawn from a number.
use Rattle.std.specs.Prelude.{ℕ, ℤ, List, ◌++◌, codes}
use Rattle.std.specs.Fmt.{decimal, signed_decimal}
use Rattle.fx_findings.specs.Designs.{design_lines}
use Rattle.fx_large.specs.declared.limits.TheConstants.{SAMPLES}
use Rattle.fx_large.specs.declared.summary.Summary.{Summary}

-- the least, the greatest and the sum of a program's words
abbrev pub words_part : Summary → List ℕ
words_part s =
    codes " least " ++ signed_decimal s.least ++ codes " greatest " ++ signed_decimal s.greatest ++ codes " sum "
    ++ signed_decimal s.sum

-- how many samples it was run on, and what its words are
abbrev pub summary_line : ℕ → Summary → List ℕ
summary_line samples s = codes "samples " ++ decimal samples ++ words_part s ++ codes "\n"

-- the number, the design with its certificate's errors, and the summary
abbrev pub large_lines : ℕ → ℕ → ℕ → ℕ → List ℤ → Summary → List ℕ
large_lines number guard fraction moments errors summary =
    codes "large " ++ decimal number ++ codes "\n" ++ design_lines guard fraction moments errors
    ++ summary_line SAMPLES summary
