-- What is told of a judgement of a filter, a program and a certificate: the verdict, and before it, where it is asked
-- for, what the errors are made of.
use Rattle.std.specs.Prelude.{ℕ, ℤ, List, [], ◌++◌, Option, Some, None}
use Rattle.fx_files.specs.Filter.{Filter}
use Rattle.fx_code.specs.Code.{Code}
use Rattle.fx_cert.specs.Certificate.{Certificate}
use Rattle.fx_block.specs.Failure.{Failure, first_failure}
use Rattle.fx_error.specs.declared.parts.Parts.{Parts}
use Rattle.fx_check.specs.Report.{known_parts, parts_of}
use Rattle.fx_lines.specs.Report.{report_lines}
use Rattle.fx_lines.specs.Verdict.{accepted_lines, refused_line}
use Rattle.fx_tool.specs.Answer.{Answer, says}
use Rattle.fx_tool.specs.declared.judgement.Detail.{Detail}
use Rattle.fx_tool.specs.declared.judgement.Detail.TheVariants.{Brief, Full}
use Rattle.fx_tool.specs.declared.status.Status.TheVariants.{Done, Refused}

-- by the first inequality that fails, if one does
abbrev pub by_failure : Option Failure → List ℤ → Answer
by_failure None errors = says Done (accepted_lines errors)
by_failure (Some failure) errors = says Refused (refused_line failure)

-- the verdict
unfoldable pub judged : Filter → Code → Certificate → Answer
judged f p c = by_failure (first_failure f p c) c.errors

-- the rows of the program and the parts of the errors, where these are known
abbrev pub parts_text : Filter → Code → Certificate → Option (List Parts) → List ℕ
parts_text f p c None = []
parts_text f p c (Some parts) = report_lines f p c parts

-- an answer with lines before its own
abbrev pub led_by : List ℕ → Answer → Answer
led_by lines a = record { status = a.status; placed = a.placed; text = lines ++ a.text }

-- the verdict behind the parts
unfoldable pub reported : Filter → Code → Certificate → Answer
reported f p c = led_by (parts_text f p c (known_parts f p c)) (judged f p c)

abbrev pub told : Detail → Filter → Code → Certificate → Answer
told Brief f p c = judged f p c
told Full f p c = reported f p c

-- the lines of what passes: then the parts are known
abbrev pub passing_lines : Detail → Filter → Code → Certificate → List ℕ
passing_lines Brief f p c = accepted_lines c.errors
passing_lines Full f p c = report_lines f p c (parts_of f p c) ++ accepted_lines c.errors
