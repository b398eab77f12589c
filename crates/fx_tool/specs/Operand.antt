-- The answers of files that are too long.
use Rattle.std.specs.Prelude.{codes}
use Rattle.fx_words.specs.declared.operand.Operand.{Operand}
use Rattle.fx_words.specs.declared.operand.Operand.TheVariants.{Filter, Code, Certificate, Samples}
use Rattle.fx_tool.specs.Answer.{Answer, says}
use Rattle.fx_tool.specs.declared.status.Status.TheVariants.{TooLong}

-- of a file longer than its limit
abbrev pub too_long : Operand → Answer
too_long Filter = says TooLong (codes "too long FILTER\n")
too_long Code = says TooLong (codes "too long CODE\n")
too_long Certificate = says TooLong (codes "too long CERT\n")
too_long Samples = says TooLong (codes "too long SAMPLES\n")
