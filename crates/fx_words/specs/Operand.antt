-- The files that commands read.
use Rattle.std.specs.Prelude.{ℕ}
use Rattle.fx_words.specs.declared.operand.Operand.{Operand}
use Rattle.fx_words.specs.declared.operand.Operand.TheVariants.{Filter, Code, Certificate, Samples}
use Rattle.fx_words.specs.declared.operand.TheConstants.{LONGEST_FILE, LONGEST_SAMPLES}

-- the most bytes
abbrev pub limit_of : Operand → ℕ
limit_of Filter = LONGEST_FILE
limit_of Code = LONGEST_FILE
limit_of Certificate = LONGEST_FILE
limit_of Samples = LONGEST_SAMPLES
