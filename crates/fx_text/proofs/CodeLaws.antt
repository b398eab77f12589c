-- A program is read exactly from the texts that spell it.
use Rattle.std.proofs.Common.{◌≡◌, ◌∙◌, sym, Result, Ok, Err, IfOk}
use Rattle.fx_code.specs.Code.{Code, IsWhole}
use Rattle.fx_text.specs.declared.fault.CodeFault.{CodeFault}
use Rattle.fx_text.specs.Laws.{CodeLaw, OneProgram}
use Rattle.fx_math.specs.Answers.{Gives}
use Rattle.fx_text.specs.TokenReading.{is_memory}
use Rattle.fx_text.proofs.ProgramAgain.{code_again}
use Rattle.fx_text.proofs.ProgramSound.{code_sound}

pub code_law : CodeLaw
code_law bytes p = ((code_sound bytes).holds p, code_again bytes p)

pub one_program : OneProgram
one_program bytes p q first second =
    let same : Ok p ≡ Ok q = sym (code_again bytes p first) ∙ code_again bytes q second in
    cc

-- what is given is whole, where what is read is
pub whole_given : (given read : Result Code CodeFault) → Gives is_memory (λ (p : Code). p) given read →
    ((p : Code) → read ≡ Ok p → IsWhole p) → IfOk given (λ p. IsWhole p)
whole_given (Ok p) read h whole = whole p h
whole_given (Err fault) read h whole = tt
