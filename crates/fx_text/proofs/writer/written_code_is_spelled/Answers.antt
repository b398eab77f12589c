use Rattle.fx_text.proofs.ProgramAgain.{code_again}
use Rattle.fx_text.proofs.Written.{written_law}
use Rattle.fx_text.proofs.writer.written_code_is_spelled.Goals as goal

pub returns-clause-spelled : goal.returns-clause-spelled
returns-clause-spelled c = written_law c.args.program.now c.programs_fit.ensures c.requires

pub returns-clause-read_back : goal.returns-clause-read_back
returns-clause-read_back c =
    code_again _ c.args.program.now (written_law c.args.program.now c.programs_fit.ensures c.requires)
