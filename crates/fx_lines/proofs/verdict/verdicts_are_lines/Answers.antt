use Rattle.fx_lines.proofs.VerdictLines.{accepted, refused}
use Rattle.fx_lines.proofs.verdict.verdicts_are_lines.Goals as goal

pub returns-clause-accepted : goal.returns-clause-accepted
returns-clause-accepted c = accepted

pub returns-clause-refused : goal.returns-clause-refused
returns-clause-refused c = refused
