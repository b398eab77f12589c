use Rattle.fx_files.proofs.HeldFilter.{file_law}
use Rattle.fx_files.proofs.laws.files_are_described.Goals as goal

pub returns : goal.returns
returns c = file_law
