use Rattle.std.proofs.Common.{◌≡◌, drop}
use Rattle.fx_io.proofs.Found.{found}
use Rattle.fx_io.proofs.file_list.content_of.Given as goal

abbrev pub invariant-loop-file : goal.invariant-loop-file
invariant-loop-file l = found l.name (drop l.file-index l.files) ≡ found l.name l.files
