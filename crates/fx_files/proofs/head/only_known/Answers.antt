use Rattle.fx_files.proofs.head.only_known.Goals as goal

-- src/head.rt:49:1
pub returns : goal.returns
returns c = rw c.keys.ensures at c.only_keys.ensures
