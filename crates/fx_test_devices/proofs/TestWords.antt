-- The files that words read which are written out.
use Rattle.std.proofs.Common.{◌≡◌, codes, [], ◌∷◌, refl}
use Rattle.fx_words.specs.Command.{plain_of, verb_in}
use Rattle.fx_words.specs.Words.{command_of}
use Rattle.fx_tool.specs.Running.{reads_to}

pub reads_of_check : reads_to (command_of (codes "fixif" ∷ codes "check" ∷ codes "f" ∷ codes "c" ∷ codes "k" ∷ [])) ≡
    codes "f" ∷ codes "c" ∷ codes "k" ∷ []
unfolding command_of plain_of verb_in
reads_of_check = refl
