use Rattle.std.proofs.lemmas.List.{get_or-map}
use Rattle.fx_code.specs.Run.{words}
use Rattle.fx_code.proofs.laws.outputs_are_output_words.Goals as goal

pub returns : goal.returns
returns c p u k o h = get_or-map (words p u k) p.outputs o 0 _ h
