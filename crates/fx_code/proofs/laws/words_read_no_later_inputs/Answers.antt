use Rattle.fx_code.proofs.LaterInputs.{earlier_inputs}
use Rattle.fx_code.proofs.laws.words_read_no_later_inputs.Goals as goal

pub returns : goal.returns
returns c = earlier_inputs
