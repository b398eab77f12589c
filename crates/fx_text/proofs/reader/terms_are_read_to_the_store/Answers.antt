use Rattle.fx_text.proofs.TermTurns.{terms_law}
use Rattle.fx_text.proofs.reader.terms_are_read_to_the_store.Goals as goal

pub returns : goal.returns
returns c = terms_law
