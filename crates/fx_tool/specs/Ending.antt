-- The answer that an ending stands for.
use Rattle.std.specs.Prelude.{IsTrue, ℕ, List, [], ◌∷◌, Option, Some, None}
use Rattle.fx_tool.specs.Answer.{Answer}
use Rattle.fx_tool.specs.Status.{is_spoken}
use Rattle.fx_tool.specs.declared.ending.Ending.TheInside.{Inside}
use Rattle.fx_tool.specs.declared.ending.MadeFiles.{MadeFiles}

-- the contents that are to be placed, the program's before the certificate's
abbrev pub contents_of : Option MadeFiles → List (List ℕ)
contents_of None = []
contents_of (Some made) = made.code.items ∷ made.certificate.items ∷ []

abbrev pub answer_of : Inside → Answer
answer_of e = record { status = e.status; placed = contents_of e.made; text = e.text.items }

-- the status has a text of its own
abbrev pub HasText : Inside → Type 0
HasText e = IsTrue (is_spoken e.status)
