-- The fields of a form, as the form that contracts see.
use Rattle.fx_sif.specs.Implicit.{Implicit}
use Rattle.fx_sif.specs.declared.implicit.Sif.TheInside.{Inside}

abbrev pub form_of : Inside → Implicit
form_of s = record { sizes = s.sizes; entries = s.entries.items }
