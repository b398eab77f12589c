-- The numbers of the statuses.
use Rattle.std.specs.Prelude.{ℕ, Bool, true, false}
use Rattle.fx_tool.specs.declared.status.Status.{Status}
use Rattle.fx_tool.specs.declared.status.Status.TheVariants.{Done, Refused, Usage, BadFilter, BadCode}
use Rattle.fx_tool.specs.declared.status.Status.TheVariants.{BadCertificate, BadSamples, NoDesign, ReadFault}
use Rattle.fx_tool.specs.declared.status.Status.TheVariants.{WriteFault, TooLong, Unbuildable, NoMemory}

abbrev pub number_of : Status → ℕ
number_of Done = 0
number_of Refused = 1
number_of Usage = 2
number_of BadFilter = 3
number_of BadCode = 4
number_of BadCertificate = 5
number_of BadSamples = 6
number_of NoDesign = 7
number_of ReadFault = 8
number_of WriteFault = 9
number_of TooLong = 10
number_of Unbuildable = 11
number_of NoMemory = 12

-- the statuses that have a text of their own
abbrev pub is_spoken : Status → Bool
is_spoken Done = true
is_spoken Refused = true
is_spoken Usage = true
is_spoken BadFilter = true
is_spoken BadCode = true
is_spoken BadCertificate = true
is_spoken BadSamples = true
is_spoken NoDesign = true
is_spoken TooLong = true
is_spoken Unbuildable = true
is_spoken _ = false
