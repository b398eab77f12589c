-- What the laws of this crate say.
use Rattle.std.specs.Prelude.{◌≡◌, ◌↔◌, ℕ, List, Err}
use Rattle.toml.specs.Data.{Members}
use Rattle.fx_keys.specs.declared.fault.FilterFault.{FilterFault}
use Rattle.fx_keys.specs.declared.fault.FilterFault.TheVariants.{NotToml}
use Rattle.fx_files.specs.Describes.{Describes}
use Rattle.fx_files.specs.Filter.{Filter}
use Rattle.fx_files.specs.Reading.{filter_in, filter_of_bytes}
use Rattle.fx_faults.specs.Faults.{IsTrueOf, IsTrueOfFile, IsNoTable}

-- a fault that is told of a file is true of it
abbrev pub FaultsAreTrue : Type 0
FaultsAreTrue = (bytes : List ℕ) (fault : FilterFault) → filter_of_bytes bytes ≡ Err fault → IsTrueOfFile bytes fault

-- a file is told to be no table exactly where it is none
abbrev pub NoTableLaw : Type 0
NoTableLaw = (bytes : List ℕ) → (filter_of_bytes bytes ≡ Err NotToml) ↔ IsNoTable bytes

-- a table of which a fault is told describes no filter
abbrev pub NoneIsDescribed : Type 0
NoneIsDescribed = (file : Members) (fault : FilterFault) (f : Filter) → filter_in file ≡ Err fault →
    ¬ Describes file f

-- a table describes a filter exactly where no fault is true of it
abbrev pub FaultlessLaw : Type 0
FaultlessLaw = (file : Members) →
    ((f : Filter) × Describes file f) ↔ ((fault : FilterFault) → ¬ IsTrueOf file fault)
