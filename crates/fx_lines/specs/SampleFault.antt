-- The line of refused samples.
use Rattle.std.specs.Prelude.{ℕ, List, [], ◌++◌, codes}
use Rattle.std.specs.Fmt.{decimal, signed_decimal}
use Rattle.fx_sim.specs.declared.fault.SampleFault.{SampleFault}
use Rattle.fx_sim.specs.declared.fault.SampleFault.TheVariants.{Columns, Field, OutOfWord, NoMemory}

-- the fault with the record, which is a moment, and the column, both from 1; want of memory has none
abbrev pub sample_fault_line : SampleFault → List ℕ
sample_fault_line (Columns moment got wanted) =
    codes "bad samples columns " ++ decimal moment ++ codes " " ++ decimal got ++ codes " "
    ++ decimal wanted ++ codes "\n"
sample_fault_line (Field moment column) =
    codes "bad samples field " ++ decimal moment ++ codes " " ++ decimal column ++ codes "\n"
sample_fault_line (OutOfWord moment column value) =
    codes "bad samples out of word " ++ decimal moment ++ codes " " ++ decimal column ++ codes " "
    ++ signed_decimal value ++ codes "\n"
sample_fault_line NoMemory = []
