-- The line of a filter that cannot have the structure that it asks for.
use Rattle.std.specs.Prelude.{ℕ, List, [], ◌++◌, codes}
use Rattle.std.specs.Fmt.{decimal}
use Rattle.fx_files.specs.Forms.{form_text, structure_text}
use Rattle.fx_make.specs.declared.refusal.StructureFault.{StructureFault}
use Rattle.fx_make.specs.declared.refusal.StructureFault.TheVariants.{NotListed, NotFir, Order, NotBelowOne, Range}
use Rattle.fx_make.specs.declared.refusal.StructureFault.TheVariants.{NoMemory}
use Rattle.fx_lines.specs.Verdict.{sides_line}

-- the ends of an enclosure are whole numbers at the scale 2^-64; want of memory has no line
abbrev pub structure_fault_line : StructureFault → List ℕ
structure_fault_line (NotListed form structure) =
    codes "unbuildable not listed " ++ form_text form ++ codes " " ++ structure_text structure ++ codes "\n"
structure_fault_line (NotFir count) = codes "unbuildable not fir " ++ decimal count ++ codes "\n"
structure_fault_line (Order order greatest) =
    codes "unbuildable order " ++ decimal order ++ codes " " ++ decimal greatest ++ codes "\n"
structure_fault_line (NotBelowOne step k) =
    codes "unbuildable not below one " ++ decimal step ++ sides_line k.lo k.hi
structure_fault_line (Range step) = codes "unbuildable range " ++ decimal step ++ codes "\n"
structure_fault_line NoMemory = []
