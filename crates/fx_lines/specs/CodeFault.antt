-- The line of refused code.
use Rattle.std.specs.Prelude.{ℕ, List, [], ◌++◌, codes}
use Rattle.std.specs.Fmt.{decimal, signed_decimal}
use Rattle.fx_code.specs.declared.fault.LimitOf.{LimitOf}
use Rattle.fx_code.specs.declared.fault.LimitOf.TheVariants.{Accumulator, Inputs, Rows, Outputs, InputWidth}
use Rattle.fx_code.specs.declared.fault.LimitOf.TheVariants.{Width, Shift, Left, Coefficient, Product, Terms}
use Rattle.fx_code.specs.declared.fault.LimitOf.TheVariants.{OutputRow}
use Rattle.fx_text.specs.declared.fault.CodeFault.{CodeFault}
use Rattle.fx_text.specs.declared.fault.CodeFault.TheVariants.{Token, Unexpected, Name, Order, Number, Rounding}
use Rattle.fx_text.specs.declared.fault.CodeFault.TheVariants.{Limit, Twice, NoMemory}

-- the name of a limit
abbrev pub limit_name : LimitOf → List ℕ
limit_name Accumulator = codes "accumulator"
limit_name Inputs = codes "inputs"
limit_name Rows = codes "rows"
limit_name Outputs = codes "outputs"
limit_name InputWidth = codes "inputwidth"
limit_name Width = codes "width"
limit_name Shift = codes "shift"
limit_name Left = codes "left"
limit_name Coefficient = codes "coefficient"
limit_name Product = codes "product"
limit_name Terms = codes "terms"
limit_name OutputRow = codes "outputrow"

-- the fault with its place in bytes from 0, or the number of the reading row; want of memory has none
abbrev pub code_fault_line : CodeFault → List ℕ
code_fault_line (Token at) = codes "bad code token " ++ decimal at ++ codes "\n"
code_fault_line (Unexpected at) = codes "bad code unexpected " ++ decimal at ++ codes "\n"
code_fault_line (Name at) = codes "bad code name " ++ decimal at ++ codes "\n"
code_fault_line (Order row) = codes "bad code order " ++ decimal row ++ codes "\n"
code_fault_line (Number at) = codes "bad code number " ++ decimal at ++ codes "\n"
code_fault_line (Rounding row got wanted) =
    codes "bad code rounding " ++ decimal row ++ codes " " ++ signed_decimal got ++ codes " "
    ++ signed_decimal wanted ++ codes "\n"
code_fault_line (Limit which got) =
    codes "bad code limit " ++ limit_name which ++ codes " " ++ signed_decimal got ++ codes "\n"
code_fault_line (Twice row) = codes "bad code twice " ++ decimal row ++ codes "\n"
code_fault_line NoMemory = []
