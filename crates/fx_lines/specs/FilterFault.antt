-- The line of a refused filter file.
use Rattle.std.specs.Prelude.{ℕ, List, [], ◌++◌, codes}
use Rattle.std.specs.Fmt.{decimal, signed_decimal}
use Rattle.fx_decimal.specs.declared.fault.DecimalFault.{DecimalFault}
use Rattle.fx_decimal.specs.declared.fault.DecimalFault.TheVariants.{Empty, BadByte, TooManyDigits, TooFine, TooLarge}
use Rattle.fx_keys.specs.Keys.{name_of}
use Rattle.fx_keys.specs.declared.fault.FilterFault.{FilterFault}
use Rattle.fx_keys.specs.declared.fault.FilterFault.TheVariants.{NotToml, Missing, WrongKind, Numeral, NotMonic}
use Rattle.fx_keys.specs.declared.fault.FilterFault.TheVariants.{Shape, Limit, UnknownKey, UnknownWord}
use Rattle.fx_keys.specs.declared.fault.FilterFault.TheVariants.{NoMemory}
use Rattle.fx_lines.specs.UnknownKey.{shown_key}

-- why a text is no numeral
abbrev pub numeral_fault_text : DecimalFault → List ℕ
numeral_fault_text Empty = codes "empty"
numeral_fault_text (BadByte at) = codes "bad byte " ++ decimal at
numeral_fault_text TooManyDigits = codes "too many digits"
numeral_fault_text TooFine = codes "too fine"
numeral_fault_text TooLarge = codes "too large"

-- the fault with the key as a file spells it; want of memory has no line
abbrev pub filter_fault_line : FilterFault → List ℕ
filter_fault_line NotToml = codes "bad filter not toml\n"
filter_fault_line (Missing key) = codes "bad filter missing " ++ name_of key ++ codes "\n"
filter_fault_line (WrongKind key) = codes "bad filter wrong kind " ++ name_of key ++ codes "\n"
filter_fault_line (Numeral key place fault) =
    codes "bad filter numeral " ++ name_of key ++ codes " " ++ decimal place ++ codes " "
    ++ numeral_fault_text fault ++ codes "\n"
filter_fault_line (NotMonic key place) =
    codes "bad filter not monic " ++ name_of key ++ codes " " ++ decimal place ++ codes "\n"
filter_fault_line (Shape key got wanted) =
    codes "bad filter shape " ++ name_of key ++ codes " " ++ decimal got ++ codes " "
    ++ decimal wanted ++ codes "\n"
filter_fault_line (Limit key got limit) =
    codes "bad filter limit " ++ name_of key ++ codes " " ++ signed_decimal got ++ codes " "
    ++ signed_decimal limit ++ codes "\n"
filter_fault_line (UnknownKey key) = codes "bad filter unknown key " ++ shown_key key ++ codes "\n"
filter_fault_line (UnknownWord key) = codes "bad filter unknown word " ++ name_of key ++ codes "\n"
filter_fault_line NoMemory = []
