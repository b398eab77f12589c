-- The line of a refused certificate.
use Rattle.std.specs.Prelude.{ℕ, List, [], ◌++◌, codes}
use Rattle.std.specs.Fmt.{decimal}
use Rattle.fx_cert.specs.declared.fault.CertFault.{CertFault}
use Rattle.fx_cert.specs.declared.fault.CertFault.TheVariants.{Version, Line, Number, Count, AfterEnd, NoMemory}

-- the fault with the number of its line, from 1; want of memory has none
abbrev pub cert_fault_line : CertFault → List ℕ
cert_fault_line Version = codes "bad certificate version\n"
cert_fault_line (Line n) = codes "bad certificate line " ++ decimal n ++ codes "\n"
cert_fault_line (Number n) = codes "bad certificate number " ++ decimal n ++ codes "\n"
cert_fault_line (Count n got wanted) =
    codes "bad certificate count " ++ decimal n ++ codes " " ++ decimal got ++ codes " "
    ++ decimal wanted ++ codes "\n"
cert_fault_line AfterEnd = codes "bad certificate after end\n"
cert_fault_line NoMemory = []
