-- How a run ends whose file is refused: with the line of its first fault.
use Rattle.fx_keys.specs.declared.fault.FilterFault.{FilterFault}
use Rattle.fx_text.specs.declared.fault.CodeFault.{CodeFault}
use Rattle.fx_cert.specs.declared.fault.CertFault.{CertFault}
use Rattle.fx_lines.specs.CertFault.{cert_fault_line}
use Rattle.fx_lines.specs.CodeFault.{code_fault_line}
use Rattle.fx_lines.specs.FilterFault.{filter_fault_line}
use Rattle.fx_tool.specs.Answer.{Answer, says}
use Rattle.fx_tool.specs.declared.status.Status.TheVariants.{BadFilter, BadCode, BadCertificate}

abbrev pub refused_filter : FilterFault → Answer
refused_filter fault = says BadFilter (filter_fault_line fault)

abbrev pub refused_code : CodeFault → Answer
refused_code fault = says BadCode (code_fault_line fault)

abbrev pub refused_certificate : CertFault → Answer
refused_certificate fault = says BadCertificate (cert_fault_line fault)
