-- What the laws of this crate say.
use Rattle.std.specs.Prelude.{◌≡◌, ◌≢◌, Bool, true, not, ℕ, zero, suc, ◌+◌, ℤ, List, [], ◌++◌, length, codes}
use Rattle.std.specs.List.{list_all}
use Rattle.fx_block.specs.Failure.{Failure}
use Rattle.fx_cert.specs.Certificate.{Certificate}
use Rattle.fx_cert.specs.declared.fault.CertFault.{CertFault}
use Rattle.fx_cert.specs.declared.fault.CertFault.TheVariants as cert
use Rattle.fx_keys.specs.declared.fault.FilterFault.{FilterFault}
use Rattle.fx_keys.specs.declared.fault.FilterFault.TheVariants as filter
use Rattle.fx_code.specs.Code.{Code}
use Rattle.fx_error.specs.declared.parts.Parts.{Parts}
use Rattle.fx_files.specs.Filter.{Filter}
use Rattle.fx_sim.specs.declared.fault.SampleFault.{SampleFault}
use Rattle.fx_sim.specs.declared.fault.SampleFault.TheVariants as sample
use Rattle.fx_text.specs.declared.fault.CodeFault.{CodeFault}
use Rattle.fx_text.specs.declared.fault.CodeFault.TheVariants as code
use Rattle.fx_lines.specs.CertFault.{cert_fault_line}
use Rattle.fx_lines.specs.CodeFault.{code_fault_line}
use Rattle.fx_lines.specs.FilterFault.{filter_fault_line}
use Rattle.fx_lines.specs.Report.{report_lines}
use Rattle.fx_lines.specs.SampleFault.{sample_fault_line}
use Rattle.fx_lines.specs.UnknownKey.{is_control}
use Rattle.fx_lines.specs.Verdict.{accepted_lines, refused_line}

abbrev pub is_printed : ℕ → Bool
is_printed c = not (is_control c)

-- one line: a text without a control byte, so without a line feed, and a line feed behind it
pub record IsLine (text : List ℕ) : Type 0 where
  pub front : List ℕ
  pub ends : text ≡ front ++ codes "\n"
  pub printed : list_all is_printed front ≡ true

-- so many lines, one behind the other
abbrev pub AreLines : ℕ → List ℕ → Type 0
AreLines zero text = text ≡ []
AreLines (suc n) text =
    (first : List ℕ) × ((rest : List ℕ) × ((text ≡ first ++ rest) × (IsLine first × AreLines n rest)))

-- whatever is wrong in a filter file, whatever its keys: one line tells it
abbrev pub OneLine : Type 0
OneLine = (fault : FilterFault) → fault ≢ filter.NoMemory → IsLine (filter_fault_line fault)

-- so it is of code, of samples
abbrev pub CodeFaultLine : Type 0
CodeFaultLine = (fault : CodeFault) → fault ≢ code.NoMemory → IsLine (code_fault_line fault)

abbrev pub SampleFaultLine : Type 0
SampleFaultLine = (fault : SampleFault) → fault ≢ sample.NoMemory → IsLine (sample_fault_line fault)

-- of a certificate
abbrev pub CertFaultLine : Type 0
CertFaultLine = (fault : CertFault) → fault ≢ cert.NoMemory → IsLine (cert_fault_line fault)

-- and of an inequality that fails
abbrev pub RefusedLine : Type 0
RefusedLine = (failure : Failure) → IsLine (refused_line failure)

-- an accepted certificate is told in one line, and one more for each output
abbrev pub AcceptedLines : Type 0
AcceptedLines = (errors : List ℤ) → AreLines (suc (length errors)) (accepted_lines errors)

-- a report has a line for each row of the program and each output
abbrev pub ReportLines : Type 0
ReportLines = (f : Filter) (p : Code) (c : Certificate) (parts : List Parts) →
    AreLines (length p.rows + length f.outputs) (report_lines f p c parts)
