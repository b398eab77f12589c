-- What the laws of this crate say.
use Rattle.std.specs.Prelude.{◌≡◌, ◌↔◌, ◌≤◌, ℕ, List, Some, Ok}
use Rattle.std.specs.Fmt.{decimal}
use Rattle.fx_cert.specs.declared.limits.TheConstants.{GREATEST_ERROR}
use Rattle.fx_cert.specs.Certificate.{Certificate, IsTextOf}
use Rattle.fx_cert.specs.FirstFault.{fault_in, first_fault}
use Rattle.fx_cert.specs.Lines.{AreLines, TextLine, joined, lines_of}
use Rattle.fx_cert.specs.Reading.{certificate_in, number_within}

-- a certificate is read exactly from its text
abbrev pub CertificateLaw : Type 0
CertificateLaw = (bytes : List ℕ) (c : Certificate) → (certificate_in (lines_of bytes) ≡ Ok c) ↔ IsTextOf bytes c

-- a text is that of at most one certificate
abbrev pub OneCertificate : Type 0
OneCertificate = (bytes : List ℕ) (c d : Certificate) → IsTextOf bytes c → IsTextOf bytes d → c ≡ d

-- the fault that is read is the first in the order of the lines
abbrev pub FirstFaultLaw : Type 0
FirstFaultLaw = (lines : List TextLine) → fault_in (certificate_in lines) ≡ first_fault lines

-- the lines of a text are lines, and make the text
abbrev pub LinesLaw : Type 0
LinesLaw = (bytes : List ℕ) → AreLines (lines_of bytes) × (joined (lines_of bytes) ≡ bytes)

-- lines are those of their text
abbrev pub JoinedLaw : Type 0
JoinedLaw = (lines : List TextLine) → AreLines lines → lines_of (joined lines) ≡ lines

-- a number is read exactly from its decimal, in its range
abbrev pub NumberLaw : Type 0
NumberLaw = (low high n : ℕ) (digits : List ℕ) → high ≤ GREATEST_ERROR →
    (number_within low high digits ≡ Some n) ↔ ((digits ≡ decimal n) × (low ≤ n) × (n ≤ high))
