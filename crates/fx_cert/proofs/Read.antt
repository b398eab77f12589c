-- What is read has the text that it is read from, and a text has one certificate.
use Rattle.std.proofs.Common.{◌≡◌, ◌≤◌, ◌<◌, ◌^◌, ℕ, List, decimal, Result, Ok, Err, arith}
use Rattle.std.specs.Prelude.{IfOk}
use Rattle.fx_math.specs.Answers.{Gives}
use Rattle.fx_cert.specs.Certificate.{Certificate, IsTextOf}
use Rattle.fx_cert.specs.Laws.{CertificateLaw, NumberLaw, OneCertificate}
use Rattle.fx_cert.specs.Lines.{lines_of}
use Rattle.fx_cert.specs.Reading.{certificate_in, is_memory}
use Rattle.fx_cert.specs.declared.fault.CertFault.{CertFault}
use Rattle.fx_cert.proofs.Again.{text_is_read}
use Rattle.fx_cert.proofs.NumberLaws.{IsNumber, number_again, number_takes}
use Rattle.fx_cert.proofs.Sound.{text_stands}

pub is_found : (bytes : List ℕ) (r : Result Certificate CertFault) →
    Gives is_memory (λ c. c) r (certificate_in (lines_of bytes)) → IfOk r (λ c. IsTextOf bytes c)
is_found bytes (Ok c) h = text_stands bytes c h
is_found bytes (Err e) h = tt

pub certificate_law : CertificateLaw
certificate_law bytes c = (text_stands bytes c, text_is_read bytes c)

same_ok : (c d : Certificate) (r : Result Certificate CertFault) → r ≡ Ok c → r ≡ Ok d → c ≡ d
same_ok c d r h k = cc

pub one_certificate : OneCertificate
one_certificate bytes c d h k =
    same_ok c d (certificate_in (lines_of bytes)) (text_is_read bytes c h) (text_is_read bytes d k)

-- ---- numbers

number_of : (low high n : ℕ) (digits : List ℕ) → IsNumber low high digits n →
    (digits ≡ decimal n) × (low ≤ n) × (n ≤ high)
number_of low high n digits h = (h.digits, h.above, h.below)

pub number_law : NumberLaw
number_law low high n digits most =
    let wide : high < 10 ^ 64 = omega arith in (
      λ e. number_of low high n digits (number_takes low high digits n wide e),
      λ h.
          rw h.0 (number_again low high n wide h.1 h.2),
    )
