-- When `check` ends with which status, in words that name no reader and no step of a judgement.
use Rattle.std.specs.Prelude.{◌≡◌, ◌↔◌, ◌≤◌, ℕ, List, [], ◌∷◌, length, Some}
use Rattle.std.specs.FinMap.{get}
use Rattle.fx_io.specs.Shelf.{Files}
use Rattle.fx_files.specs.Describes.{IsFileOf}
use Rattle.fx_files.specs.Filter.{Filter}
use Rattle.fx_code.specs.Code.{Code}
use Rattle.fx_text.specs.Grammar.{Spells}
use Rattle.fx_cert.specs.Certificate.{Certificate, IsTextOf}
use Rattle.fx_block.specs.Passes.{Passes}
use Rattle.fx_lines.specs.Verdict.{accepted_lines}
use Rattle.fx_tool.specs.Answer.{says}
use Rattle.fx_words.specs.Words.{command_of}
use Rattle.fx_tool.specs.Running.{answer_of}
use Rattle.fx_words.specs.declared.command.Verb.TheVariants.{Check}
use Rattle.fx_words.specs.declared.operand.TheConstants.{LONGEST_FILE}
use Rattle.fx_tool.specs.declared.status.Status.{Status}
use Rattle.fx_tool.specs.declared.status.Status.TheVariants.{Done, Refused, BadFilter, BadCode, BadCertificate}

-- the file of this name has these bytes, within the limit
pub record HasBytes (files : Files) (name bytes : List ℕ) : Type 0 where
  pub there : get files name ≡ Some bytes
  pub short : length bytes ≤ LONGEST_FILE

-- the words are `check` on these names, and the first file is there
pub record HasFilter (words : List (List ℕ)) (files : Files) (filter code cert filter_bytes : List ℕ) : Type 0 where
  pub command : command_of words ≡ Some (record { verb = Check; names = filter ∷ code ∷ cert ∷ [] })
  pub bytes : HasBytes files filter filter_bytes

-- the first file is that of a filter, and the second is there
pub record HasCode (words : List (List ℕ)) (files : Files) (filter code cert code_bytes : List ℕ) (f : Filter) :
    Type 0 where
  pub filter_bytes : List ℕ
  pub before : HasFilter words files filter code cert filter_bytes
  pub described : IsFileOf filter_bytes f
  pub bytes : HasBytes files code code_bytes

-- the second file spells a program too, and the third is there
pub record HasCertificate (words : List (List ℕ)) (files : Files) (filter code cert cert_bytes : List ℕ)
    (f : Filter) (p : Code) : Type 0 where
  pub code_bytes : List ℕ
  pub before : HasCode words files filter code cert code_bytes f
  pub spelled : Spells code_bytes p
  pub bytes : HasBytes files cert cert_bytes

-- the third file is the text of a certificate too
pub record HasAll (words : List (List ℕ)) (files : Files) (filter code cert : List ℕ)
    (f : Filter) (p : Code) (c : Certificate) : Type 0 where
  pub cert_bytes : List ℕ
  pub before : HasCertificate words files filter code cert cert_bytes f p
  pub text : IsTextOf cert_bytes c

abbrev pub status_of : List (List ℕ) → Files → Status
status_of words files = (answer_of words files).status

-- ---- what the law says

-- 3, exactly where the first file is that of no filter
abbrev pub BadFilterExactly : Type 0
BadFilterExactly =
    (words : List (List ℕ)) (files : Files) (filter code cert bytes : List ℕ) →
    HasFilter words files filter code cert bytes →
    (status_of words files ≡ BadFilter) ↔ ((f : Filter) → IsFileOf bytes f → ⊥)

-- 4, exactly where the second spells no program
abbrev pub BadCodeExactly : Type 0
BadCodeExactly =
    (words : List (List ℕ)) (files : Files) (filter code cert bytes : List ℕ) (f : Filter) →
    HasCode words files filter code cert bytes f →
    (status_of words files ≡ BadCode) ↔ ((p : Code) → Spells bytes p → ⊥)

-- 5, exactly where the third is the text of no certificate
abbrev pub BadCertificateExactly : Type 0
BadCertificateExactly =
    (words : List (List ℕ)) (files : Files) (filter code cert bytes : List ℕ) (f : Filter) (p : Code) →
    HasCertificate words files filter code cert bytes f p →
    (status_of words files ≡ BadCertificate) ↔ ((c : Certificate) → IsTextOf bytes c → ⊥)

-- 1, exactly where an inequality fails
abbrev pub RefusedExactly : Type 0
RefusedExactly =
    (words : List (List ℕ)) (files : Files) (filter code cert : List ℕ) (f : Filter) (p : Code) (c : Certificate) →
    HasAll words files filter code cert f p c →
    (status_of words files ≡ Refused) ↔ (Passes f p c → ⊥)

-- 0 with the lines of the certificate's errors, where none does
abbrev pub PassingIsAccepted : Type 0
PassingIsAccepted =
    (words : List (List ℕ)) (files : Files) (filter code cert : List ℕ) (f : Filter) (p : Code) (c : Certificate) →
    HasAll words files filter code cert f p c → Passes f p c →
    answer_of words files ≡ says Done (accepted_lines c.errors)

-- 0, exactly where all hold
abbrev pub AcceptedExactly : Type 0
AcceptedExactly =
    (words : List (List ℕ)) (files : Files) (filter code cert : List ℕ) (f : Filter) (p : Code) (c : Certificate) →
    HasAll words files filter code cert f p c →
    (status_of words files ≡ Done) ↔ Passes f p c
