-- When `check` ends with which status.
use Rattle.std.proofs.Common.{◌≡◌, ◌∙◌, ℕ, ◌≤◌, cond, List, [], ◌∷◌, length, Option, Some}
use Rattle.std.proofs.Common.{None, Result, Ok, Err, ap, refl, sym}
use Rattle.std.proofs.lemmas.Bool.{le-leb}
use Rattle.std.specs.FinMap.{get}
use Rattle.fx_io.specs.Shelf.{Files}
use Rattle.fx_files.proofs.HeldFilter.{file_law}
use Rattle.fx_files.specs.Describes.{IsFileOf}
use Rattle.fx_files.specs.Filter.{Filter}
use Rattle.fx_files.specs.Reading.{filter_of_bytes}
use Rattle.fx_keys.specs.declared.fault.FilterFault.{FilterFault}
use Rattle.fx_text.proofs.CodeLaws.{code_law}
use Rattle.fx_text.specs.Grammar.{Spells}
use Rattle.fx_text.specs.Reading.{code_in}
use Rattle.fx_text.specs.declared.fault.CodeFault.{CodeFault}
use Rattle.fx_code.specs.Code.{Code}
use Rattle.fx_cert.specs.Certificate.{Certificate, IsTextOf}
use Rattle.fx_cert.specs.Laws.{CertificateLaw}
use Rattle.fx_cert.specs.Lines.{lines_of}
use Rattle.fx_cert.specs.Reading.{certificate_in}
use Rattle.fx_cert.specs.declared.fault.CertFault.{CertFault}
use Rattle.fx_block.specs.Certified.{NoneFails}
use Rattle.fx_block.specs.Failure.{Failure, first_failure}
use Rattle.fx_block.specs.Passes.{Passes}
use Rattle.fx_lines.specs.Verdict.{accepted_lines}
use Rattle.fx_tool.specs.Answer.{Answer, absent, says}
use Rattle.fx_tool.specs.Check.{certified, check_plan, code_plan, filter_plan}
use Rattle.fx_tool.specs.CheckCauses.{HasBytes, HasFilter, HasCode, HasCertificate, HasAll}
use Rattle.fx_tool.specs.CheckCauses.{BadFilterExactly, BadCodeExactly, BadCertificateExactly, RefusedExactly}
use Rattle.fx_tool.specs.CheckCauses.{AcceptedExactly, PassingIsAccepted}
use Rattle.fx_words.specs.Command.{Command, operands_of}
use Rattle.fx_tool.specs.Judgement.{by_failure, judged}
use Rattle.fx_words.specs.Operand.{limit_of}
use Rattle.fx_tool.specs.Operand.{too_long}
use Rattle.fx_tool.proofs.Followed.{content_holds, long_status}
use Rattle.fx_tool.specs.Plan.{Plan, Ends, Reads, by_content, answer_by}
use Rattle.fx_tool.specs.Running.{answer_of, names_to, operands_to, plan_to}
use Rattle.fx_words.specs.declared.command.Verb.TheVariants.{Check}
use Rattle.fx_tool.specs.declared.judgement.Detail.TheVariants.{Brief}
use Rattle.fx_words.specs.declared.operand.Operand.{Operand}
use Rattle.fx_words.specs.declared.operand.Operand.TheVariants as operand
use Rattle.fx_tool.specs.declared.status.Status.{Status}
use Rattle.fx_tool.specs.declared.status.Status.TheVariants.{Done, Refused, BadFilter, BadCode, BadCertificate}
use Rattle.fx_tool.specs.declared.status.Status.TheVariants.{ReadFault, TooLong}

-- ---- the answer, file by file

-- a file that is there and short enough goes on
reads_on : (o : Operand) (os : List Operand) (name : List ℕ) (names : List (List ℕ)) (next : List ℕ → Plan)
    (files : Files) (bytes : List ℕ) → get files name ≡ Some bytes → length bytes ≤ limit_of o →
    answer_by (o ∷ os) (name ∷ names) (Reads next) files ≡ answer_by os names (next bytes) files
reads_on o os name names next files bytes there short =
    ap (by_content o absent (too_long o) (λ content. answer_by os names (next content) files)) there
    ∙ ap (λ b. cond b (answer_by os names (next bytes) files) (too_long o)) (le-leb (length bytes) (limit_of o) short)

-- what comes of the filter's bytes
abbrev after_filter : Files → List ℕ → List ℕ → Result Filter FilterFault → Answer
after_filter files code cert r =
    answer_by (operand.Code ∷ operand.Certificate ∷ []) (code ∷ cert ∷ []) (filter_plan Brief r) files

-- and of the program's
abbrev after_code : Files → List ℕ → Filter → Result Code CodeFault → Answer
after_code files cert f r = answer_by (operand.Certificate ∷ []) (cert ∷ []) (code_plan Brief f r) files

has_filter : (words : List (List ℕ)) (files : Files) (filter code cert bytes : List ℕ) →
    HasFilter words files filter code cert bytes →
    answer_of words files ≡ after_filter files code cert (filter_of_bytes bytes)
has_filter words files filter code cert bytes h =
    ap (λ (c : Option Command). answer_by (operands_to c) (names_to c) (plan_to c) files) h.command
    ∙ reads_on operand.Filter (operand.Code ∷ operand.Certificate ∷ []) filter (code ∷ cert ∷ [])
    (λ filter. filter_plan Brief (filter_of_bytes filter)) files bytes h.bytes.there h.bytes.short

has_code : (words : List (List ℕ)) (files : Files) (filter code cert bytes : List ℕ) (f : Filter) →
    HasCode words files filter code cert bytes f → answer_of words files ≡ after_code files cert f (code_in bytes)
has_code words files filter code cert bytes f h =
    has_filter words files filter code cert h.filter_bytes h.before
    ∙ ap (after_filter files code cert) ((file_law h.filter_bytes f).1 h.described)
    ∙ reads_on operand.Code (operand.Certificate ∷ []) code (cert ∷ []) (λ code. code_plan Brief f (code_in code)) files
    bytes h.bytes.there h.bytes.short

has_certificate : (words : List (List ℕ)) (files : Files) (filter code cert bytes : List ℕ) (f : Filter) (p : Code) →
    HasCertificate words files filter code cert bytes f p →
    answer_of words files ≡ certified Brief f p (certificate_in (lines_of bytes))
has_certificate words files filter code cert bytes f p h =
    has_code words files filter code cert h.code_bytes f h.before
    ∙ ap (after_code files cert f) ((code_law h.code_bytes p).1 h.spelled)
    ∙ reads_on operand.Certificate [] cert [] (λ cert. Ends (certified Brief f p (certificate_in (lines_of cert))))
    files bytes h.bytes.there h.bytes.short

has_all : CertificateLaw → (words : List (List ℕ)) (files : Files) (filter code cert : List ℕ) (f : Filter) (p : Code)
    (c : Certificate) → HasAll words files filter code cert f p c → answer_of words files ≡ judged f p c
has_all law words files filter code cert f p c h =
    has_certificate words files filter code cert h.cert_bytes f p h.before
    ∙ ap (certified Brief f p) ((law h.cert_bytes c).1 h.text)

-- ---- later steps have other statuses

abbrev IsNot : Status → Answer → Type 0
IsNot s a = a.status ≡ s → ⊥

failure_not : (s : Status) → (Done ≡ s → ⊥) → (Refused ≡ s → ⊥) → (r : Option Failure) (f : Filter) (p : Code)
    (c : Certificate) → IsNot s (by_failure r c.errors)
failure_not s done refused None f p c = done
failure_not s done refused (Some failure) f p c = refused

judged_not : (s : Status) → (Done ≡ s → ⊥) → (Refused ≡ s → ⊥) → (f : Filter) (p : Code) (c : Certificate) →
    IsNot s (judged f p c)
unfolding judged
judged_not s done refused f p c = failure_not s done refused (first_failure f p c) f p c

certified_not : (s : Status) → (Done ≡ s → ⊥) → (Refused ≡ s → ⊥) → (BadCertificate ≡ s → ⊥) →
    (f : Filter) (p : Code) (r : Result Certificate CertFault) → IsNot s (certified Brief f p r)
certified_not s done refused bad f p (Ok c) = judged_not s done refused f p c
certified_not s done refused bad f p (Err fault) = bad

long_not : (s : Status) → (TooLong ≡ s → ⊥) → (o : Operand) → IsNot s (too_long o)
long_not s long o e = long (sym (long_status o) ∙ e)

-- a program's bytes that are read
program_not : (s : Status) → (Done ≡ s → ⊥) → (Refused ≡ s → ⊥) → (BadCertificate ≡ s → ⊥) →
    (ReadFault ≡ s → ⊥) → (TooLong ≡ s → ⊥) → (files : Files) (cert : List ℕ) (f : Filter) (p : Code) →
    IsNot s (after_code files cert f (Ok p))
program_not s done refused bad none long files cert f p =
    content_holds (λ a. IsNot s a) operand.Certificate
    (λ bytes. certified Brief f p (certificate_in (lines_of bytes))) (get files cert) none
    (long_not s long operand.Certificate)
    (λ bytes. certified_not s done refused bad f p (certificate_in (lines_of bytes)))

code_not : (s : Status) → (Done ≡ s → ⊥) → (Refused ≡ s → ⊥) → (BadCertificate ≡ s → ⊥) → (BadCode ≡ s → ⊥) →
    (ReadFault ≡ s → ⊥) → (TooLong ≡ s → ⊥) → (files : Files) (cert : List ℕ) (f : Filter)
    (r : Result Code CodeFault) → IsNot s (after_code files cert f r)
code_not s done refused bad bad_code none long files cert f (Ok p) =
    program_not s done refused bad none long files cert f p
code_not s done refused bad bad_code none long files cert f (Err fault) = bad_code

filter_not : (s : Status) → (Done ≡ s → ⊥) → (Refused ≡ s → ⊥) → (BadCertificate ≡ s → ⊥) → (BadCode ≡ s → ⊥) →
    (ReadFault ≡ s → ⊥) → (TooLong ≡ s → ⊥) → (files : Files) (code cert : List ℕ) (f : Filter) →
    IsNot s (after_filter files code cert (Ok f))
filter_not s done refused bad bad_code none long files code cert f =
    content_holds (λ a. IsNot s a) operand.Code (λ bytes. after_code files cert f (code_in bytes)) (get files code) none
    (long_not s long operand.Code)
    (λ bytes. code_not s done refused bad bad_code none long files cert f (code_in bytes))

-- ---- each status

is_fault : {T F : Type 0} (r : Result T F) → ((x : T) → r ≡ Ok x → ⊥) → (fault : F) × (r ≡ Err fault)
is_fault (Ok x) h = absurd (h x refl)
is_fault (Err fault) h = (fault, refl)

status_along : (a b : Answer) (s : Status) → a ≡ b → a.status ≡ s → b.status ≡ s
status_along a b s e h = sym (ap (λ (x : Answer). x.status) e) ∙ h

pub bad_filter : BadFilterExactly
bad_filter words files filter code cert bytes h =
    let is = has_filter words files filter code cert bytes h in (
      λ status f described.
          filter_not BadFilter (λ e. cc) (λ e. cc) (λ e. cc) (λ e. cc) (λ e. cc) (λ e. cc) files code cert f
          (status_along _ _ BadFilter (is ∙ ap (after_filter files code cert) ((file_law bytes f).1 described)) status),
      λ none.
          (let (fault, read) = is_fault (filter_of_bytes bytes) (λ f e. none f ((file_law bytes f).0 e)) in
          ap (λ (a : Answer). a.status) (is ∙ ap (after_filter files code cert) read)),
    )

pub bad_code : BadCodeExactly
bad_code words files filter code cert bytes f h =
    let is = has_code words files filter code cert bytes f h in (
      λ status p spelled.
          program_not BadCode (λ e. cc) (λ e. cc) (λ e. cc) (λ e. cc) (λ e. cc) files cert f p
          (status_along _ _ BadCode (is ∙ ap (after_code files cert f) ((code_law bytes p).1 spelled)) status),
      λ none.
          (let (fault, read) = is_fault (code_in bytes) (λ p e. none p ((code_law bytes p).0 e)) in
          ap (λ (a : Answer). a.status) (is ∙ ap (after_code files cert f) read)),
    )

pub bad_certificate : CertificateLaw → BadCertificateExactly
bad_certificate law words files filter code cert bytes f p h =
    let is = has_certificate words files filter code cert bytes f p h in (
      λ status c text.
          judged_not BadCertificate (λ e. cc) (λ e. cc) f p c
          (status_along _ _ BadCertificate (is ∙ ap (certified Brief f p) ((law bytes c).1 text)) status),
      λ none.
          (let (fault, read) = is_fault (certificate_in (lines_of bytes)) (λ c e. none c ((law bytes c).0 e)) in
          ap (λ (a : Answer). a.status) (is ∙ ap (certified Brief f p) read)),
    )

judged_accepted : (f : Filter) (p : Code) (c : Certificate) → first_failure f p c ≡ None →
    judged f p c ≡ says Done (accepted_lines c.errors)
unfolding judged
judged_accepted f p c h = ap (λ failure. by_failure failure c.errors) h

failure_refused : (r : Option Failure) (c : Certificate) → (r ≡ None → ⊥) → (by_failure r c.errors).status ≡ Refused
failure_refused None c h = absurd (h refl)
failure_refused (Some failure) c h = refl

judged_refused : (f : Filter) (p : Code) (c : Certificate) → (first_failure f p c ≡ None → ⊥) →
    (judged f p c).status ≡ Refused
unfolding judged
judged_refused f p c h = failure_refused (first_failure f p c) c h

-- the three files are those of a filter, a program and a certificate
pub record HoldAll (files : Files) (filter code cert : List ℕ) (f : Filter) (p : Code) (c : Certificate) : Type 0 where
  pub filter_bytes : List ℕ
  pub code_bytes : List ℕ
  pub cert_bytes : List ℕ
  pub has_filter : HasBytes files filter filter_bytes
  pub has_code : HasBytes files code code_bytes
  pub has_cert : HasBytes files cert cert_bytes
  pub described : IsFileOf filter_bytes f
  pub spelled : Spells code_bytes p
  pub text : IsTextOf cert_bytes c

pub passing_files : CertificateLaw → NoneFails → (files : Files) (filter code cert : List ℕ) (f : Filter) (p : Code)
    (c : Certificate) → HoldAll files filter code cert f p c → Passes f p c →
    answer_by (operands_of Check) (filter ∷ code ∷ cert ∷ []) (check_plan Brief) files
    ≡ says Done (accepted_lines c.errors)
passing_files law none files filter code cert f p c h passes =
    reads_on operand.Filter (operand.Code ∷ operand.Certificate ∷ []) filter (code ∷ cert ∷ [])
    (λ filter. filter_plan Brief (filter_of_bytes filter)) files h.filter_bytes h.has_filter.there h.has_filter.short
    ∙ ap (after_filter files code cert) ((file_law h.filter_bytes f).1 h.described)
    ∙ reads_on operand.Code (operand.Certificate ∷ []) code (cert ∷ []) (λ code. code_plan Brief f (code_in code)) files
    h.code_bytes h.has_code.there h.has_code.short
    ∙ ap (after_code files cert f) ((code_law h.code_bytes p).1 h.spelled)
    ∙ reads_on operand.Certificate [] cert [] (λ cert. Ends (certified Brief f p (certificate_in (lines_of cert))))
    files h.cert_bytes h.has_cert.there h.has_cert.short
    ∙ ap (certified Brief f p) ((law h.cert_bytes c).1 h.text)
    ∙ judged_accepted f p c ((none f p c).1 passes)

pub passing : CertificateLaw → NoneFails → PassingIsAccepted
passing law none words files filter code cert f p c h passes =
    has_all law words files filter code cert f p c h ∙ judged_accepted f p c ((none f p c).1 passes)

pub refused : CertificateLaw → NoneFails → RefusedExactly
refused law none words files filter code cert f p c h =
    let is = has_all law words files filter code cert f p c h in (
      λ status passes.
          (let e : Done ≡ Refused =
          status_along _ _ Refused (is ∙ judged_accepted f p c ((none f p c).1 passes)) status in cc),
      λ fails.
          ap (λ (a : Answer). a.status) is ∙ judged_refused f p c (λ e. fails ((none f p c).0 e)),
    )

failure_done : (r : Option Failure) (c : Certificate) → (by_failure r c.errors).status ≡ Done → r ≡ None
failure_done None c h = refl
failure_done (Some failure) c h = cc

judged_done : (f : Filter) (p : Code) (c : Certificate) → (judged f p c).status ≡ Done → first_failure f p c ≡ None
unfolding judged
judged_done f p c h = failure_done (first_failure f p c) c h

pub accepted : CertificateLaw → NoneFails → AcceptedExactly
accepted law none words files filter code cert f p c h =
    let is = has_all law words files filter code cert f p c h in (
      λ status. (none f p c).0 (judged_done f p c (sym (ap (λ (a : Answer). a.status) is) ∙ status)),
      λ passes. ap (λ (a : Answer). a.status) (is ∙ judged_accepted f p c ((none f p c).1 passes)),
    )
