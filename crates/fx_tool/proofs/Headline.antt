-- Status 0 is the answer only where the files read as what they stand for; then what status 0 claims follows.
use Rattle.std.proofs.Common.{◌≡◌, inl, inr, ◌∙◌, ℕ, ℤ, Bool, true, false, List, [], ◌∷◌, length, Option, Some}
use Rattle.std.proofs.Common.{None, IsSomeAnd, Result, Ok, Err, IsOkAnd, refl, sym, ap, ap₂, subst, nat_le, cond, ◌++◌}
use Rattle.std.proofs.Common.{◌≤◌, ◌+◌, ◌-◌, pos}
use Rattle.std.proofs.lemmas.Bool.{leb-true}
use Rattle.std.specs.FinMap.{get}
use Rattle.std.specs.Option.{option_or}
use Rattle.fx_io.specs.Shelf.{Files}
use Rattle.fx_files.proofs.HeldFilter.{file_law}
use Rattle.fx_files.specs.Describes.{IsFileOf}
use Rattle.fx_files.specs.Reading.{filter_of_bytes}
use Rattle.fx_files.specs.Filter.{Filter}
use Rattle.fx_keys.specs.declared.fault.FilterFault.{FilterFault}
use Rattle.fx_text.proofs.CodeLaws.{code_law}
use Rattle.fx_text.specs.Grammar.{Spells}
use Rattle.fx_text.specs.Reading.{code_in}
use Rattle.fx_text.specs.Writing.{code_text}
use Rattle.fx_text.specs.declared.fault.CodeFault.{CodeFault}
use Rattle.fx_sim.specs.Simulation.{simulation}
use Rattle.fx_sim.specs.declared.fault.SampleFault.{SampleFault}
use Rattle.fx_code.specs.Code.{Code}
use Rattle.fx_cert.specs.Certificate.{Certificate, IsTextOf, text_of}
use Rattle.fx_cert.specs.Laws.{CertificateLaw}
use Rattle.fx_cert.specs.Lines.{lines_of}
use Rattle.fx_cert.specs.Reading.{certificate_in}
use Rattle.fx_cert.specs.declared.fault.CertFault.{CertFault}
use Rattle.fx_block.specs.Certified.{NoneFails}
use Rattle.fx_block.specs.Failure.{Failure, first_failure, form_failure, range_failure}
use Rattle.fx_block.specs.Certified.{PassesSound}
use Rattle.fx_check.specs.Report.{known_parts, parts_of, parts_unless}
use Rattle.fx_error.specs.declared.parts.Parts.{Parts}
use Rattle.fx_block.specs.Formats.{bound_of}
use Rattle.fx_gain.proofs.Alone.{length_singles}
use Rattle.fx_gain.specs.Enclosing.{enclosure, weight, worst_word, worst_words}
use Rattle.fx_gain.specs.Lengths.{original_net}
use Rattle.fx_lines.specs.Filter.{filter_lines}
use Rattle.fx_lines.specs.Report.{report_lines}
use Rattle.fx_lines.specs.Verdict.{accepted_lines}
use Rattle.fx_tool.proofs.CheckCauses.{passing_files}
use Rattle.fx_tool.proofs.Followed.{long_status, told_answer}
use Rattle.fx_tool.proofs.Gains.{serving_listed}
use Rattle.fx_tool.proofs.JobRuns.{large_done}
use Rattle.fx_tool.proofs.Making.{read_done}
use Rattle.fx_tool.proofs.TwoPlaced.{Apart, Hold, three_names, two_placed}
use Rattle.fx_tool.specs.Answer.{Answer, absent, Delivers}
use Rattle.fx_tool.specs.Check.{certified, check_plan, code_plan, filter_plan, Headline}
use Rattle.fx_tool.specs.Check.{CertificateIsSound, CodeIsSound, FilterIsSound, FilesAreSound}
use Rattle.fx_words.specs.Command.{Command, names_fit, operands_of, targets_of}
use Rattle.fx_words.specs.Words.{command_of, IsWhole}
use Rattle.fx_words.proofs.Completeness.{commands_are_whole}
use Rattle.fx_tool.specs.Gain.{by_serving, gained, gains, gains_text, serving, BytesEnclose, Gains, GainsEnclose}
use Rattle.fx_tool.specs.Large.{operand_number}
use Rattle.fx_tool.specs.Made.{made_certificate, made_program}
use Rattle.fx_tool.specs.Make.{FilterIsServed, HoldsOf, IsServed, Makes, Serves, made_of_bytes}
use Rattle.fx_tool.specs.Placing.{placings, with_placed}
use Rattle.fx_tool.specs.Judgement.{by_failure, judged, parts_text, passing_lines, reported, told}
use Rattle.fx_words.specs.Operand.{limit_of}
use Rattle.fx_tool.specs.Operand.{too_long}
use Rattle.fx_tool.specs.Plan.{Plan, Ends, Reads, by_content, answer_by, OfAnswer}
use Rattle.fx_tool.specs.Running.{PlacesAnswer, answer_of, placings_of, targets_to}
use Rattle.fx_tool.specs.Running.{plan_of, operands_to, names_to, plan_to, OfWords, Claims, DoneClaims}
use Rattle.fx_tool.specs.Running.{Establishes, EstablishesTo, EstablishesWords}
use Rattle.fx_tool.specs.Show.{shown, Shows}
use Rattle.fx_tool.specs.Simulate.{outputs, samples_plan, Simulates}
use Rattle.fx_tool.specs.Writing.{GrowsBy}
use Rattle.fx_words.specs.declared.command.Verb.{Verb}
use Rattle.fx_words.specs.declared.command.Verb.TheVariants.{Check, Gain, Large, Make, Report, Show, Simulate}
use Rattle.fx_tool.specs.declared.judgement.Detail.{Detail}
use Rattle.fx_tool.specs.declared.judgement.Detail.TheVariants.{Brief, Full}
use Rattle.fx_words.specs.declared.operand.Operand.{Operand}
use Rattle.fx_words.specs.declared.operand.Operand.TheVariants as operand
use Rattle.fx_tool.specs.declared.status.Status.{Status}
use Rattle.fx_tool.specs.declared.status.Status.TheVariants.{Done, TooLong, Usage}

-- the answer of a command with these names
abbrev answer_for : Verb → List (List ℕ) → Files → Answer
answer_for v names files = answer_by (operands_of v) names (plan_of v names) files

-- ---- where the answer is 0, the first file is there and not too long

along : (a b : Answer) → a ≡ b → a.status ≡ Done → b.status ≡ Done
along a b e h = sym (ap (λ (x : Answer). x.status) e) ∙ h

long_refused : (o : Operand) → (too_long o).status ≡ Done → ⊥
long_refused o h = let no : TooLong ≡ Done = sym (long_status o) ∙ h in cc

short_done : (b : Bool) (next long : Answer) → (long.status ≡ Done → ⊥) → (cond b next long).status ≡ Done →
    cond b next long ≡ next
short_done true next long l h = refl
short_done false next long l h = absurd (l h)

is_short : (b : Bool) (next long : Answer) → (long.status ≡ Done → ⊥) → (cond b next long).status ≡ Done → b ≡ true
is_short true next long l h = refl
is_short false next long l h = absurd (l h)

content_done : (o : Operand) (c : Option (List ℕ)) (next : List ℕ → Answer) →
    (by_content o absent (too_long o) next c).status ≡ Done
    → (content : List ℕ) × (c ≡ Some content) × (length content ≤ limit_of o)
    × (by_content o absent (too_long o) next c ≡ next content)
content_done o None next h = cc
content_done o (Some content) next h = (
  content,
  refl,
  leb-true (length content) (limit_of o)
      (is_short (nat_le (length content) (limit_of o)) (next content) (too_long o) (long_refused o) h),
  short_done (nat_le (length content) (limit_of o)) (next content) (too_long o)
      (long_refused o) h,
)

-- the first file of a plan, and what is behind it
record IsRead (o : Operand) (os : List Operand) (names : List (List ℕ)) (next : List ℕ →
    Plan) (files : Files) (answer : Answer) : Type 0 where
  name : List ℕ
  others : List (List ℕ)
  bytes : List ℕ
  is : names ≡ name ∷ others
  there : get files name ≡ Some bytes
  short : length bytes ≤ limit_of o
  same : answer ≡ answer_by os others (next bytes) files

is_read : (o : Operand) (os : List Operand) (names : List (List ℕ)) (next : List ℕ → Plan) (files : Files)
    → (answer_by (o ∷ os) names (Reads next) files).status ≡ Done →
    IsRead o os names next files (answer_by (o ∷ os) names (Reads next) files)
is_read o os [] next files h = cc
is_read o os (name ∷ others) next files h =
    let (bytes, there, short, same) =
    content_done o (get files name) (λ content. answer_by os others (next content) files) h in
    record { name = name; others = others; bytes = bytes; is = refl; there = there; short = short; same = same }

there : (o : Option (List ℕ)) (bytes : List ℕ) (P : List ℕ → Type 0) → o ≡ Some bytes → P bytes → IsSomeAnd o P
there o bytes P e h = rw e h

-- ---- `show`

shown_done : (r : Result Filter FilterFault) → (shown r).status ≡ Done →
    (f : Filter) × (r ≡ Ok f) × ((shown r).text ≡ filter_lines f)
shown_done (Ok f) h = (f, refl, refl)
shown_done (Err fault) h = cc

show_done : (files : Files) (names : List (List ℕ)) (before after : Option (List ℕ)) →
    (answer_for Show names files).status ≡ Done
    → GrowsBy (answer_for Show names files).text before after →
    Claims Show names files before after
show_done files names before after h grows =
    let file = is_read operand.Filter [] names (λ bytes. Ends (shown (filter_of_bytes bytes))) files h in
    let (f, read, text) = shown_done (filter_of_bytes file.bytes) (along _ _ file.same h) in
    let claim : Shows files file.name before after = record {
      filter = f;
      described = there (get files file.name) file.bytes (λ bytes.
          IsFileOf bytes f) file.there ((file_law file.bytes f).0 read);
      printed = subst (λ (t : List ℕ). GrowsBy t before after) (ap (λ (a : Answer). a.text) file.same ∙ text) grows;
    } in
    subst (λ (names : List (List ℕ)). Claims Show names files before after) (sym file.is) claim

-- ---- `simulate`

code_done : (r : Result Code CodeFault) (names : List (List ℕ)) (files : Files) →
    (answer_by (operand.Samples ∷ []) names (samples_plan r) files).status ≡ Done → (p : Code) × (r ≡ Ok p)
code_done (Ok p) names files h = (p, refl)
code_done (Err fault) names files h = cc

outputs_done : (r : Result (List ℕ) SampleFault) → (outputs r).status ≡ Done →
    (t : List ℕ) × (r ≡ Ok t) × ((outputs r).text ≡ t)
outputs_done (Ok t) h = (t, refl, refl)
outputs_done (Err fault) h = cc

simulate_done : (files : Files) (names : List (List ℕ)) (before after : Option (List ℕ)) →
    (answer_for Simulate names files).status ≡ Done
    → GrowsBy (answer_for Simulate names files).text before after →
    Claims Simulate names files before after
simulate_done files names before after h grows =
    let file = is_read operand.Code (operand.Samples ∷ []) names (λ bytes. samples_plan (code_in bytes)) files h in
    let after_file = along _ _ file.same h in
    let (p, read) = code_done (code_in file.bytes) file.others files after_file in
    let second = ap (λ r. answer_by (operand.Samples ∷ []) file.others (samples_plan r) files) read in
    let moments = is_read operand.Samples [] file.others (λ bytes.
    Ends (outputs (simulation p bytes))) files (along _ _ second after_file) in
    let (t, runs, text) = outputs_done (simulation p moments.bytes)
    (along _ _ moments.same (along _ _ second after_file)) in
    let claim : Simulates files file.name moments.name before after = record {
      program = p;
      text = t;
      spells = there (get files file.name) file.bytes (λ bytes.
          Spells bytes p) file.there ((code_law file.bytes p).0 read);
      runs = there (get files moments.name) moments.bytes (λ bytes. simulation p bytes ≡ Ok t) moments.there runs;
      printed = subst (λ (t : List ℕ). GrowsBy t before after)
          (ap (λ (a : Answer). a.text) (file.same ∙ second ∙ moments.same) ∙ text) grows;
    } in
    let names_are : names ≡ file.name ∷ moments.name ∷ moments.others =
    file.is ∙ ap (λ ns. file.name ∷ ns) moments.is in
    subst (λ (names : List (List ℕ)). Claims Simulate names files before after) (sym names_are) claim

-- ---- `check` and `report`

filter_done : (detail : Detail) (r : Result Filter FilterFault) (names : List (List ℕ)) (files : Files) →
    (answer_by (operand.Code ∷ operand.Certificate ∷ []) names (filter_plan detail r) files).status ≡ Done →
    (f : Filter) × (r ≡ Ok f)
filter_done detail (Ok f) names files h = (f, refl)
filter_done detail (Err fault) names files h = cc

program_done : (detail : Detail) (f : Filter) (r : Result Code CodeFault) (names : List (List ℕ)) (files : Files) →
    (answer_by (operand.Certificate ∷ []) names (code_plan detail f r) files).status ≡ Done → (p : Code) × (r ≡ Ok p)
program_done detail f (Ok p) names files h = (p, refl)
program_done detail f (Err fault) names files h = cc

failure_done : (r : Option Failure) (errors : List ℤ) → (by_failure r errors).status ≡ Done →
    (by_failure r errors).text ≡ accepted_lines errors
failure_done None errors h = refl
failure_done (Some failure) errors h = cc

judged_done : (f : Filter) (p : Code) (c : Certificate) → (judged f p c).status ≡ Done →
    (judged f p c).text ≡ accepted_lines c.errors
unfolding judged
judged_done f p c h = failure_done (first_failure f p c) c.errors h

none_failed : (r : Option Failure) (errors : List ℤ) → (by_failure r errors).status ≡ Done → r ≡ None
none_failed None errors h = refl
none_failed (Some failure) errors h = cc

judged_none_failed : (f : Filter) (p : Code) (c : Certificate) → (judged f p c).status ≡ Done →
    first_failure f p c ≡ None
unfolding judged
judged_none_failed f p c h = none_failed (first_failure f p c) c.errors h

-- where nothing fails, the form and the sweeps do not
known_where_none_fails : (form range others : Option Failure) (parts : List Parts) →
    option_or form (option_or range others) ≡ None → parts_unless (option_or form range) parts ≡ Some parts
known_where_none_fails None None others parts h = refl
known_where_none_fails None (Some failure) others parts h = cc
known_where_none_fails (Some failure) range others parts h = cc

parts_known : (f : Filter) (p : Code) (c : Certificate) → first_failure f p c ≡ None →
    known_parts f p c ≡ Some (parts_of f p c)
parts_known f p c h =
    known_where_none_fails (form_failure f p c) (range_failure f p c) _ (parts_of f p c) h

reported_done : (f : Filter) (p : Code) (c : Certificate) → (reported f p c).status ≡ Done →
    (reported f p c).text ≡ report_lines f p c (parts_of f p c) ++ accepted_lines c.errors
unfolding reported
reported_done f p c h =
    ap₂ (λ a b. a ++ b) (ap (parts_text f p c) (parts_known f p c (judged_none_failed f p c h))) (judged_done f p c h)

told_done : (detail : Detail) (f : Filter) (p : Code) (c : Certificate) → (told detail f p c).status ≡ Done →
    (told detail f p c).text ≡ passing_lines detail f p c
told_done Brief f p c h = judged_done f p c h
told_done Full f p c h = reported_done f p c h

certificate_done : (detail : Detail) (f : Filter) (p : Code) (r : Result Certificate CertFault) →
    (certified detail f p r).status ≡ Done
    → (c : Certificate) × (r ≡ Ok c) × ((certified detail f p r).text ≡ passing_lines detail f p c)
certificate_done detail f p (Ok c) h = (c, refl, told_done detail f p c h)
certificate_done detail f p (Err fault) h = cc

-- of a file that is there
of_file : (o : Option (List ℕ)) (bytes : List ℕ) (P : List ℕ → Type 0) → o ≡ Some bytes → IsSomeAnd o P → P bytes
of_file o bytes P e h = subst (λ o. IsSomeAnd o P) e h

-- and of what it is read as
of_value : {T F : Type 0} (r : Result T F) (x : T) (P : T → Type 0) → r ≡ Ok x → IsOkAnd r P → P x
of_value r x P e h = subst (λ r. IsOkAnd r P) e h

-- their files, and what they are read as
record IsJudged (detail : Detail) (files : Files) (names : List (List ℕ)) (answer : Answer) : Type 0 where
  filter_name : List ℕ
  code_name : List ℕ
  cert_name : List ℕ
  others : List (List ℕ)
  names_are : names ≡ filter_name ∷ code_name ∷ cert_name ∷ others
  filter_bytes : List ℕ
  code_bytes : List ℕ
  cert_bytes : List ℕ
  filter_there : get files filter_name ≡ Some filter_bytes
  code_there : get files code_name ≡ Some code_bytes
  cert_there : get files cert_name ≡ Some cert_bytes
  filter : Filter
  program : Code
  certificate : Certificate
  filter_read : filter_of_bytes filter_bytes ≡ Ok filter
  code_read : code_in code_bytes ≡ Ok program
  cert_read : certificate_in (lines_of cert_bytes) ≡ Ok certificate
  text : answer.text ≡ passing_lines detail filter program certificate

is_judged : (detail : Detail) (files : Files) (names : List (List ℕ)) →
    (answer_by (operands_of Check) names (check_plan detail) files).status ≡ Done →
    IsJudged detail files names (answer_by (operands_of Check) names (check_plan detail) files)
is_judged detail files names h =
    let filter = is_read operand.Filter (operand.Code ∷ operand.Certificate ∷ []) names (λ bytes.
    filter_plan detail (filter_of_bytes bytes)) files h in
    let has_filter = along _ _ filter.same h in
    let (f, filter_read) = filter_done detail (filter_of_bytes filter.bytes) filter.others files has_filter in
    let of_filter = ap (λ r.
    answer_by (operand.Code ∷ operand.Certificate ∷ []) filter.others (filter_plan detail r) files) filter_read in
    let code = is_read operand.Code (operand.Certificate ∷ []) filter.others (λ bytes.
    code_plan detail f (code_in bytes)) files (along _ _ of_filter has_filter) in
    let has_code = along _ _ code.same (along _ _ of_filter has_filter) in
    let (p, code_read) = program_done detail f (code_in code.bytes) code.others files has_code in
    let of_code = ap (λ r. answer_by (operand.Certificate ∷ []) code.others (code_plan detail f r) files) code_read in
    let cert = is_read operand.Certificate [] code.others (λ bytes.
    Ends (certified detail f p (certificate_in (lines_of bytes)))) files (along _ _ of_code has_code) in
    let (c, cert_read, text) = certificate_done detail f p (certificate_in (lines_of cert.bytes))
    (along _ _ cert.same (along _ _ of_code has_code)) in
    record {
      filter_name = filter.name;
      code_name = code.name;
      cert_name = cert.name;
      others = cert.others;
      names_are = filter.is ∙ ap (λ ns. filter.name ∷ ns) (code.is ∙ ap (λ ns. code.name ∷ ns) cert.is);
      filter_bytes = filter.bytes;
      code_bytes = code.bytes;
      cert_bytes = cert.bytes;
      filter_there = filter.there;
      code_there = code.there;
      cert_there = cert.there;
      filter = f;
      program = p;
      certificate = c;
      filter_read = filter_read;
      code_read = code_read;
      cert_read = cert_read;
      text = ap (λ (a : Answer). a.text) (filter.same ∙ of_filter ∙ code.same ∙ of_code ∙ cert.same) ∙ text;
    }

-- what the code of `check` shows, of what the files are read as
judged_sound : (detail : Detail) (files : Files) (names : List (List ℕ)) (answer : Answer)
    (j : IsJudged detail files names answer) →
    FilesAreSound (Some files) j.filter_name j.code_name j.cert_name →
    PassesSound j.filter j.program j.certificate
judged_sound detail files names answer j sound =
    let filter = of_file (get files j.filter_name) j.filter_bytes
    (FilterIsSound (Some files) j.code_name j.cert_name) j.filter_there sound in
    let code = of_file (get files j.code_name) j.code_bytes (CodeIsSound (Some files) j.cert_name j.filter) j.code_there
    (of_value (filter_of_bytes j.filter_bytes) j.filter _ j.filter_read filter) in
    let cert = of_file (get files j.cert_name) j.cert_bytes (CertificateIsSound j.filter j.program) j.cert_there
    (of_value (code_in j.code_bytes) j.program _ j.code_read code) in
    of_value (certificate_in (lines_of j.cert_bytes)) j.certificate _ j.cert_read cert

headline : CertificateLaw → (detail : Detail) (files : Files) (names : List (List ℕ)) (answer : Answer)
    (before after : Option (List ℕ)) (j : IsJudged detail files names answer) →
    FilesAreSound (Some files) j.filter_name j.code_name j.cert_name →
    GrowsBy answer.text before after → Headline detail files j.filter_name j.code_name j.cert_name before after
headline law detail files names answer before after j sound grows = record {
  filter = j.filter;
  program = j.program;
  certificate = j.certificate;
  filter_file = there (get files j.filter_name) j.filter_bytes (λ bytes. IsFileOf bytes j.filter) j.filter_there
      ((file_law j.filter_bytes j.filter).0 j.filter_read);
  code_text = there (get files j.code_name) j.code_bytes (λ bytes. Spells bytes j.program) j.code_there
      ((code_law j.code_bytes j.program).0 j.code_read);
  certificate_text = there (get files j.cert_name) j.cert_bytes (λ bytes. IsTextOf bytes j.certificate) j.cert_there
      ((law j.cert_bytes j.certificate).0 j.cert_read);
  passes = (judged_sound detail files names answer j sound).passes;
  sound = (judged_sound detail files names answer j sound).sound;
  printed = subst (λ (t : List ℕ). GrowsBy t before after) j.text grows;
}

check_done : CertificateLaw → (files : Files) (names : List (List ℕ)) (before after : Option (List ℕ)) →
    (answer_for Check names files).status ≡ Done →
    Establishes Check names (Some files)
    → GrowsBy (answer_for Check names files).text before after →
    Claims Check names files before after
check_done law files names before after h sound grows =
    let j = is_judged Brief files names h in
    let shown = subst (λ (names : List (List ℕ)). Establishes Check names (Some files)) j.names_are sound in
    subst (λ (names : List (List ℕ)). Claims Check names files before after) (sym j.names_are)
    (headline law Brief files names (answer_for Check names files) before after j
    shown grows)

report_done : CertificateLaw → (files : Files) (names : List (List ℕ)) (before after : Option (List ℕ)) →
    (answer_for Report names files).status ≡ Done →
    Establishes Report names (Some files)
    → GrowsBy (answer_for Report names files).text before after →
    Claims Report names files before after
report_done law files names before after h sound grows =
    let j = is_judged Full files names h in
    let shown = subst (λ (names : List (List ℕ)). Establishes Report names (Some files)) j.names_are sound in
    subst (λ (names : List (List ℕ)). Claims Report names files before after) (sym j.names_are)
    (headline law Full files names (answer_for Report names files) before after j
    shown grows)

-- ---- `gain`

serving_done : (f : Filter) (m : Option ℕ) → (by_serving f m).status ≡ Done →
    (l : ℕ) × (m ≡ Some l) × ((by_serving f m).text ≡ gains_text f l)
serving_done f (Some m) h = (m, refl, refl)
serving_done f None h = cc

gains_done : (f : Filter) → (gains f).status ≡ Done →
    (m : ℕ) × (serving f ≡ Some m) × ((gains f).text ≡ gains_text f m)
unfolding gains
gains_done f h = serving_done f (serving f) h

record IsGained (r : Result Filter FilterFault) : Type 0 where
  filter : Filter
  moments : ℕ
  read : r ≡ Ok filter
  serves : serving filter ≡ Some moments
  text : (gained r).text ≡ gains_text filter moments

gained_done : (r : Result Filter FilterFault) → (gained r).status ≡ Done → IsGained r
gained_done (Ok f) h =
    let (m, serves, text) = gains_done f h in
    record { filter = f; moments = m; read = refl; serves = serves; text = text }
gained_done (Err fault) h = cc

gain_done : (files : Files) (names : List (List ℕ)) (before after : Option (List ℕ)) →
    (answer_for Gain names files).status ≡ Done → Establishes Gain names (Some files)
    → GrowsBy (answer_for Gain names files).text before after →
    Claims Gain names files before after
gain_done files names before after h shown grows =
    let file = is_read operand.Filter [] names (λ bytes. Ends (gained (filter_of_bytes bytes))) files h in
    let found = gained_done (filter_of_bytes file.bytes) (along _ _ file.same h) in
    let told = subst (λ (names : List (List ℕ)). Establishes Gain names (Some files)) file.is shown in
    let encloses : GainsEnclose found.filter =
    of_value (filter_of_bytes file.bytes) found.filter GainsEnclose found.read
    (of_file (get files file.name) file.bytes BytesEnclose file.there told) in
    let claim : Gains files file.name before after = record {
      filter = found.filter;
      moments = found.moments;
      interval = enclosure (original_net found.filter) found.filter found.moments;
      words = worst_words (original_net found.filter) found.filter found.moments;
      described = there (get files file.name) file.bytes (λ bytes. IsFileOf bytes found.filter) file.there
          ((file_law file.bytes found.filter).0 found.read);
      listed = serving_listed found.filter found.filter.settings.lengths found.moments found.serves;
      block = λ o i. length_singles found.moments (λ k. worst_word (pos (bound_of found.filter i))
          (weight (original_net found.filter) found.filter o i (found.moments - (k + 1))));
      encloses = encloses found.moments found.serves;
      printed = subst (λ (t : List ℕ). GrowsBy t before after)
          (ap (λ (a : Answer). a.text) file.same ∙ found.text) grows;
    } in
    subst (λ (names : List (List ℕ)). Claims Gain names files before after) (sym file.is) claim

-- ---- each command

-- ---- `make`

-- of three files, the second and the third as they are placed
made : CertificateLaw → NoneFails → (files files' : Files) (filter code cert : List ℕ)
    (before after : Option (List ℕ)) → Apart filter code cert →
    (answer_for Make (filter ∷ code ∷ cert ∷ []) files).status ≡ Done →
    Establishes Make (filter ∷ code ∷ cert ∷ []) (Some files)
    → GrowsBy (answer_for Make (filter ∷ code ∷ cert ∷ []) files).text before after →
    files' ≡ with_placed (placings (code ∷ cert ∷ [])
    (answer_for Make (filter ∷ code ∷ cert ∷ []) files).placed) files →
    Makes files' filter code cert before after
made law none files files' filter code cert before after apart h served grows left =
    let (bytes, found, short, same) = content_done operand.Filter (get files filter)
    (λ bytes. made_of_bytes (filter_of_bytes bytes)) h in
    let read = read_done (filter_of_bytes bytes) (along _ _ same h) in
    let f = read.filter in
    let c = read.made.candidate in
    let p = read.made.passing in
    let answer = same ∙ read.made.same in
    let holds : HoldsOf f (λ q k. Serves f q k) c p =
    of_value (filter_of_bytes bytes) f IsServed read.read
    (of_file (get files filter) bytes FilterIsServed found served) c p read.made.first in
    let serves = holds.made in
    let hold = subst (λ (m : Files). Hold files m filter code cert (code_text (made_program f p))
    (text_of (made_certificate f c.length p)))
    (sym (left ∙ ap (λ (a : Answer). with_placed (placings (code ∷ cert ∷ []) a.placed) files) answer))
    (two_placed files filter code cert (code_text (made_program f p)) (text_of (made_certificate f c.length p))
    apart) in
    let described = (file_law bytes f).0 read.read in
    let first = hold.first_kept ∙ found in
    record {
      filter = f;
      candidate = c;
      passing = p;
      filter_file = there (get files' filter) bytes (λ bytes. IsFileOf bytes f) first described;
      first = read.made.first;
      least = holds.least;
      code_text = there (get files' code) _ (λ bytes. Spells bytes (made_program f p)) hold.second_there
          serves.spelled;
      certificate_text = there (get files' cert) _ (λ bytes. IsTextOf bytes (made_certificate f c.length p))
          hold.third_there serves.text;
      passes = serves.judged.passes;
      sound = serves.judged.sound;
      accepted = ap (λ (a : Answer). a.status) (passing_files law none files' filter code cert f (made_program f p)
          (made_certificate f c.length p) (record {
            filter_bytes = bytes;
            code_bytes = code_text (made_program f p);
            cert_bytes = text_of (made_certificate f c.length p);
            has_filter = record { there = first; short = short };
            has_code = record { there = hold.second_there; short = serves.short.0 };
            has_cert = record { there = hold.third_there; short = serves.short.1 };
            described = described;
            spelled = serves.spelled;
            text = serves.text;
          }) serves.judged.passes);
      printed = subst (λ (t : List ℕ). GrowsBy t before after) (ap (λ (a : Answer). a.text) answer) grows;
    }

-- where it ends with 0, its files are as it claims
make_done : CertificateLaw → NoneFails → (files files' : Files) (names : List (List ℕ))
    (before after : Option (List ℕ)) → names_fit Make names ≡ true →
    (answer_for Make names files).status ≡ Done → Establishes Make names (Some files)
    → GrowsBy (answer_for Make names files).text before after →
    files' ≡ with_placed (placings (targets_of Make names)
    (answer_for Make names files).placed) files → Claims Make names files' before after
make_done law none files files' names before after fit =
    let three = three_names names fit in
    subst (λ (names : List (List ℕ)).
    (answer_for Make names files).status ≡ Done → Establishes Make names (Some files)
    → GrowsBy (answer_for Make names files).text before after →
    files' ≡ with_placed (placings (targets_of Make names)
    (answer_for Make names files).placed) files → Claims Make names files' before after)
    (sym three.are) (made law none files files' three.first three.second three.third before after three.apart)

-- a command that places nothing leaves its files
kept : (v : Verb) (names : List (List ℕ)) (files files' : Files) (before after : Option (List ℕ)) →
    files' ≡ files → Claims v names files before after → Claims v names files' before after
kept v names files files' before after left h = subst (λ (f : Files). Claims v names f before after) (sym left) h

verb_done : CertificateLaw → NoneFails → (v : Verb) (names : List (List ℕ)) (files files' : Files)
    (before after : Option (List ℕ)) → names_fit v names ≡ true →
    (answer_for v names files).status ≡ Done → Establishes v names (Some files)
    → GrowsBy (answer_for v names files).text before after →
    files' ≡ with_placed (placings (targets_of v names) (answer_for v names files).placed) files
    → Claims v names files' before after
verb_done law none Check names files files' before after fit h shows grows left =
    kept Check names files files' before after left (check_done law files names before after h shows grows)
verb_done law none Gain names files files' before after fit h shows grows left =
    kept Gain names files files' before after left (gain_done files names before after h shows grows)
verb_done law none Large names files files' before after fit h shows grows left =
    kept Large names files files' before after left (large_done (operand_number names) before after h shows grows)
verb_done law none Make names files files' before after fit h shows grows left =
    make_done law none files files' names before after fit h shows grows left
verb_done law none Report names files files' before after fit h shows grows left =
    kept Report names files files' before after left (report_done law files names before after h shows grows)
verb_done law none Show names files files' before after fit h shows grows left =
    kept Show names files files' before after left (show_done files names before after h grows)
verb_done law none Simulate names files files' before after fit h shows grows left =
    kept Simulate names files files' before after left (simulate_done files names before after h grows)

-- a status 0 is the answer's
answered : (a : Answer) (before after : Option (List ℕ)) → Delivers a Done before after → a.status ≡ Done
answered a before after h = elim h.which [
  | inl e ↦ sym e
  | inr (inl e) ↦ cc
  | inr (inr (inl e)) ↦ cc
  | inr (inr (inr e)) ↦ cc
]

-- the names of the words' command fit it
fits_of : (c : Option Command) → IsWhole c → (d : Command) → c ≡ Some d → names_fit d.verb d.names ≡ true
fits_of c whole d e = subst (λ (c : Option Command). IsWhole c) e whole

command_done : CertificateLaw → NoneFails → (c : Option Command) →
    ((d : Command) → c ≡ Some d → names_fit d.verb d.names ≡ true) →
    (files files' : Files) (before after : Option (List ℕ)) → EstablishesTo c (Some files) →
    OfAnswer (operands_to c) (names_to c) (plan_to c) (Some files) (λ a. Delivers a Done before after)
    → (Done ≡ (answer_by (operands_to c) (names_to c) (plan_to c) files).status →
    files' ≡ with_placed (placings (targets_to c)
    (answer_by (operands_to c) (names_to c) (plan_to c) files).placed) files)
    → IsSomeAnd c (λ c. Claims c.verb c.names files' before after)
command_done law none None fits files files' before after shows h left =
    absurd (let e : Usage ≡ Done = answered (answer_by [] [] (plan_to None) files) before after h in cc)
command_done law none (Some c) fits files files' before after shows h left =
    let given = told_answer (operands_of c.verb) c.names (plan_of c.verb c.names) files
    (λ a. Delivers a Done before after) h in
    let done = answered (answer_for c.verb c.names files) before after given in
    verb_done law none c.verb c.names files files' before after (fits c refl) done shows (given.whole (sym done))
    (left (sym done))

files_there : (o : Option Files) (files : Files) (P : Files → Type 0) → o ≡ Some files → P files → IsSomeAnd o P
files_there o files P e h = rw e h

pub done_claims : CertificateLaw → NoneFails → (words : List (List ℕ)) (told told' : Option Files) (status : Status)
    (before after : Option (List ℕ)) → status ≡ Done → EstablishesWords words told →
    OfWords words told (λ a. Delivers a status before after) → PlacesAnswer words told told' status →
    DoneClaims words told told' before after
done_claims law none words None told' status before after e shows h left = tt
done_claims law none words (Some files) told' status before after e shows h left =
    let c = command_of words in
    let given = subst (λ (s : Status). OfWords words (Some files) (λ a. Delivers a s before after)) e h in
    let done = answered (answer_of words files) before after
    (told_answer (operands_to c) (names_to c) (plan_to c) files (λ a. Delivers a Done before after) given) in
    let files' = with_placed (placings_of words (answer_of words files)) files in
    files_there told' files' (λ f. IsSomeAnd c (λ d. Claims d.verb d.names f before after)) (left (e ∙ sym done))
    (command_done law none c (fits_of c (commands_are_whole words)) files files' before after shows given (λ d. refl))
