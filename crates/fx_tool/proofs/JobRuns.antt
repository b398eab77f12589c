-- What is made of a number's filter, and its run, is the answer; and what the answer's status 0 claims.
use Rattle.std.proofs.Common.{◌≡◌, ◌∙◌, ℕ, List, Option, Ok, Err, refl, sym, ap, subst}
use Rattle.fx_code.specs.Fits.{CodeFits}
use Rattle.fx_cert.specs.Certificate.{CertificateFits}
use Rattle.fx_files.specs.Filter.{Filter}
use Rattle.fx_make.specs.Made.{Makes, found}
use Rattle.fx_make.specs.Search.Progress.{AllFailed}
use Rattle.fx_make.specs.declared.answer.MakeFault.TheVariants as fault
use Rattle.fx_make.specs.declared.answer.Made.{Made}
use Rattle.fx_make.specs.declared.fail.Failed.{Failed}
use Rattle.fx_large.specs.Job.{IsMadeOfFilter, IsRun, job_filter, job_summary}
use Rattle.fx_large.specs.Sections.{samples_state, sections_of}
use Rattle.fx_large.specs.declared.job.Job.{Job}
use Rattle.fx_large.specs.declared.summary.Summary.{Summary}
use Rattle.fx_findings.specs.Designs.{no_design_lines}
use Rattle.fx_findings.specs.Large.{large_lines}
use Rattle.fx_tool.specs.Answer.{Answer, says}
use Rattle.fx_block.specs.Certified.{PassesSound}
use Rattle.fx_tool.specs.Large.{Larges, NumberIsServed, large_answer, number_filter, run_for, run_lines}
use Rattle.fx_tool.specs.Make.{of_found}
use Rattle.fx_tool.specs.Writing.{GrowsBy}
use Rattle.fx_tool.specs.declared.status.Status.TheVariants.{Done, NoDesign}
use Rattle.fx_tool.proofs.Making.{found_holds, found_is, said_of_made, search_done}

-- the filter of the drawn sections is the number's
filter_is : (number : ℕ) → job_filter (sections_of number) ≡ number_filter number
unfolding number_filter
filter_is number = refl

-- so what was made of the one is made of the other
made_is : (number : ℕ) (m : Made) → IsMadeOfFilter (job_filter (sections_of number)) m →
    IsMadeOfFilter (number_filter number) m
made_is number m h = subst (λ (f : Filter). IsMadeOfFilter f m) (filter_is number) h

-- the lines of a job
abbrev pub job_lines : ℕ → Job → List ℕ
job_lines number job =
    large_lines number job.made.guard job.made.fraction job.made.length job.made.cert.errors job.summary

lines_are : (number : ℕ) (job : Job) → job.summary ≡ job_summary job.made.program (samples_state number) →
    run_lines number job.made.guard job.made.fraction job.made.length job.made.program job.made.cert
    ≡ job_lines number job
lines_are number job e =
    let m = job.made in
    ap (λ (s : Summary). large_lines number m.guard m.fraction m.length m.cert.errors s) (sym e)

pub answer_is_run : (number : ℕ) (job : Job) → IsRun (sections_of number) (samples_state number) job →
    CodeFits job.made.program → CertificateFits job.made.cert →
    large_answer number ≡ says Done (job_lines number job)
unfolding large_answer
answer_is_run number job h fits fit =
    let f = number_filter number in
    found_is f (λ c p. run_for number c p) job.made (says Done (job_lines number job)) (λ c p is.
    ap (says Done) (said_of_made (λ g r l q k. run_lines number g r l q k) f c p job.made is fits fit
    ∙ lines_are number job h.summary)) (found f) (made_is number job.made h.made).first

pub answer_is_no_run : (number : ℕ) (fails : List Failed) →
    Makes (job_filter (sections_of number)) (Err (fault.NoDesign fails)) →
    large_answer number ≡ says NoDesign (no_design_lines fails)
unfolding large_answer
answer_is_no_run number fails e =
    let none : found (number_filter number) ≡ Ok (AllFailed fails) =
    subst (λ (f : Filter). found f ≡ Ok (AllFailed fails)) (filter_is number) e in
    ap (of_found (λ c p. run_for number c p)) none

pub number_is_served : (number : ℕ) (job : Job) → IsRun (sections_of number) (samples_state number) job →
    CodeFits job.made.program → CertificateFits job.made.cert → NumberIsServed number
unfolding NumberIsServed
number_is_served number job h fits fit =
    let f = number_filter number in
    let made = made_is number job.made h.made in
    found_holds f (λ q k. PassesSound f q k) job.made (found f) made.first fits fit made.judged

-- ---- where the answer is 0

pub large_done : (number : ℕ) (before after : Option (List ℕ)) → (large_answer number).status ≡ Done →
    NumberIsServed number → GrowsBy (large_answer number).text before after → Larges number before after
unfolding large_answer NumberIsServed
large_done number before after h served grows =
    let f = number_filter number in
    let first = search_done f (λ c p. run_for number c p) (found f) refl h in
    record {
      candidate = first.candidate;
      passing = first.passing;
      first = first.first;
      least = (served first.candidate first.passing first.first).least;
      serves = (served first.candidate first.passing first.first).made;
      printed = subst (λ (t : List ℕ). GrowsBy t before after) (ap (λ (a : Answer). a.text) first.same) grows;
    }
