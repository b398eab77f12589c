use Rattle.std.proofs.Common.{◌≡◌, subst}
use Rattle.fx_block.specs.Passes.{Passes}
use Rattle.fx_files.specs.Filter.{Filter}
use Rattle.fx_large.specs.Job.{job_filter, IsMadeOfFilter}
use Rattle.fx_large.proofs.JobFilter.{has_ports}
use Rattle.fx_large.proofs.job.run_sections.Goals as goal

pub run_on_samples-requires : goal.run_on_samples-requires
run_on_samples-requires c =
    let s = c.args.sections.now in
    let same : c.in_ok-filter.filter ≡ job_filter s = c.in_ok-filter.ensures.value in
    let m = c.in_ok-made.made in
    has_ports s m.program m.cert
    (subst (λ (f : Filter). Passes f m.program m.cert) same c.in_ok-made.ensures.judged.passes)

pub returns : goal.returns
returns c =
    let s = c.args.sections.now in
    let same : c.in_ok-filter.filter ≡ job_filter s = c.in_ok-filter.ensures.value in
    record {
      made = subst (λ (f : Filter). IsMadeOfFilter f c.in_ok-made.made) same c.in_ok-made.ensures;
      summary = c.in_ok-summary.ensures;
    }
