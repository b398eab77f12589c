use Rattle.std.proofs.Common.{rules}
use Rattle.fx_gain.specs.Lengths.{original_net}
use Rattle.fx_gain.specs.Peaks.{ArePeaks}
use Rattle.fx_gain.proofs.Ending.{peaks_enclose}
use Rattle.fx_gain.proofs.finding.peak.Goals as goal

pub returns-in-Ok-Ok-clause-encloses : goal.returns-in-Ok-Ok-clause-encloses
returns-in-Ok-Ok-clause-encloses c =
    let are : ArePeaks (original_net c.args.f.now) c.args.f.now c.in-Ok-Ok.peaks = search rules in
    peaks_enclose c.args.f.now c.in-Ok-Ok.peaks c.filters_fit.ensures c.enclosures_hold.ensures are
