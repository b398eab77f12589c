use Rattle.std.proofs.Common.{◌<◌, refl, arith}
use Rattle.fx_totals.specs.Kept.{bound_in}
use Rattle.fx_block.specs.Candidate.{candidate_count, candidate_net, cap_of}
use Rattle.fx_block.specs.Formats.{bound_of}
use Rattle.fx_make.proofs.AtRest.{least_settled}
use Rattle.fx_make.proofs.Trials.{has_passed}
use Rattle.fx_make.proofs.searching.assemble.Goals as goal

pub made_program-requires-clause-caps : goal.made_program-requires-clause-caps
made_program-requires-clause-caps c i l =
    let f = c.args.f.now in
    let rows = c.args.d.now.rows in
    let x = bound_in c.args.x.now in
    (least_settled (candidate_net f rows) (candidate_count f rows) (λ j. c.args.moments) (bound_of f) (cap_of f rows) x
    (has_passed f rows c.args.moments x c.requires.passing.passed).rest).within i (omega (arith, l))

pub returns : goal.returns
returns c =
    let some : 0 < c.args.moments = (let low = c.requires.low in omega (arith, low)) in
    record {
      guard = refl;
      fraction = refl;
      length = refl;
      program = c.in_ok-program.ensures.made;
      certificate = c.in_ok-cert.ensures;
      least = c.passing_candidates_pass.ensures.least c.args.f.now c.args.d.now.rows c.args.moments
          (bound_in c.args.x.now) some c.requires.passing.passed;
      whole = c.in_ok-program.ensures.whole;
      passes = c.passing_candidates_pass.ensures.pass c.args.f.now c.args.d.now.rows c.args.moments
          (bound_in c.args.x.now) c.in_ok-program.program c.in_ok-cert.cert some c.requires.passing.passed
          c.programs_fit.ensures c.in_ok-program.ensures.made c.in_ok-cert.ensures;
    }
