use Rattle.std.proofs.Common.{rules, ◌≡◌, ◌+◌, ap, ◌∙◌, length}
use Rattle.fx_lattice.specs.Lattice.{low_over, tap}
use Rattle.fx_lattice.specs.declared.limits.TheConstants.{TAP_BITS}
use Rattle.fx_block.proofs.Places.{listed_length}
use Rattle.fx_make.proofs.structure.taps.Goals as goal

pub returns-clause-count : goal.returns-clause-count
returns-clause-count c =
    let end : c.loop-i.i ≡ length c.args.ladder.now.k + 1 = search rules in
    ap length c.loop-i.invariant
    ∙ listed_length c.loop-i.i (λ i. low_over TAP_BITS (tap c.args.ladder.now i)) ∙ end
