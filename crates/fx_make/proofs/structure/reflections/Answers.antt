use Rattle.std.proofs.Common.{rules, ◌≡◌, ◌+◌, ap, ◌∙◌, length}
use Rattle.fx_lattice.specs.Lattice.{low_over, reflection}
use Rattle.fx_lattice.specs.declared.limits.TheConstants.{REFLECTION_BITS}
use Rattle.fx_block.proofs.Places.{listed_length}
use Rattle.fx_make.proofs.structure.reflections.Goals as goal

pub returns-clause-count : goal.returns-clause-count
returns-clause-count c =
    let end : c.loop-i.i ≡ length c.args.ladder.now.k = search rules in
    ap length c.loop-i.invariant
    ∙ listed_length c.loop-i.i (λ i. low_over REFLECTION_BITS (reflection c.args.ladder.now (i + 1))) ∙ end
