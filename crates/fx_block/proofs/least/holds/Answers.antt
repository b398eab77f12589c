use Rattle.std.proofs.Common.{◌≡◌, true, FitsSigned, subst, rules, pos, ◌*ℤ◌, ◌≤ℤ◌}
use Rattle.std.specs.Int.{w128}
use Rattle.std.specs.Prelude.{◌↔◌}
use Rattle.std.proofs.lemmas.Int.{to_z-of_z}
use Rattle.fx_sweep.specs.Target.{one}
use Rattle.fx_totals.specs.Kept.{bound_in}
use Rattle.fx_block.proofs.Raised.{serves_so}
use Rattle.fx_block.proofs.least.holds.Goals as goal

pub returns : goal.returns
returns g c net targets lengths filled =
    let fits : FitsSigned w128 c.total.result = search rules in
    serves_so c.args.t.now net targets lengths c.args.j (bound_in c.args.bounds.now) (bound_in c.args.x.now)
    c.total.result c.is_within.result filled c.requires.filled
    (c.total.ensures.total net targets lengths filled)
    (subst (λ y. (c.is_within.result ≡ true) ↔ (y ≤ℤ (pos (bound_in c.args.x.now c.args.j) *ℤ one)))
    (to_z-of_z w128 c.total.result fits) c.is_within.ensures)
