use Rattle.std.proofs.Common.{◌≡◌, FitsSigned, rules, arith, ap, sym, subst, slice_set, w64}
use Rattle.std.proofs.lemmas.Int.{to_z-of_z}
use Rattle.std.specs.Prelude.{unsigned_abs}
use Rattle.fx_eqs.specs.declared.limits.TheConstants.{PORTS}
use Rattle.fx_totals.specs.Kept.{bound_in}
use Rattle.fx_block.specs.Formats.{bound_of}
use Rattle.fx_gain.specs.Lengths.{bound_alone}
use Rattle.fx_gain.proofs.Bounding.{one_alone}
use Rattle.fx_gain.proofs.bounds.bounds_alone.Goals as goal

pub returns-clause-value : goal.returns-clause-value
returns-clause-value c =
    let fits : FitsSigned w64 c.bound_of.result = search rules in
    let size : unsigned_abs c.bound_of.result ≡ bound_of c.args.f.now c.args.j =
    ap unsigned_abs c.bound_of.ensures.value in
    rw (to_z-of_z w64 c.bound_of.result fits)
    (subst (λ bs. bound_in (slice_set bs c.args.j c.bound_of.result) ≡ bound_alone c.args.f.now c.args.j)
    (sym c.no_bounds-bounds.ensures)
    (one_alone c.args.f.now PORTS c.args.j c.bound_of.result (omega
    (arith, c.requires, c.filters_fit.ensures.inputs_high))
    size))
