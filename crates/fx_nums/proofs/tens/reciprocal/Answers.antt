use Rattle.std.proofs.Common.{◌*◌, ◌^◌, arith, refl, get_or}
use Rattle.std.proofs.Math.Nat.{one-mul}
use Rattle.fx_nums.specs.declared.tens.TheConstants.{RECIPROCALS}
use Rattle.fx_nums.proofs.Reciprocals.{reciprocal_at, reciprocal_from, IsReciprocal, bound_from}
use Rattle.fx_nums.proofs.tens.reciprocal.Goals as goal

pub returns : goal.returns
returns c =
    let known : IsReciprocal (1 * 10 ^ c.args.d) (get_or RECIPROCALS c.args.d 0) =
    reciprocal_from (1 * 10 ^ c.args.d) (get_or RECIPROCALS c.args.d 0)
    (reciprocal_at 1 RECIPROCALS c.args.d refl (omega arith)) in
    let found : IsReciprocal (10 ^ c.args.d) (get_or RECIPROCALS c.args.d 0) = rw one-mul at known in
    record { bound = bound_from c.args.d _ found; low = found.low; high = found.high }
