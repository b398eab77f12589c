use Rattle.std.proofs.Common.{arith}
use Rattle.std.proofs.lemmas.Int.{ints, clamps}
use borrow.Author.Differences.{abs_is}
use Rattle.fx_nums.proofs.interval.Iv.hull.Goals as goal

pub invariant_of-result : goal.invariant_of-result
invariant_of-result c =
    let first = c.self.invariant in
    let second = c.o.invariant in
    record {
      ordered = omega (arith, ints, clamps, first.ordered, second.ordered);
      fits = record {
        lo_fits = omega (arith, ints, clamps, abs_is, first.fits.lo_fits, second.fits.lo_fits);
        hi_fits = omega (arith, ints, clamps, abs_is, first.fits.hi_fits, second.fits.hi_fits);
      };
    }
