use Rattle.std.proofs.Common.{ℕ, pos, slice_index_or, subst, FitsSigned, w64, to_z-of_z}
use Rattle.std.proofs.lemmas.List.Elements.{All-push, All-get_or}
use Rattle.fx_math.specs.Words.{WidthFits}
use Rattle.fx_msb.specs.Widths.{IsBound, IsLeastWidth}
use Rattle.fx_quant.proofs.LeastWidths.{least_more, fits_word}
use Rattle.fx_quant.proofs.widths.least_widths.Goals as goal

pub loop-bound-preserved : goal.loop-bound-preserved
loop-bound-preserved c =
    let i : ℕ = c.loop-bound.bound-index in
    let bound : IsBound (slice_index_or c.args.bounds.now i (pos 0)) =
    All-get_or IsBound c.args.bounds.now i (pos 0) c.loop-bound-test.true c.requires in
    let fits : FitsSigned w64 (slice_index_or c.args.bounds.now i (pos 0)) = fits_word _ bound in
    record {
      least = least_more c.args.bounds.now c.loop-bound.widths.items c.push.new.self.items i
          c.least_width.result c.loop-bound-test.true c.loop-bound.invariant.least
          (subst (λ x. IsLeastWidth x c.least_width.result) (to_z-of_z fits) c.least_width.ensures.least)
          c.in_ok-push.ensures.items;
      fits = rw c.in_ok-push.ensures.items
          (All-push WidthFits c.loop-bound.widths.items c.least_width.result c.loop-bound.invariant.fits
          c.least_width.ensures.fits);
    }
