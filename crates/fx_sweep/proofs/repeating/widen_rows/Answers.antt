use Rattle.std.proofs.Common.{◌≡◌, ◌≢◌, ◌*◌, ◌<◌, arith, ap, ◌∙◌, inl, inr, length}
use Rattle.std.proofs.lemmas.Bool.{cases_eq}
use Rattle.std.proofs.lemmas.Int.{ints}
use Rattle.std.proofs.lemmas.List.{get_or_read}
use Rattle.std.proofs.Math.IntN.{pos, ◌+ℤ◌, ◌*ℤ◌}
use Rattle.fx_nums.specs.Arithmetic.{width}
use Rattle.fx_nums.specs.Interval.{Interval, point}
use Rattle.fx_sweep.specs.Steps.{greatest_width}
use Rattle.fx_sweep.specs.Swept.{interval_in, whole_in}
use Rattle.fx_sweep.proofs.Settling.{grown_fit}
use Rattle.fx_sweep.proofs.repeating.widen_rows.Goals as goal

pub loop-i-preserved : goal.loop-i-preserved
loop-i-preserved c =
    let i = c.loop-i.i in
    let inside : i < length c.args.weights.now =
    omega (arith, c.loop-i-test.true, c.requires.count, c.loop-i.auto.i-end) in
    let read : c.index-weights-i.result ≡ interval_in c.args.weights.now i =
    get_or_read c.args.weights.now i c.index-weights-i.result inside c.index-weights-i.is (point (pos 0)) in
    let was : whole_in c.loop-i.widths i ≡ whole_in c.args.widths.now i = c.loop-i.invariant.left i (omega arith) in
    record {
      long = c.widen_by.ensures.count ∙ c.loop-i.invariant.long;
      done = λ k h. elim (cases_eq k i) [
        | inl e ↦ rw e (c.widen_by.ensures.here
            ∙ ap (λ n. n +ℤ pos c.args.times *ℤ width c.index-weights-i.result) was
            ∙ ap (λ (x : Interval). whole_in c.args.widths.now i +ℤ pos c.args.times *ℤ width x) read)
        | inr ne ↦ (c.widen_by.ensures.others k ne ∙ c.loop-i.invariant.done k (omega (arith, ne, h)))
      ];
      left = λ k h. (let ne : k ≢ i = omega (arith, h) in
          c.widen_by.ensures.others k ne ∙ c.loop-i.invariant.left k (omega (arith, h)));
      fit = λ b h. grown_fit i b (c.args.times * greatest_width) (whole_in c.args.widths.now)
          (whole_in c.loop-i.widths) (whole_in c.widen_by.new.widths) h (c.loop-i.invariant.fit b h) was
          c.widen_by.ensures.others (
            omega (arith, ints, c.widen_by.ensures.here, c.widen_by.ensures.rises),
            omega (arith, ints, c.widen_by.ensures.here, c.widen_by.ensures.high),
          );
    }
