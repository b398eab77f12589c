use Rattle.std.proofs.Common.{◌≡◌, ◌+◌, ◌≤◌, arith, rules, ap, ◌∙◌, sym, subst, unsigned_abs}
use Rattle.std.proofs.lemmas.Int.{ints, to_z-of_z}
use Rattle.std.specs.Int.{w128}
use Rattle.std.specs.Prelude.{FitsSigned}
use Rattle.std.specs.Int.Signed.{◌≤ℤ◌}
use Rattle.std.proofs.lemmas.List.{get_or_read}
use Rattle.std.proofs.Math.IntN.{pos, ◌+ℤ◌}
use Rattle.fx_cross.specs.Table.{entry_at}
use Rattle.fx_nums.specs.Arithmetic.{width}
use Rattle.fx_nums.specs.Interval.{Interval, magnitude, point}
use Rattle.fx_sweep.specs.Steps.{greatest, greatest_width, product_apart, product_bound, with_multiples}
use Rattle.fx_sweep.specs.Swept.{gain_in, interval_in, whole_in}
use Rattle.fx_sweep.proofs.Added.{wider}
use Rattle.fx_sweep.proofs.Weightless.{nothing_of_row, row_meets_none}
use Rattle.fx_sweep.proofs.numbers.settle_row.Goals as goal

pub returns-then-is_zero-clause-range : goal.returns-then-is_zero-clause-range
returns-then-is_zero-clause-range c =
    let read : c.index-weights-i.result ≡ interval_in c.args.weights.now c.args.i =
    get_or_read c.args.weights.now c.args.i c.index-weights-i.result c.requires.weights c.index-weights-i.is
    (point (pos 0)) in
    row_meets_none c.args.i (interval_in c.args.weights.now) (gain_in c.args.gains.now)
    (sym read ∙ c.is_zero.ensures.0 c.if-is_zero.true) (c.requires.gains_fit c.args.i)

pub returns-then-is_zero-clause-added : goal.returns-then-is_zero-clause-added
returns-then-is_zero-clause-added c =
    let read : c.index-weights-i.result ≡ interval_in c.args.weights.now c.args.i =
    get_or_read c.args.weights.now c.args.i c.index-weights-i.result c.requires.weights c.index-weights-i.is
    (point (pos 0)) in
    nothing_of_row c.args.i (entry_at c.args.table.now c.args.i) (interval_in c.args.weights.now)
    (whole_in c.args.widths.now) (gain_in c.args.gains.now) (sym read ∙ c.is_zero.ensures.0 c.if-is_zero.true)

pub returns-then-is_zero-clause-narrow : goal.returns-then-is_zero-clause-narrow
returns-then-is_zero-clause-narrow c b w h j =
    wider _ b w (b + product_bound) (w + product_apart) (omega arith) (omega arith) (h j)

pub returns-clause-added : goal.returns-clause-added
returns-clause-added c =
    let read : c.index-weights-i.result ≡ interval_in c.args.weights.now c.args.i =
    get_or_read c.args.weights.now c.args.i c.index-weights-i.result c.requires.weights c.index-weights-i.is
    (point (pos 0)) in
    let at = interval_in c.args.weights.now in
    let fits : FitsSigned w128 c.lo.result = search rules in
    let size : c.unsigned_abs.result ≡ unsigned_abs c.lo.result = simp to_z-of_z at c.unsigned_abs.ensures.value in
    record {
      handed = c.add_row.ensures.value ∙ ap (λ (x : Interval).
          with_multiples x.lo (entry_at c.args.table.now c.args.i) at) read;
      small = subst (λ (x : Interval). magnitude x ≤ greatest) read
          (omega (arith, c.in_ok-within.ensures.small, c.magnitude_of.ensures.value));
      width_here = c.widen.ensures.here ∙ ap (λ (x : Interval). whole_in c.args.widths.now c.args.i +ℤ width x) read;
      widths_else = c.widen.ensures.others;
      gain_here = c.in_ok-raise.ensures.here ∙ ap (λ n.
          gain_in c.args.gains.now c.args.i + n) (size
          ∙ ap unsigned_abs (c.lo.ensures.value ∙ ap (λ (x : Interval). x.lo) read));
      gains_else = c.raise.ensures.others;
    }

pub returns-clause-width_grows : goal.returns-clause-width_grows
returns-clause-width_grows c =
    let read : c.index-weights-i.result ≡ interval_in c.args.weights.now c.args.i =
    get_or_read c.args.weights.now c.args.i c.index-weights-i.result c.requires.weights c.index-weights-i.is
    (point (pos 0)) in
    let near : c.index-weights-i.result.hi ≤ℤ (c.index-weights-i.result.lo +ℤ pos greatest_width) =
    rw read c.requires.near in
    let ordered = c.lo.ensures.kept.ordered in
    let here = c.widen.ensures.here in
    (omega (arith, ints, here, ordered), omega (arith, ints, here, near))
