use Rattle.std.proofs.Common.{◌≡◌, ℕ, ◌+◌, ◌*◌, length, arith, ap, ◌∙◌, subst, rules}
use Rattle.std.proofs.lemmas.List.{get_or_read}
use Rattle.std.proofs.Math.IntN.{pos}
use Rattle.fx_cross.specs.Table.{entry_at}
use Rattle.fx_nums.specs.Interval.{Interval, point}
use Rattle.fx_sweep.specs.Steps.{with_multiples, product_bound, product_apart}
use Rattle.fx_sweep.specs.Swept.{interval_in}
use Rattle.fx_sweep.specs.Weights.{taken}
use Rattle.fx_sweep.proofs.Added.{wider}
use Rattle.fx_sweep.proofs.Along.{taken_more}
use Rattle.fx_sweep.proofs.handing.hand_out.Goals as goal

pub loop-i-preserved : goal.loop-i-preserved
loop-i-preserved c =
    let read : c.index-weights-i.result ≡ interval_in c.args.weights.now c.loop-i.i =
    get_or_read c.args.weights.now c.loop-i.i c.index-weights-i.result c.loop-i-test.true
    c.index-weights-i.is (point (pos 0)) in
    record {
      long = search rules;
      value = taken_more c.loop-i.i (interval_in c.args.weights.now) (entry_at c.args.table.now)
          (interval_in c.loop-i.at) (interval_in c.add_row.new.at) c.loop-i.invariant.value
          (c.add_row.ensures.value ∙ ap (λ (x : Interval).
          with_multiples x.lo (entry_at c.args.table.now c.loop-i.i) (interval_in c.loop-i.at)) read);
      narrow = λ j. wider (interval_in c.add_row.new.at j) (c.loop-i.i * product_bound + product_bound)
          (c.loop-i.i * product_apart + product_apart) ((c.loop-i.i + 1) * product_bound)
          ((c.loop-i.i + 1) * product_apart) (omega arith) (omega arith)
          (c.add_row.ensures.narrow (c.loop-i.i * product_bound) (c.loop-i.i * product_apart)
          c.loop-i.invariant.narrow j);
    }

pub returns-clause-value : goal.returns-clause-value
returns-clause-value c =
    let all : c.loop-i.i ≡ length c.args.weights.now = omega (arith, c.loop-i-test.false, c.loop-i.auto.i-end) in
    subst (λ (n : ℕ). interval_in c.loop-i.at
    ≡ (λ j. taken n (interval_in c.args.weights.now) (λ i. entry_at c.args.table.now i j))) all
    c.loop-i.invariant.value
