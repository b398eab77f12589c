use Rattle.std.proofs.Common.{◌+◌, ◌-◌, ◌<◌, arith, take, drop}
use Rattle.fx_eqs.specs.Textbook.{matrix_rows, over_sources}
use Rattle.fx_eqs.specs.declared.term.Source.TheVariants.{Row, In}
use Rattle.fx_textbook.proofs.TermSteps.{next_row, regrouped}
use Rattle.fx_textbook.proofs.terms.+matrix_rows.Goals as goal

pub returns : goal.returns
returns t c =
    let x = c.args.x.now in
    let u = c.args.u.now in
    let n = c.args.n in
    let m = c.args.m in
    let some : 0 < c.args.count = omega arith in
    let states = rw c.split_at.ensures.front at c.in_ok-over_states.ensures in
    let inputs = rw (c.split_at-2.ensures.front, states) at c.in_ok-over_inputs.ensures in
    let rest = rw (c.split_at.ensures.back, c.split_at-2.ensures.back) at c.matrix_rows.ensures in
    rw (
      next_row c.args.count c.args.row n m x u some,
      regrouped c.args.terms.now.items (over_sources c.args.row (λ j. Row j) 1 0 (take n x))
          (over_sources c.args.row (λ j. In j) 0 0 (take m u))
          (matrix_rows (c.args.count - 1) (c.args.row + 1) n m (drop n x) (drop m u)),
      ← inputs,
    ) rest
