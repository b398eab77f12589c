use Rattle.std.proofs.Common.{◌≡◌, ◌+◌, ◌∷◌, List, arith, ap, ◌∙◌, sym, subst, refl, rules}
use mathlib.Core.Path.{fun_ext}
use Rattle.fx_cross.specs.declared.cross.Link.{Link}
use Rattle.fx_cross.specs.Rests.{row_rest}
use Rattle.fx_cross.specs.Walks.{row_links}
use Rattle.fx_nums.specs.Arithmetic.{multiple}
use Rattle.fx_nums.specs.Interval.{plus}
use Rattle.fx_sweep.specs.Steps.{product_apart, product_bound}
use Rattle.fx_sweep.specs.Swept.{interval_in}
use Rattle.fx_sweep.proofs.Added.{wider}
use Rattle.fx_sweep.proofs.Along.{given, IsAhead, row_rises, row_given, left_more, ahead_more, link_here}
use Rattle.fx_sweep.proofs.Along.{narrow_more}
use Rattle.fx_sweep.proofs.handing.add_links.Goals as goal

pub loop-link-init : goal.loop-link-init
loop-link-init c =
    let same : row_rest c.into_iter-link-iterator.result ≡ row_links c.args.table.now c.args.i =
    ap row_rest c.into_iter-link-iterator.ensures.into_iter_gives ∙ c.row-link-items.ensures.rest in
    record {
      long = refl;
      left = λ j. ap (λ (ls : List Link). given c.args.row.lo ls j (interval_in c.args.at.now j)) same;
      ahead = subst (λ (ls : List Link).
          IsAhead c.args.table.now.columns ls (interval_in c.args.at.now) (interval_in c.args.at.now)) (sym same)
          (0, (row_rises c.args.table.now c.args.i, (λ j h. refl)));
      narrow = λ b w h j. wider _ b w (b + product_bound) (w + product_apart) (omega arith) (omega arith) (h j);
    }

pub loop-link-preserved : goal.loop-link-preserved
loop-link-preserved c =
    let rest : List Link = row_rest c.next.new.self in
    let steps : row_rest c.loop-link.link-iterator ≡ c.in-Some.link ∷ rest = c.in-Some.ensures.steps in
    let index : c.from.result ≡ c.in-Some.link.index = c.from.ensures in
    let ahead = subst (λ (ls : List Link).
    IsAhead c.args.table.now.columns ls (interval_in c.args.at.now) (interval_in c.loop-link.at)) steps
    c.loop-link.invariant.ahead in
    let here : interval_in c.add_multiple.new.at c.in-Some.link.index
    ≡ plus (interval_in c.loop-link.at c.in-Some.link.index) (multiple c.args.row.lo c.in-Some.link.coef) =
    rw index at c.add_multiple.ensures.here in
    let others = rw index at c.add_multiple.ensures.others in
    record {
      long = search rules;
      left = λ j. left_more c.args.row.lo c.in-Some.link rest (interval_in c.loop-link.at)
          (interval_in c.add_multiple.new.at) here others j
          ∙ ap (λ (ls : List Link). given c.args.row.lo ls j (interval_in c.loop-link.at j)) (sym steps)
          ∙ c.loop-link.invariant.left j;
      ahead = ahead_more c.args.table.now.columns c.in-Some.link rest (interval_in c.args.at.now)
          (interval_in c.loop-link.at) (interval_in c.add_multiple.new.at) ahead others;
      narrow = λ b w h. narrow_more c.in-Some.link (interval_in c.args.at.now) (interval_in c.loop-link.at)
          (interval_in c.add_multiple.new.at) b w (b + product_bound) (w + product_apart)
          (link_here c.args.table.now.columns c.in-Some.link rest (interval_in c.args.at.now)
          (interval_in c.loop-link.at) ahead) h (c.loop-link.invariant.narrow b w h)
          (rw index at (c.add_multiple.ensures.narrow b w)) others;
    }

pub returns-clause-value : goal.returns-clause-value
returns-clause-value c = fun_ext (λ j.
    ap (λ (ls : List Link). given c.args.row.lo ls j (interval_in c.loop-link.at j)) (sym c.in-None.ensures.steps.0)
    ∙ c.loop-link.invariant.left j
    ∙ row_given c.args.table.now c.entries_have_places.ensures c.args.row.lo c.args.i j (interval_in c.args.at.now j))
