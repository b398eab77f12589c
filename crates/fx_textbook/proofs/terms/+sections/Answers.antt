use Rattle.std.proofs.Common.{◌+◌, ◌-◌, ◌<◌, arith, take, drop, append_assoc}
use Rattle.fx_eqs.specs.Textbook.{recursion, sections}
use Rattle.fx_eqs.specs.declared.term.Source.TheVariants.{Row}
use Rattle.fx_textbook.proofs.TermSteps.{next_section}
use Rattle.fx_textbook.proofs.terms.+sections.Goals as goal

pub returns : goal.returns
returns t c =
    let cs = c.args.coefficients.now in
    let some : 0 < c.args.count = omega arith in
    let here = rw (
      c.split_at.ensures.front,
      c.split_at-2.ensures.front,
      c.split_at.ensures.back,
    ) at c.in_ok-recursion.ensures in
    let rest = rw (c.split_at-2.ensures.back, c.split_at.ensures.back) at c.sections.ensures in
    rw (
      next_section c.args.count c.args.row c.args.from cs some,
      ← append_assoc c.args.terms.now.items (recursion c.args.row c.args.from (take 3 cs) (take 3 (drop 3 cs)))
          (sections (c.args.count - 1) (c.args.row + 1) (Row c.args.row) (drop 3 (drop 3 cs))),
      ← here,
    ) rest
