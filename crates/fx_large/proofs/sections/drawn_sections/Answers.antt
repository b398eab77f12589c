use Rattle.std.proofs.Common.{rules, ◌≡◌, ◌∙◌, ◌++◌, ◌*◌, ◌+◌, suc, refl, ap, arith}
use Rattle.fx_large.specs.Draws.{state_after}
use Rattle.fx_large.specs.Sections.{section_from}
use Rattle.fx_large.proofs.DrawnSections.{more_sections, no_sections}
use Rattle.fx_large.proofs.Steps.{five_more}
use Rattle.fx_large.proofs.sections.drawn_sections.Goals as goal

pub loop-init : goal.loop-init
unfolding state_after
loop-init c = record {
  state = refl;
  drawn = c.new-sections.ensures.items;
  fit = rw (c.new-sections.ensures.items) no_sections;
}

pub loop-preserved : goal.loop-preserved
loop-preserved c =
    let i = c.loop.counter in
    let s = c.args.draws.now.state in
    let at = state_after (5 * i) s in
    let value : c.section.result ≡ section_from at =
    c.section.ensures.value ∙ ap section_from c.loop.invariant.state in
    let items : c.extend_from_slice.new.self.items ≡ c.loop.sections.items ++ section_from at =
    search (rules, c.in_ok-extend_from_slice.ensures.items, value) in
    let e : i + 1 ≡ suc i = omega arith in
    record {
      state = c.section.ensures.state ∙ (rw (c.loop.invariant.state) (five_more i s));
      drawn = rw e (items ∙ ap (λ xs. xs ++ section_from at) c.loop.invariant.drawn);
      fit = rw items (more_sections i c.loop.sections.items at c.loop.invariant.fit);
    }
