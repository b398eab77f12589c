use Rattle.std.proofs.Common.{◌≡◌, ◌+◌, ◌-◌, ◌*◌, ◌^◌, arith, ap, ◌∙◌, sym, subst}
use Rattle.std.proofs.lemmas.Grind.{common_steps}
use Rattle.fx_net.specs.Tables.{net_of}
use Rattle.fx_sweep.specs.Steps.{WidthsFit, greatest_width, made_by}
use Rattle.fx_sweep.specs.Swept.{interval_in}
use Rattle.fx_sweep.proofs.OnceMore.{moved_by}
use Rattle.fx_sweep.proofs.numbers.Numbers.moments.Goals as goal

pub returns-in_err-moment-clause-widths_fit : goal.returns-in_err-moment-clause-widths_fit
returns-in_err-moment-clause-widths_fit g c b h =
    let one : made_by c.from_residual.result ≡ 1 = grind (arith, common_steps) in
    subst (λ k. WidthsFit (b + k * greatest_width) c.moment.new.self.widths.items) (sym one)
    (c.moment.ensures.widths_fit b h)

pub repeat-requires-clause-widths_fit : goal.repeat-requires-clause-widths_fit
repeat-requires-clause-widths_fit g c = c.moment.ensures.widths_fit (2 ^ 100 - greatest_width) c.requires.widths_fit

pub returns-clause-moved : goal.returns-clause-moved
returns-clause-moved g c =
    let o = c.in_ok-moment.ensures in
    moved_by (net_of c.args.net.now) g.row.N c.args.self.now c.moment.new.self c.repeat.new.self c.repeat.result
    (ap (λ v. interval_in v.items) o.before ∙ ap interval_in (c.copy_from_slice.ensures.items ∙ c.deref.ensures.value))
    o.weights o.carried o.narrow o.inputs o.widths o.row_gains o.input_gains c.repeat.ensures.stands
    c.repeat.ensures.repeated

pub returns-clause-widths_fit : goal.returns-clause-widths_fit
returns-clause-widths_fit g c b h =
    let all : b + greatest_width + c.repeat.result * greatest_width ≡ b + (1 + c.repeat.result) * greatest_width =
    omega arith in
    subst (λ most. WidthsFit most c.repeat.new.self.widths.items) all
    (c.repeat.ensures.widths_fit (b + greatest_width) (c.moment.ensures.widths_fit b h))
