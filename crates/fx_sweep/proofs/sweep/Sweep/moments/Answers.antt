use Rattle.std.proofs.Common.{◌≡◌, ℕ, ◌+◌, None, Option, arith, ap, ◌∙◌, sym, subst}
use Rattle.fx_net.specs.Net.{Net}
use Rattle.fx_net.specs.Tables.{net_of}
use Rattle.fx_sweep.specs.Range.{range_at}
use Rattle.fx_sweep.specs.Steps.{SweepFits, state_of}
use Rattle.fx_sweep.specs.Swept.{State, Swept}
use Rattle.fx_sweep.specs.Target.{start_of}
use Rattle.fx_sweep.specs.declared.numbers.Numbers.{Numbers}
use Rattle.fx_sweep.specs.declared.target.RangeAt.{RangeAt}
use Rattle.fx_sweep.specs.declared.target.Target.{Target}
use Rattle.fx_sweep.proofs.Sweeping.{failed_fits, moment_range, moved_fits}
use Rattle.fx_sweep.proofs.SweptOn.{moments_more}
use Rattle.fx_sweep.proofs.sweep.Sweep.moments.Goals as goal

-- what is swept, by the fields of the sweep
of_fields : (count made : ℕ) (range : Option RangeAt) (s : Numbers) (now : State) (net : Net) (target : Target)
    (m : ℕ) → state_of count made range s ≡ now → range ≡ None →
    Swept now net target m → Swept (state_of count made None s) net target m
of_fields count made range s now net target m view none swept =
    subst (λ (r : Option RangeAt). Swept (state_of count made r s) net target m) none
    (subst (λ (x : State). Swept x net target m) (sym view) swept)

counted : (count made : ℕ) (range : Option RangeAt) (s : Numbers) (now : State) →
    state_of count made range s ≡ now → count ≡ now.count
counted count made range s now view = ap (λ (x : State). x.count) view

pub invariant_of-self-in-Ok : goal.invariant_of-self-in-Ok
invariant_of-self-in-Ok g c =
    let same = counted c.self.inside.count c.self.inside.made c.self.inside.range c.self.inside.numbers c.args.self.now
    c.self.view_is in
    subst (λ (r : Option RangeAt). SweepFits g.row.N (c.self.inside.count + c.in-Ok.moments) r c.moments.new.self)
    (sym c.in_default.is)
    (moved_fits g.row.N c.self.inside.count c.in-Ok.moments c.self.inside.numbers c.moments.new.self
    (omega (arith, same, c.requires.short, c.in-Ok.ensures.few))
    (subst (λ (r : Option RangeAt). SweepFits g.row.N c.self.inside.count r c.self.inside.numbers)
    c.in_default.is c.self.invariant)
    c.moments.ensures.long c.in-Ok.ensures.moved.carried_narrow c.in-Ok.ensures.widths_fit
    c.moments.ensures.row_gains_fit c.moments.ensures.input_gains_fit)

pub invariant_of-self-in-Err : goal.invariant_of-self-in-Err
invariant_of-self-in-Err g c =
    let same = counted c.self.inside.count c.self.inside.made c.self.inside.range c.self.inside.numbers c.args.self.now
    c.self.view_is in
    failed_fits g.row.N c.self.inside.count c.in-Err.at c.self.inside.numbers c.moments.new.self
    c.drop_carried.new.self
    (omega (arith, same, c.requires.short, c.requires.some))
    (subst (λ (r : Option RangeAt). SweepFits g.row.N c.self.inside.count r c.self.inside.numbers)
    c.in_default.is c.self.invariant)
    (c.drop_carried.ensures.long g.row.N c.moments.ensures.long) c.drop_carried.ensures.zero
    c.drop_carried.ensures.widths c.drop_carried.ensures.row_gains c.drop_carried.ensures.input_gains
    c.in-Err.ensures.widths_fit c.moments.ensures.row_gains_fit c.moments.ensures.input_gains_fit

pub returns-in-Ok-clause-range : goal.returns-in-Ok-clause-range
returns-in-Ok-clause-range g c target m swept =
    c.in-Ok.ensures.range
    ∙ moment_range (net_of c.args.net.now) g.row.N target m c.self.inside.count c.self.inside.made
    c.self.inside.numbers c.nets_fit.ensures.rows
    (of_fields c.self.inside.count c.self.inside.made c.self.inside.range c.self.inside.numbers c.args.self.now
    (net_of c.args.net.now) target m c.self.view_is c.in_default.is swept)

pub returns-in-Err-clause-range : goal.returns-in-Err-clause-range
returns-in-Err-clause-range g c target m swept =
    c.in-Err.ensures.range
    ∙ moment_range (net_of c.args.net.now) g.row.N target m c.self.inside.count c.self.inside.made
    c.self.inside.numbers c.nets_fit.ensures.rows
    (of_fields c.self.inside.count c.self.inside.made c.self.inside.range c.self.inside.numbers c.args.self.now
    (net_of c.args.net.now) target m c.self.view_is c.in_default.is swept)

pub returns-in-Ok-clause-swept : goal.returns-in-Ok-clause-swept
returns-in-Ok-clause-swept g c target m swept =
    let net = net_of c.args.net.now in
    let here = of_fields c.self.inside.count c.self.inside.made c.self.inside.range c.self.inside.numbers
    c.args.self.now net target m c.self.view_is c.in_default.is swept in
    let none : range_at net (start_of target) m ≡ None =
    sym (c.in-Ok.ensures.range
    ∙ moment_range net g.row.N target m c.self.inside.count c.self.inside.made c.self.inside.numbers
    c.nets_fit.ensures.rows here) in
    subst (λ (r : Option RangeAt).
    Swept (state_of (c.self.inside.count + c.in-Ok.moments) c.saturating_add-self-inside.result r c.moments.new.self)
    net target (m + c.in-Ok.moments)) (sym c.in_default.is)
    (moments_more net g.row.N target m c.self.inside.count c.self.inside.made
    c.saturating_add-self-inside.result c.self.inside.numbers c.moments.new.self c.nets_fit.ensures.rows here
    none c.in-Ok.moments c.in-Ok.ensures.some c.in-Ok.ensures.moved c.moments.ensures.row_gains_fit
    c.moments.ensures.input_gains_fit)
