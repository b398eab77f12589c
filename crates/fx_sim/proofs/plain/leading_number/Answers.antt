use Rattle.std.proofs.Common.{◌≡◌, ◌∷◌, ◌+◌, ◌-ℤ◌, ℤ, pos, neg_ℤ, subst, sym, take, to_z, of_z, w64, rules}
use Rattle.fx_sim.specs.Fields.{IsField}
use Rattle.fx_nums.specs.Signs.{minus_sign}
use Rattle.fx_sim.proofs.PlainFields.{bare_leads, minus_leads}
use Rattle.fx_sim.proofs.plain.leading_number.Goals as goal

pub returns-then-negative-clause-plain : goal.returns-then-negative-clause-plain
returns-then-negative-clause-plain c =
    let digits = c.split_minus-negative.result.1.now in
    let text : c.args.text.now ≡ minus_sign ∷ digits = rw c.if-negative.true at c.split_minus-negative.ensures in
    let read = c.in_ok-value.ensures in
    (minus_leads c.args.text.now digits c.in_ok-value.value c.in_ok-value.count text read.digits read.value read.some
    read.few read.within).plain

pub returns-then-negative-clause-value : goal.returns-then-negative-clause-value
returns-then-negative-clause-value c =
    let digits = c.split_minus-negative.result.1.now in
    let text : c.args.text.now ≡ minus_sign ∷ digits = rw c.if-negative.true at c.split_minus-negative.ensures in
    let read = c.in_ok-value.ensures in
    let small = read.small in
    let same : to_z w64 (of_z w64 (pos 0 -ℤ to_z w64 c.in_ok-value.value)) ≡ neg_ℤ (pos c.in_ok-value.value) =
    search (rules, small) in
    let there = (minus_leads c.args.text.now digits c.in_ok-value.value c.in_ok-value.count text read.digits read.value
    read.some read.few read.within).value in
    subst (IsField (take (c.in_ok-value.count + 1) c.args.text.now)) (sym same) there

pub returns-clause-plain : goal.returns-clause-plain
returns-clause-plain c =
    let digits = c.split_minus-negative.result.1.now in
    let text : c.args.text.now ≡ digits = rw c.if-negative.false at c.split_minus-negative.ensures in
    let read = c.in_ok-value.ensures in
    (bare_leads c.args.text.now digits c.in_ok-value.value c.in_ok-value.count text read.digits read.value read.some
    read.few read.within).plain
