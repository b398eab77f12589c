use Rattle.std.proofs.Common.{◌∙◌, sym}
use Rattle.fx_keys.specs.Table.{only_keys}
use Rattle.fx_keys.proofs.table.only_keys.Goals as goal

pub returns-then-not-is_known : goal.returns-then-not-is_known
unfolding only_keys
returns-then-not-is_known c =
    let other = sym (rw c.as_str.ensures.value at c.if-not-is_known.ensures) in
    let text = c.new.ensures ∙ c.in_ok-bytes.ensures.items ∙ c.as_bytes.ensures.value in
    sym (rw (c.in-Some.ensures.steps, other) at c.loop-text.invariant) ∙ rw text

pub loop-text-preserved : goal.loop-text-preserved
unfolding only_keys
loop-text-preserved c =
    let here = sym (rw c.as_str.ensures.value at c.if-not-is_known.ensures) in
    rw (c.in-Some.ensures.steps, here) at c.loop-text.invariant
