use Rattle.std.proofs.Common.{◌≡◌, ◌<◌, arith, length, replicate, sym}
use Rattle.std.proofs.lemmas.Grind.{common_steps}
use Rattle.fx_net.specs.Tables.{net_of}
use Rattle.fx_block.specs.declared.least.Least.TheVariants.{Rest as ToldRest}
use Rattle.fx_gain.specs.Lengths.{original_count, raises_alone, unrest}
use Rattle.fx_gain.specs.Rows.{row_targets}
use Rattle.fx_gain.proofs.Firsts.{first_is, none_more}
use Rattle.fx_gain.proofs.Tried.{no_failure, one_failure, told_alone}
use Rattle.fx_gain.proofs.lengths.bounds_failure.Goals as goal

pub returns-then-ne : goal.returns-then-ne
returns-then-ne g c =
    let net = net_of c.args.net.now in
    let f = c.args.f.now in
    let m = c.args.moments in
    let j = c.loop-j.j in
    let n = original_count f in
    let inside : j < length f.inputs = rw c.inputs-j-end.ensures.value at c.loop-j-test.true in
    let not_rest : c.raise-least.result ≡ ToldRest → ⊥ = λ e. grind (arith, common_steps) in
    let told = told_alone net f c.args.totals.now m j c.raise-least.result _ c.requires.filled
    (c.raise-least.ensures net (row_targets n) (replicate n m) c.requires.filled) in
    sym (first_is j (length f.inputs) (λ j. unrest m j (raises_alone net f m j)) _ inside c.loop-j.invariant
    (one_failure m j (raises_alone net f m j) c.raise-least.result _ told not_rest))

pub loop-j-preserved : goal.loop-j-preserved
loop-j-preserved g c =
    let net = net_of c.args.net.now in
    let f = c.args.f.now in
    let m = c.args.moments in
    let j = c.loop-j.j in
    let n = original_count f in
    let rest : c.raise-least.result ≡ ToldRest = grind (arith, common_steps) in
    let told = told_alone net f c.args.totals.now m j c.raise-least.result _ c.requires.filled
    (c.raise-least.ensures net (row_targets n) (replicate n m) c.requires.filled) in
    none_more j (λ j. unrest m j (raises_alone net f m j)) c.loop-j.invariant
    (no_failure m j (raises_alone net f m j) c.raise-least.result _ told rest)
