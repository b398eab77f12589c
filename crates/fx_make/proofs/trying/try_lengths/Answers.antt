use Rattle.std.proofs.Common.{rules, ◌≡◌, ℕ, ◌<◌, true, false, ap, sym, ◌∙◌, subst, arith, length}
use Rattle.std.specs.Prelude.{None, is_none}
use Rattle.fx_sweep.specs.Swept.{whole_in}
use Rattle.fx_totals.specs.Filled.{length_in}
use Rattle.fx_totals.specs.Kept.{bound_in}
use Rattle.fx_make.specs.Lengths.{HasPassing, length_fail}
use Rattle.fx_make.proofs.FirstLength.{first_found, is_passing, none_behind, none_more, told_more}
use Rattle.fx_make.proofs.trying.try_lengths.Goals as goal

pub returns-then-is_none-clause-first : goal.returns-then-is_none-clause-first
returns-then-is_none-clause-first g c =
    let f = c.args.f.now in
    let rows = c.args.d.now.rows in
    let lengths = length_in f.settings.lengths in
    let test : is_none c.try_length-fail.result ≡ true = search rules in
    let inside : c.loop-l.l < length f.settings.lengths = (let same = ap length c.lengths-l-end.ensures.value in
    let below = c.loop-l-test.true in omega (arith, same, below)) in
    sym (first_found c.loop-l.l (length f.settings.lengths) (λ l. is_none (length_fail f rows (lengths l))) inside
    c.loop-l.invariant.none (ap is_none (sym c.try_length-fail.ensures.told.told) ∙ test))

pub returns-then-is_none-clause-found : goal.returns-then-is_none-clause-found
returns-then-is_none-clause-found g c l e =
    let f = c.args.f.now in
    let rows = c.args.d.now.rows in
    let test : is_none c.try_length-fail.result ≡ true = search rules in
    let none : c.try_length-fail.result ≡ None = is_passing c.try_length-fail.result test in
    let same : c.loop-l.l ≡ l = cc in
    subst (λ (k : ℕ). HasPassing f rows (length_in f.settings.lengths k) (bound_in c.try_length-fail.new.x)
    (whole_in c.try_length-fail.new.e)) same (record {
      passed = c.try_length-fail.ensures.told.bounds none;
      errors = c.try_length-fail.ensures.told.errors none;
    })

pub loop-l-preserved : goal.loop-l-preserved
loop-l-preserved g c =
    let f = c.args.f.now in
    let rows = c.args.d.now.rows in
    let lengths = length_in f.settings.lengths in
    let l = c.loop-l.l in
    let told = c.try_length-fail.ensures.told.told in
    let test : is_none c.try_length-fail.result ≡ false = search rules in
    record {
      none = none_more l (λ k. is_none (length_fail f rows (lengths k))) c.loop-l.invariant.none
          (ap is_none (sym told) ∙ test);
      told = told_more c.loop-l.fails c.put.new.fails l (λ k. length_fail f rows (lengths k)) c.try_length-fail.result
          c.put.ensures.here c.put.ensures.others c.loop-l.invariant.told told;
      others = none_behind c.loop-l.fails c.put.new.fails l c.put.ensures.others c.loop-l.invariant.others;
    }
