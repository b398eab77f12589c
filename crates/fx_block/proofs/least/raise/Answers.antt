use Rattle.std.proofs.Common.{arith, rules, ◌≡◌, FitsSigned, ◌^◌, ◌∙◌, pos, w64}
use Rattle.std.proofs.lemmas.Int.{to_z-of_z}
use Rattle.fx_sweep.specs.Swept.{whole_in}
use Rattle.fx_totals.specs.Kept.{bound_in}
use Rattle.fx_block.specs.Told.{kept_raise}
use Rattle.fx_block.proofs.Raised.{all_raised, one_more_raised, raise_past}
use Rattle.fx_block.proofs.least.raise.Goals as goal

pub loop-j-preserved : goal.loop-j-preserved
loop-j-preserved g c =
    let fits : FitsSigned w64 c.raised.result = search rules in
    let f = kept_raise c.args.t.now c.args.rows (bound_in c.args.bounds.now) (bound_in c.args.x.now) in
    let here : whole_in c.put.new.at c.loop-j.j ≡ pos (f c.loop-j.j) =
    c.put.ensures.here ∙ to_z-of_z w64 c.raised.result fits ∙ c.raised.ensures.value in
    record {
      long = search rules;
      value = one_more_raised c.loop-j.next c.put.new.at f c.loop-j.j c.loop-j.invariant.value here
          c.put.ensures.others;
      fits = c.put.ensures.fits (2 ^ 62) c.loop-j.invariant.fits
          (rw (to_z-of_z w64 c.raised.result fits) c.raised.ensures.fits);
    }

pub returns-clause-value : goal.returns-clause-value
returns-clause-value g c =
    all_raised c.loop-j.next
    (kept_raise c.args.t.now c.args.rows (bound_in c.args.bounds.now) (bound_in c.args.x.now)) g.row.N
    (omega (arith, c.loop-j.invariant.long, c.fill.ensures.len, c.requires.room))
    (λ k l. c.loop-j.invariant.value k (omega (arith, l, c.loop-j-test.false)))
    (λ k l. raise_past c.args.t.now c.args.rows (bound_in c.args.bounds.now) (bound_in c.args.x.now) k
    (omega (arith, l, c.requires.inside)))
