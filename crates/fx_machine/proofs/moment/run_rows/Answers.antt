use Rattle.std.proofs.Common.{◌≡◌, ◌<◌, length, subst, sym, ap, ◌∙◌, arith}
use Rattle.std.proofs.lemmas.Int.{ints}
use Rattle.std.specs.Int.{w64, cast_unsigned as of_z, cast_signed as to_z}
use Rattle.fx_code.specs.Code.{row_at}
use Rattle.fx_machine.specs.Prepared.{Plan, plan_for, word_of, is_partial, is_lost, CanRun}
use Rattle.fx_machine.specs.Standing.{partial_at, lost_at}
use Rattle.fx_machine.proofs.Running.{can_run, prepared_at, fit_kept, done_next, bits_more}
use Rattle.fx_machine.proofs.moment.run_rows.Goals as goal

pub row_outcome-outcome-requires : goal.row_outcome-outcome-requires
row_outcome-outcome-requires c =
    let p = c.args.program.now in
    let below : c.loop-i.i < length p.rows = omega (arith, c.loop-i-test.true, c.rows-i-end.ensures.value) in
    let same = prepared_at p c.args.rows.now c.loop-i.i c.index-rows-i.result c.requires.prepared below
    c.index-rows-i.is in
    subst (λ (plan : Plan). CanRun plan c.loop-i.words) (sym same)
    (can_run p c.loop-i.words c.loop-i.i c.requires.fits c.loop-i.invariant.fit below)

pub loop-i-preserved : goal.loop-i-preserved
loop-i-preserved c =
    let p = c.args.program.now in
    let i = c.loop-i.i in
    let plan = plan_for p (row_at p i) in
    let below : i < length p.rows = omega (arith, c.loop-i-test.true, c.rows-i-end.ensures.value) in
    let same = prepared_at p c.args.rows.now i c.index-rows-i.result c.requires.prepared below c.index-rows-i.is in
    let done = c.loop-i.invariant.words in
    let z : to_z w64 (of_z w64 c.row_outcome-outcome.result.word) ≡ c.row_outcome-outcome.result.word =
    omega (arith, ints) in
    let here : c.row_outcome-outcome.result.word ≡ word_of plan c.loop-i.words =
    c.row_outcome-outcome.ensures.word ∙ ap (λ (q : Plan). word_of q c.loop-i.words) same in
    let word = z ∙ here in
    let partial : c.row_outcome-outcome.result.partial ≡ partial_at p c.args.words.now i =
    c.row_outcome-outcome.ensures.partial ∙ ap (λ (q : Plan). is_partial q c.loop-i.words) same
    ∙ ap (is_partial plan) done in
    let lost : c.row_outcome-outcome.result.lost ≡ lost_at p c.args.words.now i =
    c.row_outcome-outcome.ensures.lost ∙ ap (λ (q : Plan). is_lost q c.loop-i.words) same
    ∙ ap (is_lost plan) done in
    record {
      words = rw (word, done) (sym (done_next p c.args.words.now i));
      fit = rw word (fit_kept p c.loop-i.words i _ c.requires.fits c.loop-i.invariant.fit below);
      partial = bits_more _ i _ _ c.loop-i.invariant.partial (rw partial at c.with_row-marks.ensures.partial)
          c.with_row-marks.ensures.other_partial;
      lost = bits_more _ i _ _ c.loop-i.invariant.lost (rw lost at c.with_row-marks.ensures.lost)
          c.with_row-marks.ensures.other_lost;
    }
