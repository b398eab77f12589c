use Rattle.std.proofs.Common.{rules, ◌≡◌, ◌≤◌, ◌+◌, ◌++◌, ◌∷◌, [], ◌^◌, length, sym, subst, arith, unsigned_abs}
use Rattle.std.proofs.Common.{FitsSigned, w64, to_z, of_z, ◌∙◌}
use Rattle.std.proofs.lemmas.Int.{ints, to_z-of_z}
use Rattle.fx_code.specs.Inputs.{word_at}
use Rattle.fx_code.specs.Run.{output_word}
use Rattle.fx_machine.specs.Moments.{StandsAfter}
use Rattle.fx_large.specs.Draws.{draw}
use Rattle.fx_large.specs.Runs.{HasPorts, moments}
use Rattle.fx_large.specs.Sections.{sample_at, sample_of}
use Rattle.fx_large.proofs.RunsSoFar.{RunsSoFar, begins, goes_on, of_word, same_summary}
use Rattle.fx_large.proofs.running.run_samples.Goals as goal

pub loop-init : goal.loop-init
loop-init c =
    let p = c.args.program.now in
    let n = c.args.count in
    let s = c.args.draws.state in
    let m = c.feed.new.machine in
    let x = c.next_sample.result in
    let w = c.feed.result in
    let ports : HasPorts 16 m.program = rw (c.feed.ensures.program, c.in_ok-machine.ensures.program) c.requires.ports in
    let stands : StandsAfter m p ([] ++ (x ∷ []) ∷ []) =
    search (rules, c.feed.ensures.stands p [] c.in_ok-machine.ensures) in
    let word : w ≡ output_word p (word_at ([] ++ (x ∷ []) ∷ [])) 0 0 =
    search (rules, c.feed.ensures.word p [] c.in_ok-machine.ensures) in
    let fits : FitsSigned w64 w = search rules in
    let low : unsigned_abs w ≤ 2 ^ 63 = omega (arith, ints, fits) in
    let same : c.of-summary.result ≡ of_word w = search (rules, c.of-summary.ensures) in
    record {
      so_far = subst (λ z. RunsSoFar p n s 1 m c.next_sample.new.draws.state z) (sym same)
          (begins c.words_read_no_later_inputs.ensures p n s m c.next_sample.new.draws.state x w c.requires.low
          ports c.next_sample.ensures.state c.next_sample.ensures.value stands word low);
      some = omega arith;
    }

pub loop-preserved : goal.loop-preserved
loop-preserved c =
    let p = c.args.program.now in
    let n = c.args.count in
    let s = c.args.draws.state in
    let k = c.loop.counter in
    let r = c.loop.invariant.so_far in
    let m = c.feed-word.new.machine in
    let x = c.next_sample-in-loop.result in
    let w = c.feed-word.result in
    let list = moments k (sample_at s) in
    let ports : HasPorts 16 m.program = rw c.feed-word.ensures.program r.ports in
    let heard : FitsSigned w64 x = search rules in
    let y = to_z w64 (of_z w64 x) in
    let sample : y ≡ sample_of (draw c.loop.draws.state 1) =
    to_z-of_z w64 x heard ∙ c.next_sample-in-loop.ensures.value in
    let stands : StandsAfter m p (list ++ (y ∷ []) ∷ []) = c.feed-word.ensures.stands p list r.stands in
    let word : w ≡ output_word p (word_at (list ++ (y ∷ []) ∷ [])) (length list) 0 =
    c.feed-word.ensures.word p list r.stands in
    let fits : FitsSigned w64 w = search rules in
    let low : unsigned_abs w ≤ 2 ^ 63 = omega (arith, ints, fits) in
    let least = rw (to_z-of_z w64 w fits) at c.take.ensures.least in
    let greatest = rw (to_z-of_z w64 w fits) at c.take.ensures.greatest in
    let sum = rw (to_z-of_z w64 w fits) at c.take.ensures.sum in
    let same = same_summary c.loop.summary c.take.new.self w least greatest sum in
    record {
      so_far = subst (λ z. RunsSoFar p n s (k + 1) m c.next_sample-in-loop.new.draws.state z) (sym same)
          (goes_on c.words_read_no_later_inputs.ensures p n s k c.loop.machine m c.loop.draws.state
          c.next_sample-in-loop.new.draws.state c.loop.summary y w r c.loop.invariant.some
          (omega (arith, c.loop-test.true)) ports c.next_sample-in-loop.ensures.state sample stands word low);
      some = omega (arith, c.loop.invariant.some);
    }
