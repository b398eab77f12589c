use Rattle.std.proofs.Common.{rules, ◌≡◌, ◌∙◌, ◌+◌, [], ◌∷◌, ◌++◌, length, w16, w64, FitsSigned, to_z, of_z}
use Rattle.std.proofs.Common.{to_z-of_z, refl, sym, ap}
use Rattle.fx_bench.specs.Checksum.{mixed}
use Rattle.fx_bench.specs.Runs.{drawn, low_bits, moments, next_seed, put_word, seed_before, words_sum}
use Rattle.fx_bench.proofs.Fed.{seed_after, moments_after, moments_count, sum_after}
use Rattle.fx_bench.proofs.machine.run.Goals as goal

pub loop-init : goal.loop-init
unfolding seed_before moments words_sum
loop-init c = record { program = refl; seed = refl; stands = c.requires.new; words = refl }

pub loop-preserved : goal.loop-preserved
loop-preserved c =
    let n = c.loop.counter in
    let p = c.args.machine.now.program in
    let ran = c.loop.invariant.stands in
    let seed : c.next_seed-seed.result ≡ seed_before (n + 1) =
    c.next_seed-seed.ensures ∙ ap next_seed c.loop.invariant.seed ∙ sym (seed_after n) in
    let narrow : FitsSigned w16 c.drawn.result = search rules in
    let sample : to_z w16 (of_z w16 c.drawn.result) ≡ drawn (seed_before (n + 1)) =
    to_z-of_z narrow ∙ c.drawn.ensures ∙ ap drawn seed in
    let more : moments n ++ (to_z w16 (of_z w16 c.drawn.result) ∷ []) ∷ [] ≡ moments (n + 1) =
    ap (λ z. moments n ++ (z ∷ []) ∷ []) sample ∙ sym (moments_after n) in
    let there = ap (λ list. put_word p list (length (moments n))) more
    ∙ ap (λ k. put_word p (moments (n + 1)) k) (moments_count n) in
    let word : c.feed-word.result.0 ≡ put_word p (moments (n + 1)) n =
    c.feed-word.ensures.word p (moments n) ran ∙ there in
    let wide : FitsSigned w64 c.feed-word.result.0 = search rules in
    let low : c.low_bits.result ≡ low_bits (put_word p (moments (n + 1)) n) =
    c.low_bits.ensures ∙ ap low_bits (to_z-of_z wide ∙ word) in
    let sum : c.mixed.result ≡ mixed (words_sum p n) (low_bits (put_word p (moments (n + 1)) n)) =
    c.mixed.ensures ∙ ap (λ s. mixed s c.low_bits.result) c.loop.invariant.words
    ∙ ap (mixed (words_sum p n)) low in
    record {
      program = c.feed-word.ensures.program ∙ c.loop.invariant.program;
      seed = seed;
      stands = rw (← more) (c.feed-word.ensures.stands p (moments n) ran);
      words = sum ∙ sym (sum_after p n);
    }
