use Rattle.std.proofs.Common.{rules, ◌≡◌, ◌∙◌, ◌++◌, ◌∷◌, [], ◌<◌, length, ap, arith, slice_index_or, pos, FitsSigned}
use Rattle.std.proofs.Common.{w64}
use Rattle.std.proofs.lemmas.Int.{to_z-of_z}
use Rattle.fx_code.specs.Inputs.{word_at}
use Rattle.fx_code.specs.Run.{outputs_at}
use Rattle.fx_large.proofs.running.feed.Goals as goal

pub returns-clause-stands : goal.returns-clause-stands
returns-clause-stands c p list h = search (rules, (c.step.ensures.moment p list h).stands)

pub returns-clause-word : goal.returns-clause-word
returns-clause-word c p list h =
    let u = word_at (list ++ (c.args.sample ∷ []) ∷ []) in
    let out : c.step.new.output ≡ outputs_at p u (length list) = search (rules, (c.step.ensures.moment p list h).output) in
    let one : 0 < length p.outputs = rw (← h.program) (omega (arith, c.requires.ports.output)) in
    let order = c.outputs_are_output_words.ensures p u (length list) 0 one in
    let fits : FitsSigned w64 (slice_index_or c.step.new.output 0 (pos 0)) = search rules in
    to_z-of_z w64 (slice_index_or c.step.new.output 0 (pos 0)) fits
    ∙ ap (λ xs. slice_index_or xs 0 (pos 0)) out ∙ order
