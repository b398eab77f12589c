use Rattle.std.proofs.Common.{rules, ◌≡◌, ◌∙◌, [], ◌∷◌, ◌++◌, length, pos, slice_index_or, w16, w64, FitsSigned}
use Rattle.std.proofs.Common.{to_z, of_z, to_z-of_z, ap}
use Rattle.fx_bench.specs.Runs.{put_word}
use Rattle.fx_bench.proofs.machine.feed.Goals as goal

pub returns-clause-stands : goal.returns-clause-stands
returns-clause-stands c p list h =
    let narrow : FitsSigned w16 c.args.sample = search rules in
    let fits : FitsSigned w64 c.args.sample = search rules in
    let is : c.from.result ≡ c.args.sample = c.from.ensures ∙ to_z-of_z narrow in
    let same : to_z w64 (of_z w64 c.from.result) ≡ c.args.sample =
    ap (λ z. to_z w64 (of_z w64 z)) is ∙ to_z-of_z fits in
    rw (← same) (c.step-marks.ensures.moment p list h).stands

pub returns-clause-word : goal.returns-clause-word
returns-clause-word c p list h =
    let narrow : FitsSigned w16 c.args.sample = search rules in
    let fits : FitsSigned w64 c.args.sample = search rules in
    let is : c.from.result ≡ c.args.sample = c.from.ensures ∙ to_z-of_z narrow in
    let same : to_z w64 (of_z w64 c.from.result) ≡ c.args.sample =
    ap (λ z. to_z w64 (of_z w64 z)) is ∙ to_z-of_z fits in
    let out = slice_index_or c.step-marks.new.output 0 (pos 0) in
    let out_fits : FitsSigned w64 out = search rules in
    let put : out ≡ put_word p (list ++ (c.args.sample ∷ []) ∷ []) (length list) =
    rw (← same) (ap (λ words. slice_index_or words 0 (pos 0)) (c.step-marks.ensures.moment p list h).output) in
    to_z-of_z out_fits ∙ put
