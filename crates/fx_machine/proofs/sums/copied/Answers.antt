use Rattle.std.proofs.Common.{◌≡◌, ◌<◌, List, [], ◌∷◌, length, slice_index_or, subst, ap, ◌∙◌, arith, rules}
use Rattle.std.specs.Int.{w64}
use Rattle.std.specs.Int.RustNames.{FitsSigned}
use Rattle.std.proofs.lemmas.Int.{to_z-of_z}
use Rattle.fx_machine.specs.Prepared.{plan_of, word_in, first_place, IsCopy, Suits}
use Rattle.fx_machine.specs.declared.prepared.Kind.{Kind}
use Rattle.fx_machine.specs.declared.prepared.ScaledTerm.{ScaledTerm}
use Rattle.fx_machine.proofs.Giving.{copy_gives}
use Rattle.fx_machine.proofs.sums.copied.Goals as goal

place_of_first : (ts : List ScaledTerm) (t : ScaledTerm) → 0 < length ts → t ≡ slice_index_or ts 0 t →
    t.place ≡ first_place ts
place_of_first [] t h e = absurd (omega (arith, h))
place_of_first (u ∷ us) t h e = ap (λ (x : ScaledTerm). x.place) e

pub returns : goal.returns
returns c =
    let row = c.args.row.now in
    let words = c.args.words.now in
    let copy : IsCopy (plan_of row) words =
    subst (λ (k : Kind). Suits k (plan_of row) words) c.requires.kind c.requires.runs.kind in
    let one = ap length copy.terms in
    let first : c.index-term.result.now.place ≡ first_place row.terms.items =
    place_of_first row.terms.items c.index-term.result.now (omega (arith, one)) c.index-term.ensures in
    let fits : FitsSigned w64 (word_in words c.index-term.result.now.place) = search rules in
    copy_gives (plan_of row) words _ (omega (arith, c.requires.runs.width.low)) copy
    (to_z-of_z w64 _ fits ∙ ap (word_in words) first)
