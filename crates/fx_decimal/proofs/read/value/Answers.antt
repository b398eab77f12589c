use Rattle.std.proofs.Common.{◌∙◌, ◌≡◌, ◌++◌, ap, sym, arith, w64}
use mir.Syntax.{w128}
use Rattle.std.proofs.lemmas.Int.{fits_signed_from_abs, to_z-of_z}
use Rattle.fx_decimal.specs.Kept.{kept_from}
use Rattle.fx_decimal.specs.declared.value.Kept.{Kept}
use Rattle.fx_decimal.proofs.KeptLaws.{all_on, kept_on, kept_value}
use Rattle.fx_decimal.proofs.read.value.Goals as goal

pub returns : goal.returns
returns c =
    let ds = c.args.whole.now ++ c.args.after.now in
    let none : Kept = record { number = 0; zeros = 0 } in
    let all = all_on c.args.whole.now c.args.after.now c.requires.whole c.requires.after in
    let kept : c.kept_digits-all.result ≡ kept_from none ds =
    c.kept_digits-all.ensures.value ∙ ap (λ (s : Kept).
    kept_from s c.args.after.now) c.kept_digits.ensures.value
    ∙ sym (kept_on none c.args.whole.now c.args.after.now) in
    let back = to_z-of_z w128 c.power.result
    (fits_signed_from_abs w128 c.power.result (omega (arith, c.power.ensures.small))) in
    let exponent = to_z-of_z w64 c.args.exponent
    (fits_signed_from_abs w64 c.args.exponent (omega (arith, c.requires.exponent))) in
    c.limited.ensures ∙ rw (
      back,
      c.power.ensures.value,
      exponent,
      kept,
    ) (kept_value c.args.negative ds _ c.args.exponent all)
