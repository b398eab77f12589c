use Rattle.std.proofs.Common.{◌≡◌, ◌∙◌, ◌≤◌, true, length, rules}
use Rattle.std.specs.Str.{all_ascii_digits}
use Rattle.fx_words.proofs.NumberWords.{parsed}
use Rattle.fx_words.proofs.number.number_of.Goals as goal

pub returns : goal.returns
returns c =
    let digits : all_ascii_digits c.args.word.now ≡ true = search rules in
    let short : length c.args.word.now ≤ 10 = search rules in
    c.ok.ensures.value ∙ parsed c.args.word.now c.parse.result digits short c.parse.ensures.value.0
