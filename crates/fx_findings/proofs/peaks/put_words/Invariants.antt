use Rattle.std.proofs.Common.{◌≡◌, ◌++◌, drop}
use Rattle.fx_findings.specs.Peaks.{words_text}
use Rattle.fx_findings.proofs.peaks.put_words.Given as goal

abbrev pub invariant-loop-word : goal.invariant-loop-word
invariant-loop-word l = l.text.items ++ words_text (drop l.word-index l.words) ≡ l.fn.text.items ++ words_text l.words
