use Rattle.std.proofs.Common.{◌≡◌, ◌+◌, drop}
use Rattle.fx_text.specs.Tokens.{is_word}
use Rattle.fx_text.specs.TokenReading.{front_len}
use Rattle.fx_text.proofs.token.word_len.Given as goal

abbrev pub invariant-loop-i : goal.invariant-loop-i
invariant-loop-i l = l.i + front_len is_word (drop l.i l.bytes) ≡ front_len is_word l.bytes
