use Rattle.std.proofs.Common.{◌≡◌, None}
use Rattle.fx_block.specs.Failure.{first_of}
use Rattle.fx_check.proofs.Steps.{word}
use Rattle.fx_check.proofs.bounds.test_words.Given as goal

abbrev pub invariant-loop-i : goal.invariant-loop-i
invariant-loop-i l = first_of l.i (word l.p l.c) ≡ None
