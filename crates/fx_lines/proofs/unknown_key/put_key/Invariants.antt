use Rattle.std.proofs.Common.{◌≡◌, ◌++◌, drop}
use Rattle.fx_lines.specs.UnknownKey.{shown_key}
use Rattle.fx_lines.proofs.unknown_key.put_key.Given as goal

abbrev pub invariant-loop-byte : goal.invariant-loop-byte
invariant-loop-byte l = l.text.items ++ shown_key (drop l.byte-index l.key) ≡ l.fn.text.items ++ shown_key l.key
